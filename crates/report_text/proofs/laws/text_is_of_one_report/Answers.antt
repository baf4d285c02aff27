use Rattle.report_text.proofs.ReportBack.{one_of_bytes}
use Rattle.report_text.proofs.laws.text_is_of_one_report.Goals as goal

pub returns : goal.returns
returns c = one_of_bytes
