use Rattle.report_text.proofs.ReportBack.{one_of_values}
use Rattle.report_text.proofs.laws.values_are_of_one_report.Goals as goal

pub returns : goal.returns
returns c = one_of_values
