use Rattle.hops_cli.proofs.ReportLemmas.{run_reports}
use Rattle.hops_cli.proofs.run_report.Goals as goal

pub new-report-requires : goal.new-report-requires
new-report-requires c = run_reports c.args.script c.in_ok-ran.ran.book.notes c.in_ok-ran.ran.answers.items c.in_ok-ran.ran.tree.items c.in_ok-ran.ensures
