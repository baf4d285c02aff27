use Rattle.std.proofs.Common.{refl}
use Rattle.script_text.proofs.Literals.{on_literals}
use Rattle.report_text.proofs.examples.answers_and_entries_are_written.Goals as goal

pub returns-clause-answers : goal.returns-clause-answers
unfolding on_literals
returns-clause-answers c = refl

pub returns-clause-entries : goal.returns-clause-entries
unfolding on_literals
returns-clause-entries c = refl
