use Rattle.std.proofs.Common.{refl}
use Rattle.script_text.proofs.Literals.{on_literals}
use Rattle.report_text.proofs.examples.notes_are_written.Goals as goal

pub returns-clause-keys : goal.returns-clause-keys
unfolding on_literals
returns-clause-keys c = refl

pub returns-clause-notes : goal.returns-clause-notes
unfolding on_literals
returns-clause-notes c = refl
