use Rattle.std.proofs.Common.{refl}
use Rattle.script_text.proofs.Literals.{on_literals}
use Rattle.report_text.proofs.examples.replies_are_written.Goals as goal

pub returns-clause-replies : goal.returns-clause-replies
unfolding on_literals
returns-clause-replies c = refl

pub returns-clause-refusals : goal.returns-clause-refusals
unfolding on_literals
returns-clause-refusals c = refl
