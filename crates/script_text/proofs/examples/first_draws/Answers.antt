use Rattle.std.proofs.Common.{refl}
use Rattle.script_text.proofs.Literals.{on_literals}
use Rattle.script_text.proofs.examples.first_draws.Goals as goal

pub returns : goal.returns
unfolding on_literals
returns c = refl
