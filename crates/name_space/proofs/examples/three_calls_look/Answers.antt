use Rattle.std.proofs.Common.{refl}
use Rattle.name_space.proofs.examples.three_calls_look.Goals as goal

pub returns : goal.returns
returns c = refl
