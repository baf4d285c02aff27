use Rattle.std.proofs.Common.{refl}
use Rattle.name_space.proofs.examples.from_the_root_down.Goals as goal

pub returns : goal.returns
returns c = refl
