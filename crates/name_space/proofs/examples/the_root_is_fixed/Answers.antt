use Rattle.std.proofs.Common.{refl}
use Rattle.name_space.proofs.examples.the_root_is_fixed.Goals as goal

pub returns : goal.returns
returns c = refl
