use Rattle.std.proofs.Common.{refl}
use Rattle.name_space.proofs.examples.rename_carries_all_below.Goals as goal

pub returns : goal.returns
returns c = refl
