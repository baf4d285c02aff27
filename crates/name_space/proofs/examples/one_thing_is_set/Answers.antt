use Rattle.std.proofs.Common.{refl}
use Rattle.name_space.proofs.examples.one_thing_is_set.Goals as goal

pub returns : goal.returns
returns c = refl
