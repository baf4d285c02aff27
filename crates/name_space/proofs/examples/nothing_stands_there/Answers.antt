use Rattle.std.proofs.Common.{refl}
use Rattle.name_space.proofs.examples.nothing_stands_there.Goals as goal

pub returns : goal.returns
returns c = refl
