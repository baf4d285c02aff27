use Rattle.std.proofs.Common.{refl}
use Rattle.name_space.proofs.examples.file_in_the_way.Goals as goal

pub returns : goal.returns
returns c = refl
