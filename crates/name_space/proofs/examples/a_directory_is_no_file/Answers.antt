use Rattle.std.proofs.Common.{refl}
use Rattle.name_space.proofs.examples.a_directory_is_no_file.Goals as goal

pub returns : goal.returns
returns c = refl
