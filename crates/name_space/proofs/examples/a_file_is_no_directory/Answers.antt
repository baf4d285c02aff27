use Rattle.std.proofs.Common.{refl}
use Rattle.name_space.proofs.examples.a_file_is_no_directory.Goals as goal

pub returns : goal.returns
returns c = refl
