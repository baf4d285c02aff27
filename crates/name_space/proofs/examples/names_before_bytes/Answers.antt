use Rattle.std.proofs.Common.{refl}
use Rattle.name_space.proofs.examples.names_before_bytes.Goals as goal

pub returns : goal.returns
returns c = refl
