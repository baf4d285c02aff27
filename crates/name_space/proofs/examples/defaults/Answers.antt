use Rattle.std.proofs.Common.{refl}
use Rattle.name_space.proofs.examples.defaults.Goals as goal

pub returns : goal.returns
returns c = record { tries = refl; grace = refl }
