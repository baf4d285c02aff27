use Rattle.std.proofs.Common.{refl}
use Rattle.name_space.proofs.examples.another_writer.Goals as goal

pub returns : goal.returns
returns c = record { anew = refl; lost = refl }
