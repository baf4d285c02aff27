use Rattle.std.proofs.Common.{refl}
use Rattle.name_space.proofs.examples.one_writer.Goals as goal

pub returns : goal.returns
returns c = record { own = refl; other = refl; removed = refl }
