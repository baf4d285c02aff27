use Rattle.std.proofs.Common.{refl}
use Rattle.name_space.proofs.examples.room_is_not_read.Goals as goal

pub returns : goal.returns
returns c = record { listed = refl; others = refl }
