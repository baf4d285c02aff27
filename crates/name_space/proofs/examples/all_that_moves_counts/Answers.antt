use Rattle.std.proofs.Common.{refl}
use Rattle.name_space.proofs.examples.all_that_moves_counts.Goals as goal

pub returns : goal.returns
returns c = refl
