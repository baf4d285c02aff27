use Rattle.std.proofs.Common.{refl}
use Rattle.name_space.proofs.examples.what_stat_tells.Goals as goal

pub returns : goal.returns
returns c = refl
