use Rattle.std.proofs.Common.{refl}
use Rattle.name_space.proofs.examples.name_quota.Goals as goal

pub returns : goal.returns
returns c = refl
