use Rattle.std.proofs.Common.{refl}
use Rattle.name_space.proofs.examples.past_a_quota.Goals as goal

pub returns : goal.returns
returns c = refl
