use Rattle.name_space.proofs.UsageLaws.{usage_is_a_sum}
use Rattle.name_space.proofs.laws.usage_is_a_sum.Goals as goal

pub returns : goal.returns
returns c = usage_is_a_sum
