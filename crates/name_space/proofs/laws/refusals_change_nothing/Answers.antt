use Rattle.name_space.proofs.CallLaws.{refusals_change_nothing}
use Rattle.name_space.proofs.laws.refusals_change_nothing.Goals as goal

pub returns : goal.returns
returns c = refusals_change_nothing
