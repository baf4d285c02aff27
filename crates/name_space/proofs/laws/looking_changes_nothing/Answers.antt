use Rattle.name_space.proofs.CallLaws.{looking_changes_nothing}
use Rattle.name_space.proofs.laws.looking_changes_nothing.Goals as goal

pub returns : goal.returns
returns c = looking_changes_nothing
