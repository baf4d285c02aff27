use Rattle.name_space.proofs.RunLaws.{calls_keep_a_namespace}
use Rattle.name_space.proofs.laws.calls_keep_a_namespace.Goals as goal

pub returns : goal.returns
returns c = calls_keep_a_namespace
