use Rattle.name_space.proofs.PlainLaws.{plain_keeps_a_namespace}
use Rattle.name_space.proofs.laws.plain_keeps_a_namespace.Goals as goal

pub returns : goal.returns
returns c = plain_keeps_a_namespace
