use Rattle.name_space.proofs.NamespaceLaws.{opening_is_a_namespace}
use Rattle.name_space.proofs.laws.opening_is_a_namespace.Goals as goal

pub returns : goal.returns
returns c = opening_is_a_namespace
