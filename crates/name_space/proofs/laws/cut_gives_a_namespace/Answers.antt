use Rattle.name_space.proofs.KeepLaws.{cut_gives_a_namespace}
use Rattle.name_space.proofs.laws.cut_gives_a_namespace.Goals as goal

pub returns : goal.returns
returns c = cut_gives_a_namespace
