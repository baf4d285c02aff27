use Rattle.name_space.proofs.GrantedLaws.{rename_moves_all}
use Rattle.name_space.proofs.laws.rename_moves_all.Goals as goal

pub returns : goal.returns
returns c = rename_moves_all
