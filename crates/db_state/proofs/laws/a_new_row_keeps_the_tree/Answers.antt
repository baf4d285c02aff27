use Rattle.db_state.proofs.PathLaws.{tree_grown}
use Rattle.db_state.proofs.laws.a_new_row_keeps_the_tree.Goals as goal

pub returns : goal.returns
returns c = tree_grown
