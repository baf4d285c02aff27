use Rattle.db_state.proofs.RemoveLaws.{row_of_removed, tree_removed, given_removed, stands_removed_quota}
use Rattle.db_state.proofs.row_laws.a_row_goes.Goals as goal

pub returns : goal.returns
returns c = record { paths = row_of_removed; tree = tree_removed; given = given_removed; stands = stands_removed_quota }
