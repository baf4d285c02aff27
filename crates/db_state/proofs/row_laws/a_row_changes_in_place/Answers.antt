use Rattle.db_state.proofs.ChangeLaws.{row_of_changed, tree_changed, given_changed, stands_changed}
use Rattle.db_state.proofs.row_laws.a_row_changes_in_place.Goals as goal

pub returns : goal.returns
returns c = record { paths = row_of_changed; tree = tree_changed; given = given_changed; stands = stands_changed }
