use Rattle.db_state.proofs.UnderLaws.{children_counted}
use Rattle.db_state.proofs.row_laws.children_are_rows_under_a_row.Goals as goal

pub returns : goal.returns
returns c = children_counted
