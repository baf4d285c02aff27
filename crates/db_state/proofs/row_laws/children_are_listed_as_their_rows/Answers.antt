use Rattle.db_state.proofs.ListLaws.{children_told_as_rows}
use Rattle.db_state.proofs.row_laws.children_are_listed_as_their_rows.Goals as goal

pub returns : goal.returns
returns c = children_told_as_rows
