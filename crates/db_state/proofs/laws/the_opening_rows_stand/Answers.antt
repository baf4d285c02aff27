use Rattle.db_state.proofs.OpeningLaws.{opening_tree, opening_stands}
use Rattle.db_state.proofs.laws.the_opening_rows_stand.Goals as goal

pub returns : goal.returns
returns c = record { tree = opening_tree; stands = opening_stands }
