use Rattle.db_state.proofs.StandLaws.{stands_grown}
use Rattle.db_state.proofs.laws.a_new_row_adds_its_entry.Goals as goal

pub returns : goal.returns
returns c = stands_grown
