use Rattle.db_state.proofs.ReadsEndLaws.{ends_locked, ends_renamed}
use Rattle.db_state.proofs.read_laws.the_last_row_found_is_locked.Goals as goal

pub returns : goal.returns
returns c = record { path = ends_locked; rename = ends_renamed }
