use Rattle.db_state.proofs.MoveLaws.{moved_core}
use Rattle.db_state.proofs.core_laws.going_on_keeps_it.Goals as goal

pub returns : goal.returns
returns c = moved_core
