use Rattle.db_state.proofs.MetLaws.{met_lock_core}
use Rattle.db_state.proofs.core_laws.meeting_a_lock_keeps_it.Goals as goal

pub returns : goal.returns
returns c = met_lock_core
