use Rattle.db_state.proofs.DiffersLaws.{changed_core}
use Rattle.db_state.proofs.core_laws.meeting_a_change_keeps_it.Goals as goal

pub returns : goal.returns
returns c = changed_core
