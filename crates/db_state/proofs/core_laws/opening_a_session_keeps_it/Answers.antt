use Rattle.db_state.proofs.OpenLaws.{opened_core}
use Rattle.db_state.proofs.core_laws.opening_a_session_keeps_it.Goals as goal

pub returns : goal.returns
returns c = opened_core
