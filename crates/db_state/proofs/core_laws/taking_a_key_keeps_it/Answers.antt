use Rattle.db_state.proofs.TakeLaws.{took_core}
use Rattle.db_state.proofs.core_laws.taking_a_key_keeps_it.Goals as goal

pub returns : goal.returns
returns c = took_core
