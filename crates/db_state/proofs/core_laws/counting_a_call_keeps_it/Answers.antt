use Rattle.db_state.proofs.OpenLaws.{begun_core}
use Rattle.db_state.proofs.core_laws.counting_a_call_keeps_it.Goals as goal

pub returns : goal.returns
returns c = begun_core
