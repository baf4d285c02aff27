use Rattle.db_state.proofs.OpeningCoreLaws.{opening_core}
use Rattle.db_state.proofs.core_laws.it_holds_at_first.Goals as goal

pub returns : goal.returns
returns c = opening_core
