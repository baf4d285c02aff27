use Rattle.db_state.proofs.WaitLaws.{no_circle}
use Rattle.db_state.proofs.core_laws.nobody_waits_in_a_circle.Goals as goal

pub returns : goal.returns
returns c = no_circle
