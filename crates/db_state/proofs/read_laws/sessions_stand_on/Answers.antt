use Rattle.db_state.proofs.ReadsBesideLaws.{stands_beside, stands_on}
use Rattle.db_state.proofs.read_laws.sessions_stand_on.Goals as goal

pub returns : goal.returns
returns c = record { note = stands_beside; commit = stands_on }
