use Rattle.db_state.proofs.ReadsWriteLaws.{session_stays}
use Rattle.db_state.proofs.read_laws.reads_stand_beside_a_commit.Goals as goal

pub returns : goal.returns
returns c = session_stays
