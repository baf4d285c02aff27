use Rattle.db_state.proofs.ReadsAgainLaws.{read_stands}
use Rattle.db_state.proofs.read_laws.reads_stand_once_read.Goals as goal

pub returns : goal.returns
returns c = read_stands
