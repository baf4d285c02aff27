use Rattle.db_state.proofs.ReadsAgainLaws.{stand_further}
use Rattle.db_state.proofs.read_laws.reads_stand_one_row_further.Goals as goal

pub returns : goal.returns
returns c = stand_further
