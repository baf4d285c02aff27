use Rattle.db_state.proofs.ReadsViewLaws.{view_current}
use Rattle.db_state.proofs.read_laws.reads_that_stand_are_current.Goals as goal

pub returns : goal.returns
returns c = view_current
