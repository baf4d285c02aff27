use Rattle.db_state.proofs.PathLaws.{inserted}
use Rattle.db_state.proofs.laws.a_new_row_adds_its_path.Goals as goal

pub returns : goal.returns
returns c = inserted
