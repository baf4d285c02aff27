use Rattle.db_state.proofs.PathLaws.{injective}
use Rattle.db_state.proofs.laws.a_row_has_one_path.Goals as goal

pub returns : goal.returns
returns c = injective
