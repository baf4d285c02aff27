use Rattle.db_state.proofs.ConsistentLaws.{opening_consistent}
use Rattle.db_state.proofs.laws.the_opening_is_consistent.Goals as goal

pub returns : goal.returns
returns c = opening_consistent
