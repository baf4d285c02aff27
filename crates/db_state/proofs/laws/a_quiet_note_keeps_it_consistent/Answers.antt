use Rattle.db_state.proofs.ConsistentLaws.{noted_consistent}
use Rattle.db_state.proofs.laws.a_quiet_note_keeps_it_consistent.Goals as goal

pub returns : goal.returns
returns c = noted_consistent
