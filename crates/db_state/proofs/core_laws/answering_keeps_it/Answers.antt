use Rattle.db_state.proofs.AnswerLaws.{answered_core}
use Rattle.db_state.proofs.core_laws.answering_keeps_it.Goals as goal

pub returns : goal.returns
returns c = answered_core
