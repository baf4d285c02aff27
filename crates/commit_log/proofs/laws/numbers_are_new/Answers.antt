use Rattle.commit_log.proofs.OrderLaws.{session_is_new, op_is_new}
use Rattle.commit_log.proofs.laws.numbers_are_new.Goals as goal

pub returns-clause-session : goal.returns-clause-session
returns-clause-session c = session_is_new

pub returns-clause-operation : goal.returns-clause-operation
returns-clause-operation c = op_is_new
