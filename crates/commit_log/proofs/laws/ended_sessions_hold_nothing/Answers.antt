use Rattle.commit_log.proofs.LockLaws.{held-gave, held-did, held-gone}
use Rattle.commit_log.proofs.laws.ended_sessions_hold_nothing.Goals as goal

pub returns-clause-gave : goal.returns-clause-gave
returns-clause-gave c = held-gave

pub returns-clause-did : goal.returns-clause-did
returns-clause-did c = held-did

pub returns-clause-gone : goal.returns-clause-gone
returns-clause-gone c = held-gone
