use Rattle.commit_log.proofs.ReadLaws.{held-listed, listed-held, listed-once}
use Rattle.commit_log.proofs.laws.held_locks_are_listed.Goals as goal

pub returns-clause-held : goal.returns-clause-held
returns-clause-held c = held-listed

pub returns-clause-listed : goal.returns-clause-listed
returns-clause-listed c = listed-held

pub returns-clause-once : goal.returns-clause-once
returns-clause-once c = listed-once
