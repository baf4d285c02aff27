use Rattle.commit_log.proofs.LockLaws.{taken-from_held, held-from_taken}
use Rattle.commit_log.proofs.laws.locks_are_taken_and_not_given_back.Goals as goal

pub returns-clause-taken : goal.returns-clause-taken
returns-clause-taken c = taken-from_held

pub returns-clause-held : goal.returns-clause-held
returns-clause-held c = held-from_taken
