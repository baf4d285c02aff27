use Rattle.commit_log.proofs.LockLaws.{held-shared}
use Rattle.commit_log.proofs.laws.sound_locks_are_shared.Goals as goal

pub returns : goal.returns
returns c = held-shared
