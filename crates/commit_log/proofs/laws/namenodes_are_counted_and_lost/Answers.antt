use Rattle.commit_log.proofs.GoneLaws.{commits_of-push, is_void-push, is_live-push}
use Rattle.commit_log.proofs.laws.namenodes_are_counted_and_lost.Goals as goal

pub returns-clause-commits : goal.returns-clause-commits
returns-clause-commits c = commits_of-push

pub returns-clause-void : goal.returns-clause-void
returns-clause-void c = is_void-push

pub returns-clause-live : goal.returns-clause-live
returns-clause-live c = is_live-push
