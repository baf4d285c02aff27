use Rattle.commit_log.proofs.WorkedRunLemmas.{made_without_locks-told, made_without_locks-kept, made_and_seen-told, made_and_seen-kept}
use Rattle.commit_log.proofs.examples.whole_runs.a_directory_is_made.Goals as goal

pub returns-clause-told_without_locks : goal.returns-clause-told_without_locks
returns-clause-told_without_locks c = made_without_locks-told

pub returns-clause-kept_without_locks : goal.returns-clause-kept_without_locks
returns-clause-kept_without_locks c = made_without_locks-kept

pub returns-clause-told : goal.returns-clause-told
returns-clause-told c = made_and_seen-told

pub returns-clause-kept : goal.returns-clause-kept
returns-clause-kept c = made_and_seen-kept
