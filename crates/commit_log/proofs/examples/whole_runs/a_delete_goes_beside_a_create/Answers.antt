use Rattle.commit_log.proofs.WorkedRunLemmas.{deleted_beside-told, deleted_beside-kept}
use Rattle.commit_log.proofs.examples.whole_runs.a_delete_goes_beside_a_create.Goals as goal

pub returns-clause-told : goal.returns-clause-told
returns-clause-told c = deleted_beside-told

pub returns-clause-kept : goal.returns-clause-kept
returns-clause-kept c = deleted_beside-kept
