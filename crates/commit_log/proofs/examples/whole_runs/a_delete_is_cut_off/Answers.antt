use Rattle.commit_log.proofs.WorkedRunLemmas.{cut_off-told, cut_off-kept}
use Rattle.commit_log.proofs.examples.whole_runs.a_delete_is_cut_off.Goals as goal

pub returns-clause-told : goal.returns-clause-told
returns-clause-told c = cut_off-told

pub returns-clause-kept : goal.returns-clause-kept
returns-clause-kept c = cut_off-kept
