use Rattle.commit_log.proofs.OneClientLaws.{single_told, single_kept}
use Rattle.commit_log.proofs.laws.a_single_run_is_told.Goals as goal

pub returns-clause-told : goal.returns-clause-told
returns-clause-told c = single_told

pub returns-clause-kept : goal.returns-clause-kept
returns-clause-kept c = single_kept
