use Rattle.commit_log.proofs.IdLaws.{space-same, ids-same, ids-exists}
use Rattle.commit_log.proofs.laws.only_answers_and_cuts_change_paths.Goals as goal

pub returns-clause-paths : goal.returns-clause-paths
returns-clause-paths c = space-same

pub returns-clause-ids : goal.returns-clause-ids
returns-clause-ids c = ids-same

pub returns-clause-numbered : goal.returns-clause-numbered
returns-clause-numbered c = ids-exists
