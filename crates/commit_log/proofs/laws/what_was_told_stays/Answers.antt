use Rattle.commit_log.proofs.PartLaws.{opening_of-kept, flag_of-kept}
use Rattle.commit_log.proofs.laws.what_was_told_stays.Goals as goal

pub returns-clause-opening : goal.returns-clause-opening
returns-clause-opening c = opening_of-kept

pub returns-clause-flag : goal.returns-clause-flag
returns-clause-flag c = flag_of-kept
