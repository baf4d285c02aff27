use Rattle.commit_log.proofs.FlagLaws.{flags-flag, flags-did, flags-reclaim, flags-same}
use Rattle.commit_log.proofs.laws.flags_are_set_and_ended.Goals as goal

pub returns-clause-set : goal.returns-clause-set
returns-clause-set c = flags-flag

pub returns-clause-answered : goal.returns-clause-answered
returns-clause-answered c = flags-did

pub returns-clause-reclaimed : goal.returns-clause-reclaimed
returns-clause-reclaimed c = flags-reclaim

pub returns-clause-left : goal.returns-clause-left
returns-clause-left c = flags-same
