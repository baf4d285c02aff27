use Rattle.row_locks.proofs.LockLaws.{one_conflict, one_given_back}
use Rattle.row_locks.proofs.PlanLaws.{one_plan}
use Rattle.row_locks.proofs.laws.each_answer_is_the_only_one.Goals as goal

pub returns : goal.returns
returns c = record { conflict = one_conflict; given_back = one_given_back; plan = one_plan }
