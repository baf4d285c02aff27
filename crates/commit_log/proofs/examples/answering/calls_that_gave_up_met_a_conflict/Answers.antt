use Rattle.std.proofs.Common.{rules}
use Rattle.std.specs.List.Sorted.{IsStrictlySortedBy}
use Rattle.commit_log.specs.Along.{Each}
use Rattle.commit_log.proofs.examples.answering.calls_that_gave_up_met_a_conflict.Goals as goal

pub returns-clause-again : goal.returns-clause-again
unfolding Each IsStrictlySortedBy
returns-clause-again c = search rules
