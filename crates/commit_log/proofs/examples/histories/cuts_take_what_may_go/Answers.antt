use Rattle.std.proofs.Common.{rules}
use Rattle.std.specs.List.{IsDistinct}
use Rattle.std.specs.List.Sorted.{IsStrictlySortedBy}
use Rattle.commit_log.specs.Along.{Each}
use Rattle.commit_log.specs.Legal.{space}
use Rattle.commit_log.proofs.examples.histories.cuts_take_what_may_go.Goals as goal

pub returns-clause-cut : goal.returns-clause-cut
unfolding Each space IsDistinct IsStrictlySortedBy
returns-clause-cut c = search rules

pub returns-clause-cut_twice_in_one : goal.returns-clause-cut_twice_in_one
unfolding Each space IsDistinct IsStrictlySortedBy
returns-clause-cut_twice_in_one c = search rules

pub returns-clause-cut_that_falls : goal.returns-clause-cut_that_falls
unfolding Each space IsDistinct IsStrictlySortedBy
returns-clause-cut_that_falls c = search rules
