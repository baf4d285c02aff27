use Rattle.std.proofs.Common.{rules}
use Rattle.std.specs.List.Sorted.{IsStrictlySortedBy}
use Rattle.commit_log.specs.Along.{Each}
use Rattle.commit_log.proofs.examples.answering.calls_left_alone_had_no_namenode.Goals as goal

pub returns-clause-left : goal.returns-clause-left
unfolding Each IsStrictlySortedBy
returns-clause-left c = search rules

pub returns-clause-after_its_did : goal.returns-clause-after_its_did
unfolding Each IsStrictlySortedBy
returns-clause-after_its_did c = search rules

pub returns-clause-beside_another : goal.returns-clause-beside_another
unfolding Each IsStrictlySortedBy
returns-clause-beside_another c = search rules
