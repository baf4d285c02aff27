use Rattle.std.proofs.Common.{rules}
use Rattle.std.specs.List.Sorted.{IsStrictlySortedBy}
use Rattle.commit_log.specs.Along.{Each}
use Rattle.commit_log.proofs.examples.answering.done_calls_have_their_notes.Goals as goal

pub returns-clause-done : goal.returns-clause-done
unfolding Each IsStrictlySortedBy
returns-clause-done c = search rules

pub returns-clause-with_other_room : goal.returns-clause-with_other_room
unfolding Each IsStrictlySortedBy
returns-clause-with_other_room c = search rules
