use Rattle.std.proofs.Common.{rules}
use Rattle.std.specs.List.Sorted.{IsStrictlySortedBy}
use Rattle.commit_log.specs.Along.{Each}
use Rattle.commit_log.proofs.examples.answering.notes_of_a_client_rise.Goals as goal

pub returns-clause-order_turned : goal.returns-clause-order_turned
unfolding Each IsStrictlySortedBy
returns-clause-order_turned c answers = cc (answers.rise.0.0.0)

pub returns-clause-of_two_clients : goal.returns-clause-of_two_clients
unfolding Each IsStrictlySortedBy
returns-clause-of_two_clients c = search rules
