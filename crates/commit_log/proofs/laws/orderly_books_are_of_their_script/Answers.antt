use Rattle.commit_log.proofs.OrderLaws.{opened-from_orderly, answered-from_orderly}
use Rattle.commit_log.proofs.laws.orderly_books_are_of_their_script.Goals as goal

pub returns-clause-opened : goal.returns-clause-opened
returns-clause-opened c = opened-from_orderly

pub returns-clause-answered : goal.returns-clause-answered
returns-clause-answered c = answered-from_orderly
