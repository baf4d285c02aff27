use Rattle.chain_check.specs.Search.{LeavesNone}
use Rattle.chain_check.proofs.search.next_left.Given as goal

abbrev pub invariant-loop-place : goal.invariant-loop-place
invariant-loop-place l = LeavesNone l.db.locks l.s l.marks l.places l.from l.place
