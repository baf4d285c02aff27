use Rattle.std.proofs.Common.{◌≤◌}
use Rattle.chain_check.specs.Search.{HoldsRows}
use Rattle.chain_check.proofs.search.last_free.Given as goal

abbrev pub invariant-loop-row : goal.invariant-loop-row
invariant-loop-row l = record {
  low : l.row ≤ l.mark;
  passed : HoldsRows l.db.locks l.s l.rows l.row l.mark;
}

abbrev pub decreases-loop-row : goal.decreases-loop-row
decreases-loop-row l = l.row
