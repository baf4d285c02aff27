use Rattle.std.proofs.Common.{take}
use Rattle.db_state.specs.ReadSteps.{AllPairs}
use Rattle.hops_core.specs.ReadLocked.{IsRow}
use Rattle.hops_core.proofs.read.read_rows.Given as goal

abbrev pub invariant-loop-row : goal.invariant-loop-row
invariant-loop-row l = AllPairs (IsRow l.db l.s) (take l.row-index l.found) l.rows.items
