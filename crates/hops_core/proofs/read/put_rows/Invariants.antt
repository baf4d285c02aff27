use Rattle.std.proofs.Common.{◌≡◌, ◌++◌, length}
use Rattle.hops_core.specs.ReadLocked.{refreshed}
use Rattle.hops_core.proofs.read.put_rows.Given as goal

abbrev pub invariant-loop-row : goal.invariant-loop-row
invariant-loop-row l = record {
  rest : l.yielded ++ l.row-iterator.rest.items ≡ l.fn.rows.items;
  at : l.at ≡ length l.yielded;
  found : l.found.items ≡ refreshed l.fn.found.items l.yielded;
}
