use Rattle.std.proofs.Common.{◌≡◌, take}
use Rattle.row_store.specs.Table.{ready_with}
use Rattle.row_store.proofs.rows.Rows.reserve.Given as goal

-- the keys so far are ready, and the rows stay
abbrev pub invariant-loop-key : goal.invariant-loop-key
invariant-loop-key g l = record {
  rows : l.self.rows ≡ l.fn.self.rows;
  ready : l.self.ready ≡ ready_with l.fn.self (take l.key-index l.keys);
}
