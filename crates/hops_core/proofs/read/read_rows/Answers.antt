use Rattle.std.proofs.Common.{rules, ◌≡◌, ◌++◌, ◌∷◌, [], Err, Some, slice_get, sym, subst}
use Rattle.hops_core.specs.ReadLocked.{AreRead, IsRow}
use Rattle.hops_core.proofs.ReadRowLaws.{halted_at, pairs_more, read_there}
use Rattle.hops_core.proofs.read.read_rows.Goals as goal

pub returns-in_err-now : goal.returns-in_err-now
returns-in_err-now c =
    let told : c.from_residual.result ≡ Err c.in_err-now.field-0.0 = search rules in
    let here : slice_get c.args.found.now c.loop-row.row-index ≡ Some c.row-item.result = read_there c.args.found.now c.loop-row.row-index c.row-item.result c.row-item.result c.loop-row-test.true c.row-item.is in
    subst (AreRead c.args.db.now c.args.s c.args.found.now) (sym told)
    (halted_at c.args.db.now c.args.s c.args.found.now c.loop-row.row-index c.row-item.result here c.in_err-now.field-0.0 c.in_err-now.ensures)

pub loop-row-preserved : goal.loop-row-preserved
loop-row-preserved c =
    let here : slice_get c.args.found.now c.loop-row.row-index ≡ Some c.row-item.result = read_there c.args.found.now c.loop-row.row-index c.row-item.result c.row-item.result c.loop-row-test.true c.row-item.is in
    let put : c.push_row.new.rows.items ≡ c.loop-row.rows.items ++ c.in_ok-now.now ∷ [] = search rules in
    rw put (pairs_more (IsRow c.args.db.now c.args.s) c.args.found.now c.loop-row.rows.items c.loop-row.row-index c.row-item.result c.in_ok-now.now here c.loop-row.invariant c.in_ok-now.ensures)
