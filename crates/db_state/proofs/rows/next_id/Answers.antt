use Rattle.std.proofs.Common.{◌≡◌, ◌≤◌, ◌<◌, ◌+◌, ◌^◌, ◌∷◌, ◌∙◌, Some, drop, ap, sym, arith, rules}
use Rattle.std.proofs.lemmas.List.{drop_more}
use Rattle.db_state.specs.declared.writes.Row.TheVariants as row
use Rattle.db_state.specs.Written.{next_after}
use Rattle.db_state.proofs.IdLemmas.{id_below}
use Rattle.db_state.proofs.rows.next_id.Goals as goal

pub overflow_add-inode : goal.overflow_add-inode
overflow_add-inode c =
    let is : c.loop-row-item.result.1 ≡ Some (row.Inode c.in-Some-Inode.inode) = search rules in
    let step : drop c.loop-row.row-index c.args.writes.now ≡ c.loop-row-item.result ∷ drop (c.loop-row.row-index + 1) c.args.writes.now =
    drop_more c.args.writes.now c.loop-row.row-index c.loop-row-item.result c.loop-row-test.true ∙ ap (λ w. w ∷ drop (c.loop-row.row-index + 1) c.args.writes.now) (sym c.loop-row-item.is) in
    let left : next_after c.loop-row.next (c.loop-row-item.result ∷ drop (c.loop-row.row-index + 1) c.args.writes.now) ≡ next_after c.args.next c.args.writes.now = ap (next_after c.loop-row.next) (sym step) ∙ c.loop-row.invariant in
    let most : next_after c.args.next c.args.writes.now < 2 ^ 64 = c.requires in
    let low : c.in-Some-Inode.inode.id.0 + 1 ≤ next_after c.args.next c.args.writes.now = id_below c.loop-row.next (next_after c.args.next c.args.writes.now) c.loop-row-item.result (drop (c.loop-row.row-index + 1) c.args.writes.now) c.in-Some-Inode.inode is left in
    omega arith
