use Rattle.std.proofs.Common.{◌≡◌, List, sym, ap, subst, ◌∙◌}
use Rattle.hops_base.specs.declared.key.Key.{Key}
use Rattle.inode_table.specs.declared.inode.Inode.{Inode}
use Rattle.db_state.specs.declared.view.Place.{Place}
use Rattle.chain_check.specs.Search.{IsLastFree, LeavesAny}
use Rattle.chain_check.proofs.SpotLaws.{read_at, leaves_here, leaves_after}
use Rattle.chain_check.proofs.search.leaves_any.Goals as goal

pub returns-then-is_some : goal.returns-then-is_some
returns-then-is_some c =
    let next = c.requires.next in
    let rows : c.as_slice-rows.result.now ≡ next.place.found.items = c.as_slice-rows.ensures.items ∙ ap (λ (p : Place). p.found.items) (read_at c.args.places.now c.args.next.place next.place c.index-places-next.result next.placed) in
    let found = subst (λ (l : List (Key × Inode)). IsLastFree c.args.db.now.locks c.args.s l c.args.next.row c.last_free.result) rows c.last_free.ensures in
    subst (LeavesAny c.args.db.now.locks c.args.s c.args.marks.now c.args.places.now c.args.next) (sym c.if-is_some.true)
    (leaves_here c.args.db.now.locks c.args.s c.args.marks.now c.args.places.now c.args.next next c.last_free.result (sym c.is_some.ensures ∙ c.if-is_some.true) found)

pub returns-else-is_some : goal.returns-else-is_some
returns-else-is_some c =
    let next = c.requires.next in
    let rows : c.as_slice-rows.result.now ≡ next.place.found.items = c.as_slice-rows.ensures.items ∙ ap (λ (p : Place). p.found.items) (read_at c.args.places.now c.args.next.place next.place c.index-places-next.result next.placed) in
    let found = subst (λ (l : List (Key × Inode)). IsLastFree c.args.db.now.locks c.args.s l c.args.next.row c.last_free.result) rows c.last_free.ensures in
    subst (LeavesAny c.args.db.now.locks c.args.s c.args.marks.now c.args.places.now c.args.next) (sym c.is_some-else-is_some.ensures)
    (leaves_after c.args.db.now.locks c.args.s c.args.marks.now c.args.places.now c.args.next next c.last_free.result (sym c.is_some.ensures ∙ c.if-is_some.false) found c.next_left.result c.next_left.ensures)
