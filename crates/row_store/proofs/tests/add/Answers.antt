use Rattle.std.proofs.Common.{◌≡◌, false, ◌||◌, ◌∷◌, [], is_some, ap, sym, ◌∙◌}
use Rattle.std.specs.FinMap as map
use Rattle.std.specs.FinSet as set
use Rattle.std.specs.Cmp.{eq_by_cmp_equiv}
use Rattle.hops_base.specs.Key.{same_key, key_cmp_total}
use Rattle.row_store.proofs.ReadyLaws.{ready_with-rowless}
use Rattle.row_store.proofs.tests.add.Goals as goal

pub insert-requires : goal.insert-requires
insert-requires c =
    let none : map.contains_key c.args.table.now.rows c.args.key ≡ false = ap is_some (sym c.in-None.ensures) in
    ap (λ s. set.contains s c.args.key) c.in_ok-reserve.ensures.ok
    ∙ ready_with-rowless c.args.table.now (c.in_ok-copy.field-0 ∷ []) c.args.key none
    (ap (λ k. same_key c.args.key k || false) c.in_ok-copy.ensures ∙ ap (λ b. b || false) ((eq_by_cmp_equiv key_cmp_total).refl c.args.key))
