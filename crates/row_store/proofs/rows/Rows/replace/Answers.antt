use Rattle.std.proofs.Common.{◌≡◌, true, Some, None, refl, sym, ap, ◌∙◌, is_some}
use Rattle.std.specs.FinMap as map
use Rattle.std.specs.Map.{lookup}
use Rattle.std.specs.Option.{option_flatten}
use Rattle.hops_base.specs.Key.{same_key}
use Rattle.row_store.proofs.EditLemmas.{filled, remove_absent}
use Rattle.row_store.proofs.TableLemmas.{get_rows, rows_of, ready_of, slot_there, row_not_ready}
use Rattle.row_store.proofs.rows.Rows.replace.Goals as goal

pub fill-requires : goal.fill-requires
fill-requires g c =
    let row : map.contains_key (rows_of c.self.inside.slots.items) c.args.key.now ≡ true = ap (λ t. map.contains_key t.rows c.args.key.now) c.self.view_is ∙ c.requires in
    slot_there c.self.inside.slots.items c.args.key.now c.self.invariant (rw row refl)

pub unreachable-requires : goal.unreachable-requires
unreachable-requires g c =
    let had : map.contains_key (rows_of c.self.inside.slots.items) c.args.key.now ≡ true = ap (λ t. map.contains_key t.rows c.args.key.now) c.self.view_is ∙ c.requires in
    let has : is_some (option_flatten (lookup (same_key c.args.key.now) c.self.inside.slots.items)) ≡ true = rw (get_rows c.self.inside.slots.items c.self.invariant c.args.key.now) at had in
    let none : Some None ≡ lookup (same_key c.args.key.now) c.self.inside.slots.items = rw (← c.in-None.is) c.fill.ensures.row in
    let bad = rw (← none) at has in
    cc

pub invariant_of-self : goal.invariant_of-self
invariant_of-self g c = (filled _ _ c.args.key.now c.args.row _ c.self.invariant c.fill.ensures.row c.fill.ensures.slots).apart

pub returns-clause-row : goal.returns-clause-row
returns-clause-row g c = sym c.in-Some.is ∙ ap option_flatten c.fill.ensures.row ∙ sym (get_rows c.self.inside.slots.items c.self.invariant c.args.key.now) ∙ ap (λ t. map.get t.rows c.args.key.now) c.self.view_is

pub returns-clause-rows : goal.returns-clause-rows
returns-clause-rows g c = (filled _ _ c.args.key.now c.args.row _ c.self.invariant c.fill.ensures.row c.fill.ensures.slots).rows_are ∙ ap (λ t. map.insert t.rows c.args.key.now c.args.row) c.self.view_is

pub returns-clause-ready : goal.returns-clause-ready
returns-clause-ready g c =
    let had = ap (λ t. map.contains_key t.rows c.args.key.now) c.self.view_is ∙ c.requires in
    (filled _ _ c.args.key.now c.args.row _ c.self.invariant c.fill.ensures.row c.fill.ensures.slots).ready_are
    ∙ remove_absent (ready_of c.self.inside.slots.items) c.args.key.now (row_not_ready c.self.inside.slots.items c.args.key.now c.self.invariant had)
    ∙ ap (λ t. t.ready) c.self.view_is
