use Rattle.std.proofs.Common.{sym, ap, ◌∙◌}
use Rattle.std.specs.FinMap as map
use Rattle.std.specs.FinSet as set
use Rattle.std.specs.Option.{option_flatten}
use Rattle.row_store.specs.Table.{has_place}
use Rattle.row_store.proofs.EditLemmas.{filled}
use Rattle.row_store.proofs.TableLemmas.{get_rows, slot_there}
use Rattle.row_store.proofs.rows.Rows.put.Goals as goal

pub fill-requires : goal.fill-requires
fill-requires g c = slot_there c.self.inside.slots.items c.args.key c.self.invariant (ap (λ t. has_place t c.args.key) c.self.view_is ∙ c.requires)

pub invariant_of-self : goal.invariant_of-self
invariant_of-self g c = (filled _ _ c.args.key c.args.row _ c.self.invariant c.fill.ensures.row c.fill.ensures.slots).apart

pub returns-clause-row : goal.returns-clause-row
returns-clause-row g c = ap option_flatten c.fill.ensures.row ∙ sym (get_rows c.self.inside.slots.items c.self.invariant c.args.key) ∙ ap (λ t. map.get t.rows c.args.key) c.self.view_is

pub returns-clause-rows : goal.returns-clause-rows
returns-clause-rows g c = (filled _ _ c.args.key c.args.row _ c.self.invariant c.fill.ensures.row c.fill.ensures.slots).rows_are ∙ ap (λ t. map.insert t.rows c.args.key c.args.row) c.self.view_is

pub returns-clause-ready : goal.returns-clause-ready
returns-clause-ready g c = (filled _ _ c.args.key c.args.row _ c.self.invariant c.fill.ensures.row c.fill.ensures.slots).ready_are ∙ ap (λ t. set.remove t.ready c.args.key) c.self.view_is
