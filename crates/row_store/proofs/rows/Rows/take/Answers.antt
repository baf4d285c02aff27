use Rattle.std.proofs.Common.{sym, ap, ◌∙◌}
use Rattle.std.specs.FinMap as map
use Rattle.std.specs.FinSet as set
use Rattle.row_store.proofs.EditLemmas.{cleared}
use Rattle.row_store.proofs.TableLemmas.{get_rows}
use Rattle.row_store.proofs.rows.Rows.take.Goals as goal

pub invariant_of-self : goal.invariant_of-self
invariant_of-self g c = (cleared _ _ c.args.key.now c.self.invariant c.clear.ensures.slots).apart

pub returns-clause-row : goal.returns-clause-row
returns-clause-row g c = c.clear.ensures.row ∙ sym (get_rows c.self.inside.slots.items c.self.invariant c.args.key.now) ∙ ap (λ t. map.get t.rows c.args.key.now) c.self.view_is

pub returns-clause-rows : goal.returns-clause-rows
returns-clause-rows g c = (cleared _ _ c.args.key.now c.self.invariant c.clear.ensures.slots).rows_are ∙ ap (λ t. map.remove t.rows c.args.key.now) c.self.view_is

pub returns-clause-ready : goal.returns-clause-ready
returns-clause-ready g c = (cleared _ _ c.args.key.now c.self.invariant c.clear.ensures.slots).ready_are ∙ ap (λ t. set.remove t.ready c.args.key.now) c.self.view_is
