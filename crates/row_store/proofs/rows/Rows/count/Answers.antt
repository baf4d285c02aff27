use Rattle.std.proofs.Common.{ap, ◌∙◌, is_some}
use Rattle.std.specs.List.{count_by}
use Rattle.row_store.specs.Slots.{name_in}
use Rattle.row_store.specs.Children.{child_count}
use Rattle.row_store.proofs.ChildLemmas.{count_found}
use Rattle.row_store.proofs.rows.Rows.count.Goals as goal

pub returns : goal.returns
returns g c =
    c.count_below.ensures
    ∙ ap (count_by (λ slot. is_some (name_in c.args.parent slot))) c.deref.ensures.value
    ∙ count_found c.self.inside.slots.items c.args.parent c.self.invariant
    ∙ ap (λ t. child_count t.rows c.args.parent) c.self.view_is
