use Rattle.std.proofs.Common.{ap, sym, ◌∙◌, is_some}
use Rattle.std.specs.FinMap as map
use Rattle.std.specs.List.{list_any}
use Rattle.hops_base.specs.declared.key.Key.TheVariants.{Inode}
use Rattle.row_store.specs.Slots.{is_child}
use Rattle.row_store.proofs.TableLemmas.{get_rows}
use Rattle.row_store.proofs.ChildLemmas.{children_found, if_ok_both}
use Rattle.row_store.proofs.rows.Rows.children.Goals as goal

pub returns : goal.returns
returns g c = if_ok_both c.names_below.result _ _ _ (λ names rising members. record {
  rising = rising;
  members = λ q.
      members q ∙ ap (list_any (is_child c.args.parent q)) c.deref.ensures.value
      ∙ children_found c.self.inside.slots.items c.args.parent q c.self.invariant
      ∙ ap is_some (sym (get_rows c.self.inside.slots.items c.self.invariant (Inode c.args.parent q)) ∙ ap (λ t. map.get t.rows (Inode c.args.parent q)) c.self.view_is);
}) c.names_below.ensures.rising c.names_below.ensures.members
