use Rattle.std.proofs.Common.{◌≡◌, ap, ◌∙◌, take, arith}
use Rattle.std.specs.List.{list_any}
use Rattle.std.proofs.lemmas.Result.{IfOk-weaker}
use Rattle.std.proofs.lemmas.Grind.{common_steps}
use Rattle.row_store.specs.Slots.{is_child}
use Rattle.row_store.proofs.ChildLemmas.{any_same_name}
use Rattle.row_store.proofs.children.names_below.Goals as goal

pub returns-clause-members : goal.returns-clause-members
returns-clause-members g c =
    let all : take c.loop-slot.slot-index c.args.slots.now ≡ c.args.slots.now = grind (arith, common_steps) in
    IfOk-weaker c.in_order.result _ _ (λ names e q. any_same_name q _ _ e ∙ c.loop-slot.invariant q ∙ ap (list_any (is_child c.args.parent q)) all) c.in_order.ensures.items
