use Rattle.std.proofs.Common.{◌≡◌, List, [], ◌∷◌, ◌++◌, length, ap, ◌∙◌, arith}
use Rattle.db_state.specs.declared.view.Place.{Place}
use Rattle.inode_ops.proofs.ViewLaws.{raise_fewer, can_make, view_of_one}
use Rattle.inode_ops.proofs.tests.answer.Goals as goal

pub outcome-requires : goal.outcome-requires
outcome-requires c =
    let none : c.reserve.new.self.items ≡ [] = ap (λ w. w.items) c.in_ok-reserve.ensures.ok ∙ ap (λ w. w.items) c.new-places.ensures in
    let one : c.places-2.inside.list.items ≡ c.args.place ∷ [] = ap (λ w. w.items) c.places-2.view_is ∙ ap (λ w. w.items) c.push.ensures ∙ ap (λ (places : List Place). places ++ c.args.place ∷ []) none in
    let long = c.requires.long in
    let raise = raise_fewer (length c.args.place.path) 2 c.in_ok-quotas.field-0.items long c.in_ok-quotas.ensures in
    view_of_one c.args.call.now c.args.place _ one c.requires.path c.requires.spells (can_make c.args.place c.in_ok-quotas.field-0.items 9 c.requires.below (omega arith) raise)
