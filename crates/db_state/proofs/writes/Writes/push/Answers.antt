use Rattle.std.proofs.Common.{◌≡◌, ◌++◌, ◌∷◌, [], List, false, Option, ap, ◌∙◌, refl}
use Rattle.std.specs.Cmp.{eq_by_cmp_equiv}
use Rattle.std.specs.List.{list_any}
use Rattle.std.specs.Map.{keys_of}
use Rattle.std.proofs.lemmas.Map.Keys.{IsDistinct-push}
use Rattle.hops_base.specs.declared.key.Key.{Key}
use Rattle.hops_base.specs.Key.{key_cmp_total, same_key}
use Rattle.db_state.specs.declared.writes.Row.{Row}
use Rattle.db_state.proofs.writes.Writes.push.Goals as goal

keys-push : (ws : List (Key × Option Row)) (w : Key × Option Row) → keys_of (ws ++ w ∷ []) ≡ keys_of ws ++ w.0 ∷ []
keys-push [] w = refl
keys-push (x ∷ ws) w = ap (λ (ks : List Key). x.0 ∷ ks) (keys-push ws w)

pub invariant_of-self : goal.invariant_of-self
invariant_of-self c =
    let new : list_any (same_key c.args.item.0) (keys_of c.self.inside.list.items) ≡ false = ap (λ l. list_any (same_key c.args.item.0) (keys_of l.items)) c.self.view_is ∙ c.requires.new in
    rw c.push.ensures (rw (keys-push c.self.inside.list.items c.args.item) (IsDistinct-push (eq_by_cmp_equiv key_cmp_total) _ _ c.self.invariant new))
