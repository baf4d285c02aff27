use Rattle.std.proofs.Common.{◌≡◌, Bool, true, false, cond, [], Option, None, Some, Vec, ap, sym, ◌∙◌, arith, vec_len, refl, rules, ◌==◌}
use Rattle.std.specs.BTreeMap.{get}
use Rattle.std.proofs.lemmas.Map.Views.{tells_apart}
use Rattle.std.proofs.lemmas.Grind.{common_steps}
use Rattle.hops_base.specs.declared.ids.SessionId.{SessionId}
use Rattle.hops_base.specs.Key.{key_cmp, same_key}
use Rattle.hops_base.proofs.Tells.{key_cmp_exact}
use Rattle.row_locks.specs.declared.holders.Holder.{Holder}
use Rattle.row_locks.specs.Holders.{without}
use Rattle.row_locks.specs.Lists.{items_in}
use Rattle.row_locks.proofs.table.drop_holder.Goals as goal

-- a list that was left without the session's items, and was removed since none is left
emptied : {Z : Type 0} (s : SessionId) (b : Bool) (old mid new : Option (Vec Holder Z)) (v w : Vec Holder Z) → new ≡ cond b None mid → mid ≡ cond b (Some w) old → (b ≡ true → old ≡ Some v) → w.items ≡ without v.items s → w.items ≡ []
    → items_in new ≡ cond b (without (items_in old) s) (items_in old)
emptied s true old mid new v w n m o left gone = ap items_in n ∙ sym gone ∙ left ∙ sym (ap (λ l. without (items_in l) s) (o refl))
emptied s false old mid new v w n m o left gone = ap items_in (n ∙ m)

no_items : {Z : Type 0} (w : Vec Holder Z) (b : Bool) → b ≡ true → b ≡ (vec_len w == 0) → w.items ≡ []
no_items w b e is = grind (arith, common_steps)

pub returns-then-is_empty-clause-items : goal.returns-then-is_empty-clause-items
returns-then-is_empty-clause-items c q =
    emptied c.args.s (same_key c.args.key.now q) (get key_cmp c.args.holders.now q) _ _ c.in-Some.list.now c.drop_session.new.holders
    (c.remove.ensures.updates.0 q) (((c.get_mut.follows.holds c.drop_session.new.holders).3 (search rules)).0 q)
    (λ same. ap (get key_cmp c.args.holders.now) (sym (tells_apart key_cmp_exact _ _ same)) ∙ sym c.in-Some.ensures.value)
    c.drop_session.ensures (no_items c.drop_session.new.holders c.is_empty.result c.if-is_empty.true c.is_empty.ensures)
