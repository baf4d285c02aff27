-- Which keys have their place once some are made ready, and what stays ready.
use Rattle.std.proofs.Common.{◌≡◌, Bool, true, false, not, ◌&&◌, ◌||◌, cond, is_some, [], ◌∷◌, Some, refl, ap, sym, ◌∙◌}
use Rattle.std.specs.FinMap as map
use Rattle.std.specs.FinSet as set
use Rattle.std.specs.Cmp.{eq_by_cmp_equiv}
use Rattle.hops_base.specs.declared.key.Key.{Key}
use Rattle.hops_base.specs.Key.{key_cmp, same_key, key_cmp_total}
use Rattle.hops_base.proofs.Tells.{key_cmp_exact}
use Rattle.row_store.specs.Table.{Table, has_place, ready_with}
use Rattle.row_store.proofs.ReadyLaws.{contains-ready_with}

-- to take a key away again changes nothing
pub remove_twice : (ready : set.FinSet key_cmp) (k : Key) → set.remove (set.remove ready k) k ≡ set.remove ready k
remove_twice ready k = set.same_set key_cmp_total key_cmp_exact _ _ (λ q.
    set.contains-remove key_cmp_total (set.remove ready k) k q
    ∙ ap (λ b. not (same_key q k) && b) (set.contains-remove key_cmp_total ready k q)
    ∙ twice (same_key q k) (set.contains ready q)
    ∙ sym (set.contains-remove key_cmp_total ready k q))
  where
    twice : (a b : Bool) → (not a && (not a && b)) ≡ (not a && b)
    twice true b = refl
    twice false b = refl

module _ {R : Type 0} where
  -- a key has the row that is put under it
  pub found_there : (rows : map.FinMap key_cmp R) (k : Key) (row : R) → map.contains_key (map.insert rows k row) k ≡ true
  found_there rows k row = ap is_some (map.get-insert key_cmp_total rows k row k ∙ ap (λ b. cond b (Some row) (map.get rows k)) ((eq_by_cmp_equiv key_cmp_total).refl k))

  -- a key that is made ready has its place
  pub reserved_here : (old new : Table R) (k : Key) → new.rows ≡ old.rows → new.ready ≡ ready_with old (k ∷ []) → has_place new k ≡ true
  reserved_here old new k rows ready =
      (λ i. map.contains_key (rows i) k || set.contains (ready i) k)
      ∙ ap (λ b. map.contains_key old.rows k || b) (contains-ready_with old (k ∷ []) k)
      ∙ ap (λ b. map.contains_key old.rows k || (set.contains old.ready k || (not (map.contains_key old.rows k) && (b || false)))) ((eq_by_cmp_equiv key_cmp_total).refl k)
      ∙ cases (map.contains_key old.rows k) (set.contains old.ready k)
    where
      cases : (a b : Bool) → (a || (b || (not a && true))) ≡ true
      cases true b = refl
      cases false true = refl
      cases false false = refl
