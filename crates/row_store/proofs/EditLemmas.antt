-- What an edit at one key does to the table that a list of slots is.
use Rattle.std.proofs.Common.{◌≡◌, Bool, true, false, not, ◌&&◌, ◌||◌, cond, Option, Some, None, List, [], ◌∷◌, ◌++◌, refl, sym, ap, ◌∙◌, is_some}
use Rattle.std.specs.FinMap as map
use Rattle.std.specs.FinSet as set
use Rattle.std.specs.List.{AllByRecursion, IsDistinct}
use Rattle.std.specs.Map.{lookup, keys_of, set_value, remove_entry}
use Rattle.std.specs.Option.{option_flatten}
use Rattle.std.proofs.lemmas.Bool.{or_right}
use Rattle.std.proofs.lemmas.List.{map-append}
use Rattle.std.proofs.lemmas.Map.{lookup-set_value, lookup-remove_entry, keys-set_value}
use Rattle.std.proofs.lemmas.Map.Keys.{IsDistinct-head, IsDistinct-tail, IsDistinct-cons, IsDistinct-push}
use Rattle.std.proofs.lemmas.Map.Made.{is_some-lookup}
use Rattle.std.proofs.lemmas.Map.Views.{tells_apart}
use Rattle.hops_base.specs.declared.key.Key.{Key}
use Rattle.hops_base.specs.Key.{key_cmp, same_key, key_cmp_total}
use Rattle.hops_base.proofs.Tells.{key_cmp_exact}
use Rattle.row_store.specs.Table.{ready_with}
use Rattle.row_store.proofs.ReadyLemmas.{none_more, ready_is}
use Rattle.row_store.proofs.TableLemmas.{laws, is_ready, rows_of, ready_of, table_of, get_rows, contains_ready}

module _ {R : Type 0} where
  -- no key has two slots, and they have these rows and these ready keys
  pub record Holds (slots : List (Key × Option R)) (rows : map.FinMap key_cmp R) (ready : set.FinSet key_cmp) : Type 0 where
    pub apart : IsDistinct same_key (keys_of slots)
    pub rows_are : rows_of slots ≡ rows
    pub ready_are : ready_of slots ≡ ready

  -- ---- each key is found as before the edit, and the key of the edit with x
  module _ (old new : List (Key × Option R)) (apart : IsDistinct same_key (keys_of old)) (apart' : IsDistinct same_key (keys_of new)) (k : Key) (x : Option (Option R)) (looks : (q : Key) → lookup (same_key q) new ≡ cond (same_key k q) x (lookup (same_key q) old)) where
    found : {X : Type 0} (f : Option (Option R) → X) (q : Key) → f (lookup (same_key q) new) ≡ cond (same_key q k) (f x) (f (lookup (same_key q) old))
    found f q = ap f (looks q) ∙ step (same_key k q) ∙ ap (λ b. cond b (f x) (f (lookup (same_key q) old))) (laws.symm k q)
      where
        step : (b : Bool) → f (cond b x (lookup (same_key q) old)) ≡ cond b (f x) (f (lookup (same_key q) old))
        step true = refl
        step false = refl

    row_found : (q : Key) → map.get (rows_of new) q ≡ cond (same_key q k) (option_flatten x) (map.get (rows_of old) q)
    row_found q = get_rows new apart' q ∙ found option_flatten q ∙ ap (cond (same_key q k) (option_flatten x)) (sym (get_rows old apart q))

    ready_found : (q : Key) → set.contains (ready_of new) q ≡ cond (same_key q k) (is_ready x) (set.contains (ready_of old) q)
    ready_found q = contains_ready new apart' q ∙ found is_ready q ∙ ap (cond (same_key q k) (is_ready x)) (sym (contains_ready old apart q))

    -- the key isn't ready after it
    unready : is_ready x ≡ false → ready_of new ≡ set.remove (ready_of old) k
    unready e = set.same_set key_cmp_total key_cmp_exact _ _ (λ q. ready_found q ∙ step (same_key q k) (set.contains (ready_of old) q) ∙ sym (set.contains-remove key_cmp_total (ready_of old) k q))
      where
        step : (b r : Bool) → cond b (is_ready x) r ≡ (not b && r)
        step true r = e
        step false r = refl

  -- ---- a slot gets a row
  pub filled : (old new : List (Key × Option R)) (k : Key) (row : R) (before : Option R) → IsDistinct same_key (keys_of old) → Some before ≡ lookup (same_key k) old → new ≡ set_value (same_key k) old (Some row) → Holds new (map.insert (rows_of old) k row) (set.remove (ready_of old) k)
  filled old new k row before apart there e = record {
    apart = apart';
    rows_are = map.same_map key_cmp_total key_cmp_exact _ _ (λ q. row_found old new apart apart' k (Some (Some row)) looks q ∙ sym (map.get-insert key_cmp_total (rows_of old) k row q));
    ready_are = unready old new apart apart' k (Some (Some row)) looks refl;
  }
    where
      apart' : IsDistinct same_key (keys_of new)
      apart' = rw (e, keys-set_value (same_key k) old (Some row)) apart

      looks : (q : Key) → lookup (same_key q) new ≡ cond (same_key k q) (Some (Some row)) (lookup (same_key q) old)
      looks q = ap (lookup (same_key q)) e ∙ lookup-set_value laws (same_key k) (laws.congr k) q (Some row) old (rw (← there) refl)

  -- ---- a slot is removed
  AllByRecursion-removed : (P : Key → Type 0) (test : Key → Bool) (slots : List (Key × Option R)) → AllByRecursion P (keys_of slots) → AllByRecursion P (keys_of (remove_entry test slots))
  AllByRecursion-removed P test [] all = tt
  AllByRecursion-removed P test (s ∷ slots) all =
      elim (test s.0) as (λ b. AllByRecursion P (keys_of (cond b slots (s ∷ remove_entry test slots)))) [
        | true ↦ all.1
        | false ↦ (all.0, AllByRecursion-removed P test slots all.1)
      ]

  IsDistinct-removed : (test : Key → Bool) (slots : List (Key × Option R)) → IsDistinct same_key (keys_of slots) → IsDistinct same_key (keys_of (remove_entry test slots))
  IsDistinct-removed test [] apart = apart
  IsDistinct-removed test (s ∷ slots) apart =
      elim (test s.0) as (λ b. IsDistinct same_key (keys_of (cond b slots (s ∷ remove_entry test slots)))) [
        | true ↦ IsDistinct-tail _ _ _ apart
        | false ↦ IsDistinct-cons _ _ _ (AllByRecursion-removed _ test slots (IsDistinct-head _ _ _ apart)) (IsDistinct-removed test slots (IsDistinct-tail _ _ _ apart))
      ]

  pub cleared : (old new : List (Key × Option R)) (k : Key) → IsDistinct same_key (keys_of old) → new ≡ remove_entry (same_key k) old → Holds new (map.remove (rows_of old) k) (set.remove (ready_of old) k)
  cleared old new k apart e = record {
    apart = apart';
    rows_are = map.same_map key_cmp_total key_cmp_exact _ _ (λ q. row_found old new apart apart' k None looks q ∙ sym (map.get-remove key_cmp_total (rows_of old) k q));
    ready_are = unready old new apart apart' k None looks refl;
  }
    where
      apart' : IsDistinct same_key (keys_of new)
      apart' = rw e (IsDistinct-removed (same_key k) old apart)

      looks : (q : Key) → lookup (same_key q) new ≡ cond (same_key k q) None (lookup (same_key q) old)
      looks q = ap (lookup (same_key q)) e ∙ lookup-remove_entry laws (same_key k) (laws.congr k) q old apart

  -- ---- a key gets a slot, with no row
  lookup-push : (slots : List (Key × Option R)) (k q : Key) → lookup (same_key k) slots ≡ None → lookup (same_key q) (slots ++ (k, None) ∷ []) ≡ cond (same_key k q) (Some None) (lookup (same_key q) slots)
  lookup-push [] k q none = ap (λ b. cond b (Some None) None) (laws.symm q k)
  lookup-push (s ∷ slots) k q none =
      elim (same_key q s.0) as (λ b. same_key q s.0 ≡ b → cond b (Some s.1) (lookup (same_key q) (slots ++ (k, None) ∷ [])) ≡ cond (same_key k q) (Some None) (cond b (Some s.1) (lookup (same_key q) slots))) [
        | true ↦ λ e. ap (λ b. cond b (Some None) (Some s.1)) (other q (tells_apart key_cmp_exact q s.0 e))
        | false ↦ λ e. lookup-push slots k q rest
      ] refl
    where
      apart : (b : Bool) → cond b (Some s.1) (lookup (same_key k) slots) ≡ None → (b ≡ false) × (lookup (same_key k) slots ≡ None)
      apart true e = absurd (let bad = e in cc)
      apart false e = (refl, e)

      rest : lookup (same_key k) slots ≡ None
      rest = (apart (same_key k s.0) none).1

      other : (q : Key) → q ≡ s.0 → false ≡ same_key k q
      other q e = sym (ap (same_key k) e ∙ (apart (same_key k s.0) none).0)

  pub pushed : (old new : List (Key × Option R)) (k : Key) → IsDistinct same_key (keys_of old) → lookup (same_key k) old ≡ None → new ≡ old ++ (k, None) ∷ [] → Holds new (rows_of old) (ready_with (table_of old) (k ∷ []))
  pushed old new k apart none e = record {
    apart = apart';
    rows_are = map.same_map key_cmp_total key_cmp_exact _ _ (λ q. row_found old new apart apart' k (Some None) looks q ∙ row_at q (same_key q k) refl);
    ready_are = ready_is (table_of old) (k ∷ []) (ready_of new) (λ q. ready_found old new apart apart' k (Some None) looks q ∙ ready_at q (same_key q k) refl);
  }
    where
      apart' : IsDistinct same_key (keys_of new)
      apart' = rw (e, map-append) (IsDistinct-push laws (keys_of old) k apart (sym (is_some-lookup (same_key k) old) ∙ ap is_some none))

      looks : (q : Key) → lookup (same_key q) new ≡ cond (same_key k q) (Some None) (lookup (same_key q) old)
      looks q = ap (lookup (same_key q)) e ∙ lookup-push old k q none

      no_row : map.get (rows_of old) k ≡ None
      no_row = get_rows old apart k ∙ ap option_flatten none

      row_at : (q : Key) (b : Bool) → same_key q k ≡ b → cond b None (map.get (rows_of old) q) ≡ map.get (rows_of old) q
      row_at q true is = let same : q ≡ k = tells_apart key_cmp_exact q k is in rw (same, no_row) refl
      row_at q false is = refl

      ready_at : (q : Key) (b : Bool) → same_key q k ≡ b → cond b true (set.contains (ready_of old) q) ≡ (set.contains (ready_of old) q || (not (map.contains_key (rows_of old) q) && (b || false)))
      ready_at q true is = let same : q ≡ k = tells_apart key_cmp_exact q k is in rw (same, no_row) (sym (or_right (set.contains (ready_of old) k) true refl))
      ready_at q false is = none_more (set.contains (ready_of old) q) (map.contains_key (rows_of old) q)

-- to remove a key that isn't there changes nothing
pub remove_absent : (ready : set.FinSet key_cmp) (k : Key) → set.contains ready k ≡ false → set.remove ready k ≡ ready
remove_absent ready k none = set.same_set key_cmp_total key_cmp_exact _ _ (λ q. set.contains-remove key_cmp_total ready k q ∙ at q (same_key q k) refl)
  where
    at : (q : Key) (b : Bool) → same_key q k ≡ b → (not b && set.contains ready q) ≡ set.contains ready q
    at q true e = sym (ap (set.contains ready) (tells_apart key_cmp_exact q k e) ∙ none)
    at q false e = refl
