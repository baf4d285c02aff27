-- How the ready keys change as keys are made ready.
use Rattle.std.proofs.Common.{◌≡◌, ℕ, Bool, true, false, not, ◌&&◌, ◌||◌, Option, Some, None, List, [], ◌∷◌, ◌++◌, take, drop, refl, sym, ap, ◌∙◌, is_some}
use Rattle.std.specs.FinMap as map
use Rattle.std.specs.FinSet as set
use Rattle.std.specs.List.{IsDistinct, list_any}
use Rattle.std.specs.Map.{lookup, keys_of}
use Rattle.std.specs.Option.{option_flatten}
use Rattle.std.proofs.lemmas.List.{take-append-drop}
use Rattle.std.proofs.lemmas.List.Folds.{list_any-append}
use Rattle.std.proofs.lemmas.Map.Views.{tells_apart}
use Rattle.hops_base.specs.declared.key.Key.{Key}
use Rattle.hops_base.specs.Key.{key_cmp, same_key, key_cmp_total}
use Rattle.hops_base.proofs.Tells.{key_cmp_exact}
use Rattle.row_store.specs.Table.{Table, ready_with}
use Rattle.row_store.proofs.ReadyLaws.{contains-ready_with}
use Rattle.row_store.proofs.TableLemmas.{is_ready, rows_of, ready_of, table_of, get_rows, contains_ready}

-- a test that is joined by one that fails
pub none_more : (a b : Bool) → a ≡ (a || (not b && false))
none_more true b = refl
none_more false true = refl
none_more false false = refl

module _ {R : Type 0} where
  -- a set that has these keys and no other is the one with these keys made ready
  pub ready_is : (table : Table R) (keys : List Key) (ready : set.FinSet key_cmp) → ((q : Key) → set.contains ready q ≡ (set.contains table.ready q || (not (map.contains_key table.rows q) && list_any (same_key q) keys))) → ready ≡ ready_with table keys
  ready_is table keys ready h = set.same_set key_cmp_total key_cmp_exact _ _ (λ q. h q ∙ sym (contains-ready_with table keys q))

  -- no keys
  pub ready_with-none : (table : Table R) → table.ready ≡ ready_with table []
  ready_with-none table = ready_is table [] table.ready (λ q. none_more (set.contains table.ready q) (map.contains_key table.rows q))

  -- a key that has a slot already
  pub ready_there : (slots : List (Key × Option R)) (k : Key) → IsDistinct same_key (keys_of slots) → is_some (lookup (same_key k) slots) ≡ true → ready_of slots ≡ ready_with (table_of slots) (k ∷ [])
  ready_there slots k apart there = ready_is (table_of slots) (k ∷ []) (ready_of slots) (λ q. at q (same_key q k) refl)
    where
      here : (x : Option (Option R)) → is_some x ≡ true → is_ready x ≡ (is_ready x || (not (is_some (option_flatten x)) && true))
      here None e = absurd (let bad = e in cc)
      here (Some None) e = refl
      here (Some (Some row)) e = refl

      at : (q : Key) (b : Bool) → same_key q k ≡ b → set.contains (ready_of slots) q ≡ (set.contains (ready_of slots) q || (not (map.contains_key (rows_of slots) q) && (b || false)))
      at q true e = let same : q ≡ k = tells_apart key_cmp_exact q k e in rw (same, contains_ready slots apart k, get_rows slots apart k) (here (lookup (same_key k) slots) there)
      at q false e = none_more (set.contains (ready_of slots) q) (map.contains_key (rows_of slots) q)

  -- ---- one key after another
  ready_with-push : (table : Table R) (keys : List Key) (k : Key) → ready_with (record { rows = table.rows; ready = ready_with table keys }) (k ∷ []) ≡ ready_with table (keys ++ k ∷ [])
  ready_with-push table keys k = ready_is table (keys ++ k ∷ []) _ (λ q.
      contains-ready_with (record { rows = table.rows; ready = ready_with table keys }) (k ∷ []) q
      ∙ ap (λ b. b || (not (map.contains_key table.rows q) && list_any (same_key q) (k ∷ []))) (contains-ready_with table keys q)
      ∙ step (set.contains table.ready q) (not (map.contains_key table.rows q)) (list_any (same_key q) keys) (list_any (same_key q) (k ∷ []))
      ∙ ap (λ b. set.contains table.ready q || (not (map.contains_key table.rows q) && b)) (sym (list_any-append (same_key q) keys (k ∷ []))))
    where
      step : (a b x y : Bool) → ((a || (b && x)) || (b && y)) ≡ (a || (b && (x || y)))
      step true b x y = refl
      step false true x y = refl
      step false false x y = refl

  pub ready_with-step : (old mid new : Table R) (done : List Key) (k : Key) → mid.rows ≡ old.rows → mid.ready ≡ ready_with old done → new.rows ≡ mid.rows → new.ready ≡ ready_with mid (k ∷ []) → (new.rows ≡ old.rows) × (new.ready ≡ ready_with old (done ++ k ∷ []))
  ready_with-step old mid new done k rows ready rows' ready' =
      let same : mid ≡ record { rows = old.rows; ready = ready_with old done } = λ i. record { rows = rows i; ready = ready i } in
      (rows' ∙ rows, ready' ∙ ap (λ (t : Table R). ready_with t (k ∷ [])) same ∙ ready_with-push old done k)

  -- ---- a set within another
  -- keys that were ready stay so
  pub ready_with-keeps : (table : Table R) (keys : List Key) → set.is_subset table.ready (ready_with table keys) ≡ true
  ready_with-keeps table keys = set.contains-is_subset key_cmp_total _ _ (λ q e. contains-ready_with table keys q ∙ ap (λ b. b || (not (map.contains_key table.rows q) && list_any (same_key q) keys)) e)

  -- fewer keys make fewer ready
  ready_with-part : (table : Table R) (some rest : List Key) → set.is_subset (ready_with table some) (ready_with table (some ++ rest)) ≡ true
  ready_with-part table some rest = set.contains-is_subset key_cmp_total _ _ (λ q e.
      contains-ready_with table (some ++ rest) q
      ∙ ap (λ b. set.contains table.ready q || (not (map.contains_key table.rows q) && b)) (list_any-append (same_key q) some rest)
      ∙ step (set.contains table.ready q) (not (map.contains_key table.rows q)) (list_any (same_key q) some) (list_any (same_key q) rest) (sym (contains-ready_with table some q) ∙ e))
    where
      step : (a b x y : Bool) → (a || (b && x)) ≡ true → (a || (b && (x || y))) ≡ true
      step true b x y e = refl
      step false true true y e = refl
      step false true false y e = absurd (let bad = e in cc)
      step false false x y e = e

  -- the first of the keys make some of those ready that all of them do
  pub ready_with-some : (table : Table R) (keys : List Key) (i : ℕ) → set.is_subset (ready_with table (take i keys)) (ready_with table keys) ≡ true
  ready_with-some table keys i = ap (λ ks. set.is_subset (ready_with table (take i keys)) (ready_with table ks)) (sym (take-append-drop i keys)) ∙ ready_with-part table (take i keys) (drop i keys)
