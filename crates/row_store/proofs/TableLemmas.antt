-- What a list of slots is as a table, look-up by look-up.
use Rattle.std.proofs.Common.{◌≡◌, Bool, true, false, ◌||◌, cond, Option, Some, None, List, [], ◌∷◌, refl, ap, ◌∙◌, is_some}
use Rattle.std.specs.FinMap as map
use Rattle.std.specs.FinSet as set
use Rattle.std.specs.FinMap.{find}
use Rattle.std.specs.List.{IsDistinct, list_any}
use Rattle.std.specs.Map.{lookup, keys_of}
use Rattle.std.specs.Cmp.{IsEquivalence, eq_by_cmp_equiv}
use Rattle.std.specs.Option.{option_flatten}
use Rattle.std.proofs.lemmas.Map.{lookup-none}
use Rattle.std.proofs.lemmas.Map.Entries.{none_past_head}
use Rattle.std.proofs.lemmas.Map.Keys.{IsDistinct-tail}
use Rattle.hops_base.specs.declared.key.Key.{Key}
use Rattle.hops_base.specs.Key.{key_cmp, same_key, key_cmp_total}
use Rattle.row_store.specs.Slots.{rows_in, ready_in}
use Rattle.row_store.specs.Table.{Table, has_place}

-- the laws of the test of keys
pub laws : IsEquivalence same_key
laws = eq_by_cmp_equiv key_cmp_total

module _ {R : Type 0} where
  -- a slot was found, and it is ready for a row
  abbrev pub is_ready : Option (Option R) → Bool
  is_ready None = false
  is_ready (Some None) = true
  is_ready (Some (Some row)) = false

  -- the rows, the ready keys, and the table of them, that a list of slots is
  abbrev pub rows_of : List (Key × Option R) → map.FinMap key_cmp R
  rows_of slots = map.from_entries (rows_in slots)

  abbrev pub ready_of : List (Key × Option R) → set.FinSet key_cmp
  ready_of slots = set.from_list (ready_in slots)

  abbrev pub table_of : List (Key × Option R) → Table R
  table_of slots = record { rows = rows_of slots; ready = ready_of slots }

  find_rows : (slots : List (Key × Option R)) → IsDistinct same_key (keys_of slots) → (q : Key) → find key_cmp q (rows_in slots) ≡ option_flatten (lookup (same_key q) slots)
  find_rows [] apart q = refl
  find_rows ((k, Some row) ∷ slots) apart q =
      elim (same_key q k) as (λ b. cond b (Some row) (find key_cmp q (rows_in slots)) ≡ option_flatten (cond b (Some (Some row)) (lookup (same_key q) slots))) [
        | true ↦ refl
        | false ↦ find_rows slots (IsDistinct-tail _ _ _ apart) q
      ]
  find_rows ((k, None) ∷ slots) apart q =
      elim (same_key q k) as (λ b. same_key q k ≡ b → find key_cmp q (rows_in slots) ≡ option_flatten (cond b (Some None) (lookup (same_key q) slots))) [
        | true ↦ λ e. find_rows slots (IsDistinct-tail _ _ _ apart) q ∙ ap option_flatten (lookup-none _ slots (none_past_head laws q (k, None) slots apart e))
        | false ↦ λ e. find_rows slots (IsDistinct-tail _ _ _ apart) q
      ] refl

  any_ready : (slots : List (Key × Option R)) → IsDistinct same_key (keys_of slots) → (q : Key) → list_any (same_key q) (ready_in slots) ≡ is_ready (lookup (same_key q) slots)
  any_ready [] apart q = refl
  any_ready ((k, None) ∷ slots) apart q =
      elim (same_key q k) as (λ b. (b || list_any (same_key q) (ready_in slots)) ≡ is_ready (cond b (Some None) (lookup (same_key q) slots))) [
        | true ↦ refl
        | false ↦ any_ready slots (IsDistinct-tail _ _ _ apart) q
      ]
  any_ready ((k, Some row) ∷ slots) apart q =
      elim (same_key q k) as (λ b. same_key q k ≡ b → list_any (same_key q) (ready_in slots) ≡ is_ready (cond b (Some (Some row)) (lookup (same_key q) slots))) [
        | true ↦ λ e. any_ready slots (IsDistinct-tail _ _ _ apart) q ∙ ap is_ready (lookup-none _ slots (none_past_head laws q (k, Some row) slots apart e))
        | false ↦ λ e. any_ready slots (IsDistinct-tail _ _ _ apart) q
      ] refl

  -- what they have at a key
  pub get_rows : (slots : List (Key × Option R)) → IsDistinct same_key (keys_of slots) → (q : Key) → map.get (rows_of slots) q ≡ option_flatten (lookup (same_key q) slots)
  get_rows slots apart q = map.get-from_entries key_cmp_total (rows_in slots) q ∙ find_rows slots apart q

  pub contains_ready : (slots : List (Key × Option R)) → IsDistinct same_key (keys_of slots) → (q : Key) → set.contains (ready_of slots) q ≡ is_ready (lookup (same_key q) slots)
  contains_ready slots apart q = set.contains-from_list key_cmp_total (ready_in slots) q ∙ any_ready slots apart q

  -- a key that has a row or is ready has a slot
  pub slot_there : (slots : List (Key × Option R)) (k : Key) → IsDistinct same_key (keys_of slots) → has_place (table_of slots) k ≡ true → is_some (lookup (same_key k) slots) ≡ true
  slot_there slots k apart h = step (lookup (same_key k) slots) (rw (get_rows slots apart k, contains_ready slots apart k) at h)
    where
      step : (x : Option (Option R)) → (is_some (option_flatten x) || is_ready x) ≡ true → is_some x ≡ true
      step None e = e
      step (Some row) e = refl

  -- a key that has a row isn't ready
  pub row_not_ready : (slots : List (Key × Option R)) (k : Key) → IsDistinct same_key (keys_of slots) → map.contains_key (rows_of slots) k ≡ true → set.contains (ready_of slots) k ≡ false
  row_not_ready slots k apart h = contains_ready slots apart k ∙ step (lookup (same_key k) slots) (rw (get_rows slots apart k) at h)
    where
      step : (x : Option (Option R)) → is_some (option_flatten x) ≡ true → is_ready x ≡ false
      step None e = refl
      step (Some None) e = absurd (let bad = e in cc)
      step (Some (Some row)) e = refl
