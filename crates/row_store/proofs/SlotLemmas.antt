-- What a search among slots finds, and what an edit at that slot does.
use Rattle.std.proofs.Common.{◌≡◌, ℕ, zero, suc, ◌+◌, ◌≤◌, true, false, cond, Option, Some, None, MatchOption, List, [], ◌∷◌, refl, ap, arith}
use Rattle.std.specs.List.{position_from}
use Rattle.std.specs.Map.{lookup, remove_entry}
use Rattle.std.proofs.Common.{sym}
use Rattle.hops_base.specs.declared.key.Key.{Key}
use Rattle.hops_base.specs.Key.{same_key}
use Rattle.row_store.specs.Slots.{is_slot_of, IsSlotAt}

module _ {R : Type 0} where
  -- a search that begins at n finds no slot below n
  above : (key : Key) (n m : ℕ) (slots : List (Key × Option R)) → position_from (is_slot_of key) n slots ≡ Some m → n ≤ m
  above key n m [] e = cc
  above key n m (s ∷ slots) e =
      elim (same_key key s.0) as (λ b. cond b (Some n) (position_from (is_slot_of key) (n + 1) slots) ≡ Some m → n ≤ m) [
        | true ↦ λ h. let same : n ≡ m = cc in omega arith
        | false ↦ λ h. omega (arith, above key (n + 1) m slots h)
      ] e

  -- the first slot
  first_slot : (key : Key) (s : Key × Option R) (slots : List (Key × Option R)) → same_key key s.0 ≡ true → IsSlotAt key (s ∷ slots) 0
  first_slot key s slots e = record {
    in_range = omega arith;
    found = rw e refl;
    row = λ x h. rw (h, e) refl;
    filled = λ x w h. rw (h, e) refl;
    cleared = rw e refl;
  }

  -- a later slot
  next_slot : (key : Key) (s : Key × Option R) (slots : List (Key × Option R)) (at : ℕ) → same_key key s.0 ≡ false → IsSlotAt key slots at → IsSlotAt key (s ∷ slots) (suc at)
  next_slot key s slots at e rest = record {
    in_range = omega (arith, rest.in_range);
    found = rw e rest.found;
    row = λ x h. rw e (rest.row x h);
    filled = λ x w h. rw e (ap (λ ss. s ∷ ss) (rest.filled x w h));
    cleared = rw e (ap (λ ss. s ∷ ss) rest.cleared);
  }

  -- what a search found is the slot of the key
  hit : (key : Key) (n m at : ℕ) (slots : List (Key × Option R)) → m ≡ n + at → position_from (is_slot_of key) n slots ≡ Some m → IsSlotAt key slots at
  hit key n m at [] same e = cc
  hit key n m zero (s ∷ slots) same e =
      elim (same_key key s.0) as (λ b. same_key key s.0 ≡ b → cond b (Some n) (position_from (is_slot_of key) (n + 1) slots) ≡ Some m → IsSlotAt key (s ∷ slots) 0) [
        | true ↦ λ is h. first_slot key s slots is
        | false ↦ λ is h. absurd (omega (arith, above key (n + 1) m slots h))
      ] refl e
  hit key n m (suc at) (s ∷ slots) same e =
      elim (same_key key s.0) as (λ b. same_key key s.0 ≡ b → cond b (Some n) (position_from (is_slot_of key) (n + 1) slots) ≡ Some m → IsSlotAt key (s ∷ slots) (suc at)) [
        | true ↦ λ is h. absurd (let h : n ≡ m = cc in omega arith)
        | false ↦ λ is h. next_slot key s slots at is (hit key (n + 1) m at slots (omega arith) h)
      ] refl e

  -- a search that finds none
  miss : (key : Key) (n : ℕ) (slots : List (Key × Option R)) → position_from (is_slot_of key) n slots ≡ None → lookup (same_key key) slots ≡ None
  miss key n [] e = refl
  miss key n (s ∷ slots) e =
      elim (same_key key s.0) as (λ b. cond b (Some n) (position_from (is_slot_of key) (n + 1) slots) ≡ None → cond b (Some s.1) (lookup (same_key key) slots) ≡ None) [
        | true ↦ λ h. cc
        | false ↦ λ h. miss key (n + 1) slots h
      ] e

  -- what a search answers
  pub searched : (key : Key) (slots : List (Key × Option R)) (r : Option ℕ) → r ≡ position_from (is_slot_of key) 0 slots → MatchOption r (lookup (same_key key) slots ≡ None) (IsSlotAt key slots)
  searched key slots None e = miss key 0 slots (sym e)
  searched key slots (Some at) e = hit key 0 at at slots (omega arith) (sym e)

  -- to remove a slot that is not there changes nothing
  pub remove_entry-none : (key : Key) (slots : List (Key × Option R)) → lookup (same_key key) slots ≡ None → remove_entry (same_key key) slots ≡ slots
  remove_entry-none key [] e = refl
  remove_entry-none key (s ∷ slots) e =
      elim (same_key key s.0) as (λ b. cond b (Some s.1) (lookup (same_key key) slots) ≡ None → cond b slots (s ∷ remove_entry (same_key key) slots) ≡ s ∷ slots) [
        | true ↦ λ h. cc
        | false ↦ λ h. ap (λ ss. s ∷ ss) (remove_entry-none key slots h)
      ] e
