-- The clients' seats, once one of them is changed.
use Rattle.std.proofs.Common.{◌≡◌, ◌≢◌, ℕ, ◌+◌, ◌<◌, ◌≤◌, zero, suc, Bool, true, false, ◌&&◌, ◌||◌, ◌==◌, nat_lt, List, [], ◌∷◌, length, slice_get, slice_set, Some, arith, refl, sym, ap, subst, ◌∙◌, eqb-true}
use Rattle.std.proofs.lemmas.Bool.{ltb-true, lt-ltb, false_from_ne_true}
use Rattle.std.proofs.lemmas.List.Sums.{sum_by-cons}
use Rattle.std.specs.List.{list_any, sum_by, AllByRecursion}
use Rattle.hops_base.specs.declared.ids.ClientNo.{ClientNo}
use Rattle.commit_log.specs.declared.note.Note.{Note}
use Rattle.commit_log.specs.declared.note.Note.TheVariants.{Open, Took, Gave, Wrote, Did, Cut, Met, Gone}
use Rattle.commit_log.specs.Parts.{answers_call}
use Rattle.commit_log.specs.Kept.{answers_after}
use Rattle.db_state.specs.BookParts.{opens_after}

-- ---- a seat of the list is changed

module _ {X : Type 0} where
  pub get-set_same : (xs : List X) (i : ℕ) (old new : X) → slice_get xs i ≡ Some old → slice_get (slice_set xs i new) i ≡ Some new
  get-set_same [] i old new e = absurd (let bad = e in cc)
  get-set_same (x ∷ xs) zero old new e = refl
  get-set_same (x ∷ xs) (suc i) old new e = get-set_same xs i old new e

  pub get-set_other : (xs : List X) (i j : ℕ) (new : X) → j ≢ i → slice_get (slice_set xs i new) j ≡ slice_get xs j
  get-set_other [] i j new apart = refl
  get-set_other (x ∷ xs) zero zero new apart = absurd (apart refl)
  get-set_other (x ∷ xs) zero (suc j) new apart = refl
  get-set_other (x ∷ xs) (suc i) zero new apart = refl
  get-set_other (x ∷ xs) (suc i) (suc j) new apart = get-set_other xs i j new (λ same. apart (ap suc same))

  pub all-set : (P : X → Type 0) (xs : List X) (i : ℕ) (new : X) → AllByRecursion P xs → P new → AllByRecursion P (slice_set xs i new)
  all-set P [] i new all here = tt
  all-set P (x ∷ xs) zero new all here = (here, all.1)
  all-set P (x ∷ xs) (suc i) new all here = (all.0, all-set P xs i new all.1 here)

  pub all-at : (P : X → Type 0) (xs : List X) (i : ℕ) (x : X) → AllByRecursion P xs → slice_get xs i ≡ Some x → P x
  all-at P [] i x all e = absurd (let bad = e in cc)
  all-at P (y ∷ xs) zero x all e = let same : y ≡ x = cc in subst P same all.0
  all-at P (y ∷ xs) (suc i) x all e = all-at P xs i x all.1 e

  pub length-set : (xs : List X) (i : ℕ) (new : X) → length (slice_set xs i new) ≡ length xs
  length-set [] i new = refl
  length-set (x ∷ xs) zero new = refl
  length-set (x ∷ xs) (suc i) new = ap suc (length-set xs i new)

  pub sum-set : (f : X → ℕ) (xs : List X) (i : ℕ) (old new : X) → slice_get xs i ≡ Some old → f old < f new → sum_by f xs + 1 ≤ sum_by f (slice_set xs i new)
  sum-set f [] i old new e less = absurd (let bad = e in cc)
  sum-set f (x ∷ xs) zero old new e less = let same : x ≡ old = cc in let here : f x < f new = subst (λ (y : X). f y < f new) (sym same) less in
      let a = sum_by-cons f x xs in let b = sum_by-cons f new xs in omega arith
  sum-set f (x ∷ xs) (suc i) old new e less = let rest = sum-set f xs i old new e less in let a = sum_by-cons f x xs in let b = sum_by-cons f x (slice_set xs i new) in omega arith

  pub sum-same : (f : X → ℕ) (xs : List X) (i : ℕ) (old new : X) → slice_get xs i ≡ Some old → f new ≡ f old → sum_by f (slice_set xs i new) ≡ sum_by f xs
  sum-same f [] i old new e same = refl
  sum-same f (x ∷ xs) zero old new e same = let one : x ≡ old = cc in sum_by-cons f new xs ∙ ap (λ (n : ℕ). n + sum_by f xs) (same ∙ ap f (sym one)) ∙ sym (sum_by-cons f x xs)
  sum-same f (x ∷ xs) (suc i) old new e same = sum_by-cons f x (slice_set xs i new) ∙ ap (λ (n : ℕ). f x + n) (sum-same f xs i old new e same) ∙ sym (sum_by-cons f x xs)

-- ---- what a client's last answer says of the others

pub not_and : (a b : Bool) → a ≡ false → (a && b) ≡ false
not_and a b e = rw e refl

pub not_and_right : (a b : Bool) → b ≡ false → (a && b) ≡ false
not_and_right true b e = e
not_and_right false b e = refl

-- no number is below itself
pub not_below : (n : ℕ) → nat_lt n n ≡ false
not_below n = false_from_ne_true (nat_lt n n) (λ is. let bad : n < n = ltb-true n n is in omega arith)

not_less : (low high number : ℕ) (mine : Bool) → low ≤ high → (mine && nat_lt low number) ≡ false → (mine && nat_lt high number) ≡ false
not_less low high number false le e = refl
not_less low high number true le e =
    elim (nat_lt high number) as (λ b. nat_lt high number ≡ b → b ≡ false) [
      | true ↦ λ is. absurd (let less : high < number = ltb-true high number is in let bad : nat_lt low number ≡ true = lt-ltb low number (omega arith) in cc)
      | false ↦ λ is. refl
    ] refl

not_same : (low high number : ℕ) (mine : Bool) → low < high → (mine && nat_lt low number) ≡ false → (mine && (number == high)) ≡ false
not_same low high number false less e = refl
not_same low high number true less e =
    elim (number == high) as (λ b. (number == high) ≡ b → b ≡ false) [
      | true ↦ λ is. absurd (let same : number ≡ high = eqb-true number high is in let bad : nat_lt low number ≡ true = lt-ltb low number (omega arith) in cc)
      | false ↦ λ is. refl
    ] refl

not_after : (client : ClientNo) (low high : ℕ) (note : Note) → low ≤ high → answers_after client low note ≡ false → answers_after client high note ≡ false
not_after client low high (Open s other number node) le e = refl
not_after client low high (Took s key mode) le e = refl
not_after client low high (Gave s) le e = refl
not_after client low high (Wrote s work) le e = refl
not_after client low high (Cut op path gone) le e = refl
not_after client low high (Met s cause) le e = refl
not_after client low high (Gone node ended) le e = refl
not_after client low high (Did s other number call reads reply) le e = not_less low high number (other.0 == client.0) le e

not_at : (client : ClientNo) (low high : ℕ) (note : Note) → low < high → answers_after client low note ≡ false → answers_call client high note ≡ false
not_at client low high (Open s other number node) less e = refl
not_at client low high (Took s key mode) less e = refl
not_at client low high (Gave s) less e = refl
not_at client low high (Wrote s work) less e = refl
not_at client low high (Cut op path gone) less e = refl
not_at client low high (Met s cause) less e = refl
not_at client low high (Gone node ended) less e = refl
not_at client low high (Did s other number call reads reply) less e = not_same low high number (other.0 == client.0) less e

-- what no note is where it fails a test, none is where none passes
pub none_weaker : (test weaker : Note → Bool) → ((note : Note) → test note ≡ false → weaker note ≡ false) → (notes : List Note) → list_any test notes ≡ false → list_any weaker notes ≡ false
none_weaker test weaker gives [] e = refl
none_weaker test weaker gives (note ∷ notes) e =
    elim (test note) as (λ b. test note ≡ b → (b || list_any test notes) ≡ false → (weaker note || list_any weaker notes) ≡ false) [
      | true ↦ λ is f. absurd (let bad = f in cc)
      | false ↦ λ is f. rw (gives note is) (none_weaker test weaker gives notes f)
    ] refl e

-- where none is after a lower number, none is after a higher one
pub none_after : (client : ClientNo) (low high : ℕ) (notes : List Note) → low ≤ high → list_any (answers_after client low) notes ≡ false → list_any (answers_after client high) notes ≡ false
none_after client low high notes le = none_weaker (answers_after client low) (answers_after client high) (λ note. not_after client low high note le) notes

-- where none is after a lower number, none is at a higher one
pub none_at : (client : ClientNo) (low high : ℕ) (notes : List Note) → low < high → list_any (answers_after client low) notes ≡ false → list_any (answers_call client high) notes ≡ false
none_at client low high notes less = none_weaker (answers_after client low) (answers_call client high) (λ note. not_at client low high note less) notes

opens_not_after : (client : ClientNo) (low high : ℕ) (note : Note) → low ≤ high → opens_after client low note ≡ false → opens_after client high note ≡ false
opens_not_after client low high (Open s other number node) le e = not_less low high number (other.0 == client.0) le e
opens_not_after client low high (Took s key mode) le e = refl
opens_not_after client low high (Gave s) le e = refl
opens_not_after client low high (Wrote s work) le e = refl
opens_not_after client low high (Cut op path gone) le e = refl
opens_not_after client low high (Met s cause) le e = refl
opens_not_after client low high (Gone node ended) le e = refl
opens_not_after client low high (Did s other number call reads reply) le e = refl

-- where no call after a lower number was opened, none after a higher one was
pub none_opened_after : (client : ClientNo) (low high : ℕ) (notes : List Note) → low ≤ high → list_any (opens_after client low) notes ≡ false → list_any (opens_after client high) notes ≡ false
none_opened_after client low high notes le = none_weaker (opens_after client low) (opens_after client high) (λ note. opens_not_after client low high note le) notes
