-- What holds of all of a list, and so of its parts.
use Rattle.std.proofs.Common.{zero, suc, ℕ, Bool, true, false, List, [], ◌∷◌, ◌++◌, drop, take, reverse, slice_get, IfSome, cond, sym, subst}
use Rattle.std.proofs.lemmas.List.{reverse-append}
use Rattle.std.specs.List.{AllByRecursion, filter}
use Rattle.db_state.specs.ReadSteps.{AllPairs}

module _ {X : Type 0} (P : X → Type 0) where
  pub all_front : (xs ys : List X) → AllByRecursion P (xs ++ ys) → AllByRecursion P xs
  all_front [] ys all = tt
  all_front (x ∷ xs) ys all = (all.0, all_front xs ys all.1)

  pub all_back : (xs ys : List X) → AllByRecursion P (xs ++ ys) → AllByRecursion P ys
  all_back [] ys all = all
  all_back (x ∷ xs) ys all = all_back xs ys all.1

  pub all_both : (xs ys : List X) → AllByRecursion P xs → AllByRecursion P ys → AllByRecursion P (xs ++ ys)
  all_both [] ys first second = second
  all_both (x ∷ xs) ys first second = (first.0, all_both xs ys first.1 second)

  pub all_taken : (n : ℕ) (xs : List X) → AllByRecursion P xs → AllByRecursion P (take n xs)
  all_taken zero xs all = tt
  all_taken (suc n) [] all = tt
  all_taken (suc n) (x ∷ xs) all = (all.0, all_taken n xs all.1)

  pub all_dropped : (n : ℕ) (xs : List X) → AllByRecursion P xs → AllByRecursion P (drop n xs)
  all_dropped zero xs all = all
  all_dropped (suc n) [] all = tt
  all_dropped (suc n) (x ∷ xs) all = all_dropped n xs all.1

  pub all_kept : (test : X → Bool) (xs : List X) → AllByRecursion P xs → AllByRecursion P (filter test xs)
  all_kept test [] all = tt
  all_kept test (x ∷ xs) all = elim (test x) as (λ b. AllByRecursion P (cond b (x ∷ filter test xs) (filter test xs))) [ true ↦ (all.0, all_kept test xs all.1) | false ↦ all_kept test xs all.1 ]

  pub all_turned : (xs : List X) → AllByRecursion P xs → AllByRecursion P (reverse xs)
  all_turned [] all = tt
  all_turned (x ∷ xs) all = subst (AllByRecursion P) (sym (reverse-append (x ∷ []) xs)) (all_both (reverse xs) (x ∷ []) (all_turned xs all.1) (all.0, tt))

  pub first_of : (xs : List X) → AllByRecursion P xs → IfSome (slice_get xs 0) P
  first_of [] all = tt
  first_of (x ∷ xs) all = all.0

  pub all_from : (Q : X → Type 0) → ((x : X) → Q x → P x) → (xs : List X) → AllByRecursion Q xs → AllByRecursion P xs
  all_from Q gives [] all = tt
  all_from Q gives (x ∷ xs) all = (gives x all.0, all_from Q gives xs all.1)

  pub all_paired : (R : X → X → Type 0) → ((x y : X) → R x y → P x → P y) → (xs ys : List X) → AllPairs R xs ys → AllByRecursion P xs → AllByRecursion P ys
  all_paired R gives [] [] pairs all = tt
  all_paired R gives [] (y ∷ ys) pairs all = absurd pairs
  all_paired R gives (x ∷ xs) [] pairs all = absurd pairs
  all_paired R gives (x ∷ xs) (y ∷ ys) pairs all = (gives x y pairs.0 all.0, all_paired R gives xs ys pairs.1 all.1)
