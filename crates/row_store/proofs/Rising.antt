-- Lists that rise.
use Rattle.std.specs.Prelude.{◌≡◌, Bool, true, false, cond, ◌||◌, ◌&&◌, List, [], ◌∷◌, map, Some, None, T, refl}
use Rattle.std.proofs.Common.{sym, ap, subst, ◌∙◌, Ordering, Less, Equal, Greater}
use Rattle.std.specs.FinMap.{IsAntisymmetric}
use Rattle.std.specs.FinMap.Entries.{find, is_sorted, below_all, same_entries}
use Rattle.std.specs.List.{AllByRecursion, list_any}
use Rattle.std.specs.List.Sorted.{IsStrictlySortedBy}
use Rattle.std.specs.Ordering.{is_lt, eq_by_cmp}
use Rattle.std.specs.Cmp.{IsTotalOrder}

-- a test of two parts
both : (a b : Bool) → T a → T b → T (a && b)
both true b p q = q
both false b p q = p

-- the first part of a test that passed
pub first : (a b : Bool) → T (a && b) → T a
first true b p = tt
first false b p = p

-- its other part
pub second : (a b : Bool) → T (a && b) → T b
second true b p = p
second false b p = absurd p

-- what the test for `Less` says
pub less : (o : Ordering) → T (is_lt o) → o ≡ Less
less Less p = refl
less Equal p = absurd p
less Greater p = absurd p

module _ {K : Type 0} (R : K → K → Ordering) where
  -- the keys as entries
  abbrev marked : List K → List (K × Unit {0})
  marked [] = []
  marked (k ∷ ks) = (k, tt) ∷ marked ks

  -- a key below each of the keys
  below_marked : (k : K) (ks : List K) → AllByRecursion (λ q. R k q ≡ Less) ks → T (below_all R k (marked ks))
  below_marked k [] all = tt
  below_marked k (q ∷ ks) all = both _ _ (subst (λ o. T (is_lt o)) (sym all.0) tt) (below_marked k ks all.1)

  -- keys that rise
  sorted_marked : (ks : List K) → IsStrictlySortedBy R ks → T (is_sorted R (marked ks))
  unfolding IsStrictlySortedBy
  sorted_marked [] up = tt
  sorted_marked (k ∷ ks) up = both _ _ (below_marked k ks up.0) (sorted_marked ks up.1)

  -- whether a key is among them
  find_marked : (q : K) (ks : List K) → find R q (marked ks) ≡ cond (list_any (eq_by_cmp R q) ks) (Some tt) None
  find_marked q [] = refl
  find_marked q (k ∷ ks) = elim (eq_by_cmp R q k) as (λ b. cond b (Some tt) (find R q (marked ks)) ≡ cond (b || list_any (eq_by_cmp R q) ks) (Some tt) None) [ true ↦ refl | false ↦ find_marked q ks ]

  -- the keys again
  keys_marked : (ks : List K) → map (λ e. e.0) (marked ks) ≡ ks
  keys_marked [] = refl
  keys_marked (k ∷ ks) = ap (λ qs. k ∷ qs) (keys_marked ks)

  -- lists that rise and have the same items are one
  pub same_rising : IsTotalOrder R → IsAntisymmetric R → (xs ys : List K) → IsStrictlySortedBy R xs → IsStrictlySortedBy R ys → ((q : K) → list_any (eq_by_cmp R q) xs ≡ list_any (eq_by_cmp R q) ys) → xs ≡ ys
  same_rising total exact xs ys up up' same =
      let entries : marked xs ≡ marked ys = same_entries R total exact (marked xs) (marked ys) (sorted_marked xs up) (sorted_marked ys up') (λ q. find_marked q xs ∙ ap (λ b. cond b (Some tt) None) (same q) ∙ sym (find_marked q ys)) in
      sym (keys_marked xs) ∙ ap (map (λ e. e.0)) entries ∙ keys_marked ys
