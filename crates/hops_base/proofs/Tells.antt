-- Tests that say whether two values are one, as laws that proofs go by cases over.
use Rattle.std.specs.Prelude.{◌≡◌, ◌≢◌, ◌⊎◌, Bool, true, false, List, ℕ, refl}
use Rattle.std.proofs.Common.{inl, inr, sym, subst, ◌∙◌}
use mathlib.Core.Bool.{false≢true}
use Rattle.std.specs.declared.cmp.Ordering.{Ordering}
use Rattle.std.specs.Ordering.{eq_by_cmp}
use Rattle.std.specs.Cmp.{IsTotalOrder, eq_by_cmp_equiv}
use Rattle.std.specs.FinMap.{IsAntisymmetric, nat_cmp-IsAntisymmetric, slice_cmp-IsAntisymmetric}
use Rattle.std.proofs.lemmas.Map.Views.{tells_apart}
use Rattle.hops_base.specs.declared.key.Key.{Key}
use Rattle.std.proofs.Common.{ap, ◌∙◌}
use Rattle.std.proofs.lemmas.Map.Lookups.{CmpEqualImpliesEq, exact_pairs, exact_unsigned, exact_bytes}
use Rattle.std.specs.Ordering.{nat_cmp}
use Rattle.std.specs.Cmp.Lexicographic.{slice_cmp}
use Rattle.hops_base.specs.Key.{key_cmp, key_cmp_total, same_key, parts_of, key_of, key_of-parts}
use Rattle.hops_base.specs.Path.{path_cmp, path_cmp_total, same_path}

-- the test passes, and they are one, or it fails, and they are not
abbrev pub Tells : {K : Type 0} → Bool → K → K → Type 0
Tells test x y = ((test ≡ true) × (x ≡ y)) ⊎ ((test ≡ false) × (x ≢ y))

-- a test by an order in which only equal values tie
pub tells : {K : Type 0} (R : K → K → Ordering) → IsTotalOrder R → IsAntisymmetric R → (x y : K) → Tells (eq_by_cmp R x y) x y
tells R total exact x y =
    elim (eq_by_cmp R x y) as (λ b. eq_by_cmp R x y ≡ b → Tells b x y) [
      | true ↦ λ e. inl (refl, tells_apart exact x y e)
      | false ↦ λ e. inr (refl, λ same. let tie : eq_by_cmp R x y ≡ true = subst (λ z. eq_by_cmp R x z ≡ true) same ((eq_by_cmp_equiv total).refl x) in false≢true (sym e ∙ tie))
    ] refl

-- paths that compare alike are one
pub path_cmp_exact : IsAntisymmetric path_cmp
path_cmp_exact = slice_cmp-IsAntisymmetric (slice_cmp-IsAntisymmetric nat_cmp-IsAntisymmetric)

-- keys that compare alike are one
pub key_cmp_exact : CmpEqualImpliesEq key_cmp
unfolding key_cmp
key_cmp_exact a b h =
    let same : parts_of a ≡ parts_of b = exact_pairs nat_cmp _ exact_unsigned (exact_pairs nat_cmp _ exact_unsigned (exact_pairs nat_cmp (slice_cmp nat_cmp) exact_unsigned exact_bytes)) (parts_of a) (parts_of b) h in
    sym (key_of-parts a) ∙ ap key_of same ∙ key_of-parts b

-- of two paths
pub paths_tell : (a b : List (List ℕ)) → Tells (same_path a b) a b
paths_tell = tells path_cmp path_cmp_total path_cmp_exact

-- of two keys
pub keys_tell : (k l : Key) → Tells (same_key k l) k l
keys_tell = tells key_cmp key_cmp_total key_cmp_exact
