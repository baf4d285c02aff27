-- Laws of sums over a list and over a namespace.
use Rattle.std.specs.Prelude.{◌≡◌, ℕ, ◌+◌, ◌≤◌, Bool, true, false, cond, List, [], ◌∷◌, map as list_map, length, Option, Some, None, IsSome, is_some}
use Rattle.std.proofs.Common.{refl, sym, ap, ◌∙◌, inl, inr, arith}
use Rattle.std.specs.FinMap.Entries as map
use Rattle.std.specs.List.{filter, sum_by, AllByRecursion, IsDistinct}
use Rattle.std.specs.Ordering.{is_eq, is_lt}
use Rattle.std.specs.declared.cmp.Ordering.{Ordering}
use Rattle.std.specs.declared.cmp.Ordering.TheVariants.{Less, Equal, Greater}
use Rattle.std.proofs.lemmas.Bool.{true≢false, and_parts, and_from}
use Rattle.std.proofs.lemmas.List.Sums.{sum_by-cons}
use Rattle.std.proofs.lemmas.Map.Keys.{IsDistinct-head, IsDistinct-tail}
use Rattle.hops_base.specs.Path.{path_cmp, path_cmp_total, same_path}
use Rattle.name_space.specs.declared.entry.Entry.{Entry}
use Rattle.name_space.specs.Namespace.{Namespace, Path, entry_at, with_entry, with_entries}
use Rattle.name_space.proofs.PathLaws.{path_cmp_exact, paths_tell, same_path-self, is_less}
use Rattle.name_space.specs.Namespace.{Rises}
use Rattle.name_space.proofs.NamespaceLaws.{Rises-with_entry, entry_at-with_entry, found_later}
use Rattle.name_space.proofs.MoveLaws.{not_later}

-- ---- sums from the right

-- the sum of f over a list
abbrev pub total : {X : Type 0} → (X → ℕ) → List X → ℕ
total f [] = 0
total f (x ∷ xs) = f x + total f xs

-- it is the sum from the left
pub total-is : {X : Type 0} (f : X → ℕ) (xs : List X) → sum_by f xs ≡ total f xs
total-is f [] = refl
total-is f (x ∷ xs) = sum_by-cons f x xs ∙ ap (λ n. f x + n) (total-is f xs)

-- ones add up to the length
pub total-ones : {X : Type 0} (xs : List X) → length xs ≡ total (λ (x : X). 1) xs
total-ones [] = refl
total-ones (x ∷ xs) = let rest = total-ones xs in omega arith

-- zeros add up to nothing
pub total-zero : {X : Type 0} (xs : List X) → total (λ (x : X). 0) xs ≡ 0
total-zero [] = refl
total-zero (x ∷ xs) = let rest = total-zero xs in omega arith

-- a sum of two shares is the sum of each
pub total-add : {X : Type 0} (f g : X → ℕ) (xs : List X) → total (λ (x : X). f x + g x) xs ≡ total f xs + total g xs
total-add f g [] = refl
total-add f g (x ∷ xs) = let rest = total-add f g xs in omega arith

-- equal shares have one sum
pub total-ap : {X : Type 0} (f g : X → ℕ) (xs : List X) → ((x : X) → f x ≡ g x) → total f xs ≡ total g xs
total-ap f g [] same = refl
total-ap f g (x ∷ xs) same = λ i. same x i + total-ap f g xs same i

-- what passes a test, as shares of the whole list
pub total-filter : {X : Type 0} (test : X → Bool) (f : X → ℕ) (xs : List X) → total f (filter test xs) ≡ total (λ (x : X). cond (test x) (f x) 0) xs
total-filter test f [] = refl
total-filter {X} test f (x ∷ xs) = by (test x) (total-filter test f xs)
  where
    by : (b : Bool) → total f (filter test xs) ≡ total (λ (x : X). cond (test x) (f x) 0) xs → total f (cond b (x ∷ filter test xs) (filter test xs)) ≡ cond b (f x) 0 + total (λ (x : X). cond (test x) (f x) 0) xs
    by true rest = ap (λ n. f x + n) rest
    by false rest = omega arith

-- what f makes of what g makes of each
pub total-map : {X Y : Type 0} (f : Y → ℕ) (g : X → Y) (xs : List X) → total f (list_map g xs) ≡ total (λ (x : X). f (g x)) xs
total-map f g [] = refl
total-map f g (x ∷ xs) = ap (λ n. f (g x) + n) (total-map f g xs)

-- smaller shares have a smaller sum
pub total-le : {X : Type 0} (f g : X → ℕ) (xs : List X) → ((x : X) → f x ≤ g x) → total f xs ≤ total g xs
total-le f g [] each = omega arith
total-le f g (x ∷ xs) each =
    let here = each x in
    let rest = total-le f g xs each in
    omega arith

-- a choice between one number and itself
pub same_either : (b : Bool) (n : ℕ) → cond b n n ≡ n
same_either true n = refl
same_either false n = refl

-- ---- sums over a namespace

-- two sums over what stands somewhere are one where each share is
pub total_same : (f g : Path × Entry → ℕ) (es : Namespace) → ((e : Path × Entry) → IsSome (entry_at es e.0) → f e ≡ g e) → total f es ≡ total g es
total_same f g [] same = refl
total_same f g (e ∷ es) same =
    let here : IsSome (entry_at (e ∷ es) e.0) = ap (λ (b : Bool). is_some (cond b (Some e.1) (entry_at es e.0))) (same_path-self e.0) in
    let rest = total_same f g es (λ x there. same x (found_later (same_path x.0 e.0) e.1 (entry_at es x.0) there)) in
    λ i. same e here i + rest i

-- what f makes of what stands at a path, and 0 where nothing stands
abbrev pub value_at : (Path × Entry → ℕ) → Path → Option Entry → ℕ
value_at f path None = 0
value_at f path (Some entry) = f (path, entry)

before_all : (a b : Path) (es : Namespace) → path_cmp a b ≡ Less → map.below_all path_cmp b es ≡ true → map.below_all path_cmp a es ≡ true
before_all a b [] less all = refl
before_all a b (e ∷ es) less all =
    let parts = and_parts (is_lt (path_cmp b e.0)) (map.below_all path_cmp b es) all in
    and_from (is_lt (path_cmp a e.0)) (map.below_all path_cmp a es) (ap is_lt (path_cmp_total.trans a b e.0 less (is_less (path_cmp b e.0) parts.0))) (before_all a b es less parts.1)

-- with an entry at a path: the sum less the share of what stood there, plus the new share
pub total-with_entry : (f : Path × Entry → ℕ) (space : Namespace) (path : Path) (entry : Entry) → Rises space
    → total f (with_entry space path entry) + value_at f path (entry_at space path) ≡ total f space + f (path, entry)
total-with_entry f [] path entry rises = omega arith
total-with_entry f (e ∷ es) path entry rises =
    let parts = and_parts (map.below_all path_cmp e.0 es) (map.is_sorted path_cmp es) rises in
    (elim (path_cmp path e.0) as (λ (o : Ordering). path_cmp path e.0 ≡ o → total f (map.by_order o ((path, entry) ∷ e ∷ es) ((e.0, entry) ∷ es) (e ∷ with_entry es path entry))
    + value_at f path (cond (is_eq o) (Some e.1) (entry_at es path)) ≡ (f e + total f es) + f (path, entry)) [
      | Less ↦ λ less.
          let none : value_at f path (entry_at es path) ≡ 0 = ap (value_at f path) (not_later path es (before_all path e.0 es less parts.0)) in
          omega arith
      | Equal ↦ λ equal.
          let same : path ≡ e.0 = path_cmp_exact path e.0 equal in
          let old : f (path, e.1) ≡ f e = ap (λ (p : Path). f (p, e.1)) same in
          let new : f (path, entry) ≡ f (e.0, entry) = ap (λ (p : Path). f (p, entry)) same in
          omega arith
      | Greater ↦ λ greater.
          let rest = total-with_entry f es path entry parts.1 in
          omega arith
    ]) refl

pub alone : (path : Path) (es : Namespace) → AllByRecursion (λ (q : Path). same_path path q ≡ false) (list_map (λ (e : Path × Entry). e.0) es) → entry_at es path ≡ None
alone path [] apart = refl
alone path (e ∷ es) apart = ap (λ (b : Bool). cond b (Some e.1) (entry_at es path)) apart.0 ∙ alone path es apart.1

-- with several entries at paths that differ and at which nothing stood: their sum is added
pub total-with_entries : (f : Path × Entry → ℕ) (es space : Namespace) → Rises space → IsDistinct same_path (list_map (λ (e : Path × Entry). e.0) es) → ((at : Path) → IsSome (entry_at es at) → entry_at space at ≡ None)
    → total f (with_entries space es) ≡ total f space + total f es
total-with_entries f [] space rises distinct free = omega arith
total-with_entries f (e ∷ es) space rises distinct free =
    let here : IsSome (entry_at (e ∷ es) e.0) = ap (λ (b : Bool). is_some (cond b (Some e.1) (entry_at es e.0))) (same_path-self e.0) in
    let first = total-with_entry f space e.0 e.1 rises in
    let none : value_at f e.0 (entry_at space e.0) ≡ 0 = ap (value_at f e.0) (free e.0 here) in
    let rest = total-with_entries f es (with_entry space e.0 e.1) (Rises-with_entry space e.0 e.1 rises) (IsDistinct-tail same_path e.0 (list_map (λ (e : Path × Entry). e.0) es) distinct) still_free in
    omega arith
  where
    still_free : (at : Path) → IsSome (entry_at es at) → entry_at (with_entry space e.0 e.1) at ≡ None
    still_free at there = entry_at-with_entry space e.0 e.1 at ∙ elim (paths_tell at e.0) [
      | inl same ↦
          let none = alone e.0 es (IsDistinct-head same_path e.0 (list_map (λ (e : Path × Entry). e.0) es) distinct) in
          absurd (true≢false (sym there ∙ ap (λ (p : Path). is_some (entry_at es p)) same.1 ∙ ap is_some none))
      | inr differ ↦ ap (λ (b : Bool). cond b (Some e.1) (entry_at space at)) differ.0 ∙ free at (found_later (same_path at e.0) e.1 (entry_at es at) there)
    ]
