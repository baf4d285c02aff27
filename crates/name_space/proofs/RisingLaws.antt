-- Laws of lists of paths that rise: two with the same paths are one, and the prefixes of a path rise.
use Rattle.std.specs.Prelude.{◌≡◌, ℕ, Bool, true, false, cond, ◌&&◌, ◌||◌, List, [], ◌∷◌, map as list_map, Some, None, ⊤, T}
use Rattle.std.proofs.Common.{refl, sym, ap, ◌∙◌, subst}
use Rattle.std.specs.List.{filter}
use Rattle.std.specs.FinMap.Entries as entries
use Rattle.std.specs.declared.cmp.Ordering.{Ordering}
use Rattle.std.specs.declared.cmp.Ordering.TheVariants.{Equal}
use Rattle.std.specs.Ordering.{ordering_then, nat_cmp, is_lt}
use Rattle.std.specs.Cmp.{tied_itself}
use Rattle.std.specs.Cmp.Lexicographic.{slice_cmp, nat_list_cmp_total}
use Rattle.hops_base.specs.Path.{path_cmp, path_cmp_total, same_path}
use Rattle.name_space.specs.declared.entry.Entry.{Entry}
use Rattle.name_space.specs.Namespace.{Namespace, Path, prefixes}
use Rattle.name_space.specs.Cut.{is_among}
use Rattle.name_space.proofs.PathLaws.{path_cmp_exact}
use Rattle.name_space.proofs.PrefixLaws.{prefixes-cons}

-- the paths as keys
abbrev pub as_keys : List Path → List (Path × ⊤)
as_keys paths = list_map (λ (p : Path). (p, tt)) paths

-- the paths rise
abbrev pub is_rising : List Path → Bool
is_rising paths = entries.is_sorted path_cmp (as_keys paths)

is_true : (b : Bool) → b ≡ true → T b
is_true b e = subst T (sym e) tt

find-as_keys : (paths : List Path) (q : Path) → entries.find path_cmp q (as_keys paths) ≡ cond (is_among paths q) (Some tt) None
find-as_keys [] q = refl
find-as_keys (p ∷ paths) q =
    elim (same_path q p) as (λ b. cond b (Some tt) (entries.find path_cmp q (as_keys paths)) ≡ cond (b || is_among paths q) (Some tt) None) [
      | true ↦ refl
      | false ↦ find-as_keys paths q
    ]

keys-as_keys : (paths : List Path) → list_map (λ (e : Path × ⊤). e.0) (as_keys paths) ≡ paths
keys-as_keys [] = refl
keys-as_keys (p ∷ paths) = ap (λ (ps : List Path). p ∷ ps) (keys-as_keys paths)

-- two lists of rising paths that have the same paths are one
pub same_rising : (a b : List Path) → is_rising a ≡ true → is_rising b ≡ true → ((q : Path) → is_among a q ≡ is_among b q) → a ≡ b
same_rising a b rises rises' same =
    let one = entries.same_entries path_cmp path_cmp_total path_cmp_exact (as_keys a) (as_keys b) (is_true _ rises) (is_true _ rises')
    (λ q. find-as_keys a q ∙ ap (λ (t : Bool). cond t (Some tt) None) (same q) ∙ sym (find-as_keys b q)) in
    sym (keys-as_keys a) ∙ ap (list_map (λ (e : Path × ⊤). e.0)) one ∙ keys-as_keys b

-- ---- some of the keys of a namespace

below_all-keys : (test : Path → Bool) (x : Path) (space : Namespace) → entries.below_all path_cmp x space ≡ true → entries.below_all path_cmp x (as_keys (filter test (list_map (λ (e : Path × Entry). e.0) space))) ≡ true
below_all-keys test x [] below = refl
below_all-keys test x (e ∷ space) below =
    (elim (is_lt (path_cmp x e.0)) as (λ b. is_lt (path_cmp x e.0) ≡ b → (b && entries.below_all path_cmp x space) ≡ true → entries.below_all path_cmp x (as_keys (cond (test e.0) (e.0 ∷ filter test (list_map (λ (f : Path × Entry). f.0) space)) (filter test (list_map (λ (f : Path × Entry). f.0) space)))) ≡ true) [
      | true ↦ λ less rest. kept (test e.0) less (below_all-keys test x space rest)
      | false ↦ λ less rest. cc
    ]) refl below
  where
    kept : (b : Bool) → is_lt (path_cmp x e.0) ≡ true → entries.below_all path_cmp x (as_keys (filter test (list_map (λ (f : Path × Entry). f.0) space))) ≡ true
        → entries.below_all path_cmp x (as_keys (cond b (e.0 ∷ filter test (list_map (λ (f : Path × Entry). f.0) space)) (filter test (list_map (λ (f : Path × Entry). f.0) space)))) ≡ true
    kept true less rest = rw (less, rest) refl
    kept false less rest = rest

-- the paths of a namespace that pass a test rise
pub is_rising-keys : (test : Path → Bool) (space : Namespace) → entries.is_sorted path_cmp space ≡ true → is_rising (filter test (list_map (λ (e : Path × Entry). e.0) space)) ≡ true
is_rising-keys test [] rises = refl
is_rising-keys test (e ∷ space) rises =
    (elim (entries.below_all path_cmp e.0 space) as (λ b. entries.below_all path_cmp e.0 space ≡ b → (b && entries.is_sorted path_cmp space) ≡ true → is_rising (cond (test e.0) (e.0 ∷ filter test (list_map (λ (f : Path × Entry). f.0) space)) (filter test (list_map (λ (f : Path × Entry). f.0) space))) ≡ true) [
      | true ↦ λ below rest. kept (test e.0) (below_all-keys test e.0 space below) (is_rising-keys test space rest)
      | false ↦ λ below rest. cc
    ]) refl rises
  where
    kept : (b : Bool) → entries.below_all path_cmp e.0 (as_keys (filter test (list_map (λ (f : Path × Entry). f.0) space))) ≡ true → is_rising (filter test (list_map (λ (f : Path × Entry). f.0) space)) ≡ true
        → is_rising (cond b (e.0 ∷ filter test (list_map (λ (f : Path × Entry). f.0) space)) (filter test (list_map (λ (f : Path × Entry). f.0) space))) ≡ true
    kept true below rest = rw (below, rest) refl
    kept false below rest = rest

-- ---- the prefixes of a path

name_ties : (name : List ℕ) → slice_cmp nat_cmp name name ≡ Equal
name_ties name = tied_itself nat_list_cmp_total name

below_all-under : (name : List ℕ) (x : Path) (paths : List Path) → entries.below_all path_cmp (name ∷ x) (as_keys (list_map (λ (p : Path). name ∷ p) paths)) ≡ entries.below_all path_cmp x (as_keys paths)
below_all-under name x [] = refl
below_all-under name x (p ∷ paths) =
    ap (λ (o : Ordering). is_lt (ordering_then o (path_cmp x p)) && entries.below_all path_cmp (name ∷ x) (as_keys (list_map (λ (p : Path). name ∷ p) paths))) (name_ties name)
    ∙ ap (λ (b : Bool). is_lt (path_cmp x p) && b) (below_all-under name x paths)

rising-under : (name : List ℕ) (paths : List Path) → is_rising (list_map (λ (p : Path). name ∷ p) paths) ≡ is_rising paths
rising-under name [] = refl
rising-under name (p ∷ paths) = λ i. below_all-under name p paths i && rising-under name paths i

root_below : (name : List ℕ) (paths : List Path) → entries.below_all path_cmp [] (as_keys (list_map (λ (p : Path). name ∷ p) paths)) ≡ true
root_below name [] = refl
root_below name (p ∷ paths) = root_below name paths

pub is_rising-prefixes : (path : Path) → is_rising (prefixes path) ≡ true
is_rising-prefixes [] = refl
is_rising-prefixes (name ∷ names) =
    ap is_rising (prefixes-cons name names)
    ∙ ap (λ (b : Bool). b && is_rising (list_map (λ (p : Path). name ∷ p) (prefixes names))) (root_below name (prefixes names))
    ∙ rising-under name (prefixes names) ∙ is_rising-prefixes names

below_all-filter : (test : Path → Bool) (x : Path) (paths : List Path) → entries.below_all path_cmp x (as_keys paths) ≡ true → entries.below_all path_cmp x (as_keys (filter test paths)) ≡ true
below_all-filter test x [] below = refl
below_all-filter test x (p ∷ paths) below =
    (elim (is_lt (path_cmp x p)) as (λ b. is_lt (path_cmp x p) ≡ b → (b && entries.below_all path_cmp x (as_keys paths)) ≡ true → entries.below_all path_cmp x (as_keys (cond (test p) (p ∷ filter test paths) (filter test paths))) ≡ true) [
      | true ↦ λ less rest. kept (test p) less (below_all-filter test x paths rest)
      | false ↦ λ less rest. cc
    ]) refl below
  where
    kept : (b : Bool) → is_lt (path_cmp x p) ≡ true → entries.below_all path_cmp x (as_keys (filter test paths)) ≡ true → entries.below_all path_cmp x (as_keys (cond b (p ∷ filter test paths) (filter test paths))) ≡ true
    kept true less rest = rw (less, rest) refl
    kept false less rest = rest

-- of paths that rise those that pass a test rise
pub is_rising-filter : (test : Path → Bool) (paths : List Path) → is_rising paths ≡ true → is_rising (filter test paths) ≡ true
is_rising-filter test [] rises = refl
is_rising-filter test (p ∷ paths) rises =
    (elim (entries.below_all path_cmp p (as_keys paths)) as (λ b. entries.below_all path_cmp p (as_keys paths) ≡ b → (b && is_rising paths) ≡ true → is_rising (cond (test p) (p ∷ filter test paths) (filter test paths)) ≡ true) [
      | true ↦ λ below rest. kept (test p) (below_all-filter test p paths below) (is_rising-filter test paths rest)
      | false ↦ λ below rest. cc
    ]) refl rises
  where
    kept : (b : Bool) → entries.below_all path_cmp p (as_keys (filter test paths)) ≡ true → is_rising (filter test paths) ≡ true → is_rising (cond b (p ∷ filter test paths) (filter test paths)) ≡ true
    kept true below rest = rw (below, rest) refl
    kept false below rest = rest
