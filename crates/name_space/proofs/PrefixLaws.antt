-- Laws of the prefixes of a path: which are missing, and the longest that exists.
use Rattle.std.specs.Prelude.{◌≡◌, ◌≢◌, ℕ, Bool, true, false, cond, not, ◌&&◌, ◌||◌, List, [], ◌∷◌, ◌++◌, map as list_map, length, drop, Option, Some, None, IsSome, is_some}
use Rattle.std.proofs.Common.{refl, sym, ap, ◌∙◌, subst, inl, inr}
use Rattle.std.specs.List.{filter, filter_map, last_or, cons_option, AllByRecursion, IsDistinct}
use Rattle.std.specs.Ordering.{ordering_then, nat_cmp, is_eq}
use Rattle.std.specs.declared.cmp.Ordering.{Ordering}
use Rattle.std.specs.declared.cmp.Ordering.TheVariants.{Less, Equal, Greater}
use Rattle.std.specs.Cmp.Lexicographic.{slice_cmp, texts_ties}
use Rattle.std.proofs.lemmas.Bool.{true≢false, or_cases}
use Rattle.std.proofs.lemmas.List.{map-append}
use Rattle.std.proofs.lemmas.List.Folds.{list_any-append}
use Rattle.std.proofs.lemmas.Map.Keys.{IsDistinct-cons, IsDistinct-head, IsDistinct-tail}
use Rattle.std.specs.Prelude.{bytes_eq}
use Rattle.hops_base.specs.Path.{path_cmp, same_path}
use Rattle.name_space.specs.declared.entry.Entry.{Entry}
use Rattle.name_space.specs.Namespace.{Namespace, Path, IsNamespace, entry_at, exists, is_dir, new_dir, is_within, above, prefixes, missing, nearest}
use Rattle.name_space.specs.Cut.{is_among}
use Rattle.name_space.specs.Plain.{with_dirs}
use Rattle.name_space.proofs.PathLaws.{same_path-is, same_path-not, is_within-rest}
use Rattle.name_space.proofs.NamespaceLaws.{dir_above, entry_at-with_dirs}

-- the root, and the prefixes of the rest under the first name
pub prefixes-cons : (name : List ℕ) (names : Path) → prefixes (name ∷ names) ≡ [] ∷ list_map (λ (up : Path). name ∷ up) (prefixes names)
prefixes-cons name names = ap (λ (ps : List Path). [] ∷ ps) (sym (map-append (λ (up : Path). name ∷ up) (above names) (names ∷ [])))

tied_then : (o : Ordering) (rest : Ordering) → is_eq (ordering_then o rest) ≡ is_eq o && is_eq rest
tied_then Less rest = refl
tied_then Equal rest = refl
tied_then Greater rest = refl

same_path-cons : (a b : List ℕ) (names others : Path) → same_path (a ∷ names) (b ∷ others) ≡ bytes_eq a b && same_path names others
same_path-cons a b names others = tied_then (slice_cmp nat_cmp a b) (path_cmp names others) ∙ ap (λ (t : Bool). t && same_path names others) (sym (texts_ties a b))

under_name : (test a b : Bool) → (test && a || test && b) ≡ (test && (a || b))
under_name true a b = refl
under_name false a b = refl

nothing_under : (test : Bool) → false ≡ test && false
nothing_under true = refl
nothing_under false = refl

among_under : (name first : List ℕ) (names : Path) (ps : List Path) → is_among (list_map (λ (up : Path). name ∷ up) ps) (first ∷ names) ≡ bytes_eq first name && is_among ps names
among_under name first names [] = nothing_under (bytes_eq first name)
among_under name first names (p ∷ ps) =
    (λ i. same_path-cons first name names p i || among_under name first names ps i) ∙ under_name (bytes_eq first name) (same_path names p) (is_among ps names)

-- the prefixes of a path are the paths that it lies within
pub among-prefixes : (path at : Path) → is_among (prefixes path) at ≡ is_within at path
among-prefixes [] [] = refl
among-prefixes [] (first ∷ names) = refl
among-prefixes (name ∷ path) [] = refl
among-prefixes (name ∷ path) (first ∷ names) =
    ap (λ (ps : List Path). is_among ps (first ∷ names)) (prefixes-cons name path) ∙ among_under name first names (prefixes path) ∙ ap (λ (b : Bool). bytes_eq first name && b) (among-prefixes path names)

-- a path is among those of some paths that pass a test where it passes and is among them
pub among-filter : (test : Path → Bool) (paths : List Path) (at : Path) → is_among (filter test paths) at ≡ test at && is_among paths at
among-filter test [] at = nothing_under (test at)
among-filter test (path ∷ paths) at =
    (elim (test path) as (λ (t : Bool). test path ≡ t → is_among (cond t (path ∷ filter test paths) (filter test paths)) at ≡ test at && (same_path at path || is_among paths at)) [
      | true ↦ λ passes. ap (λ (b : Bool). same_path at path || b) (among-filter test paths at) ∙ kept passes (same_path at path) refl
      | false ↦ λ fails. among-filter test paths at ∙ left fails (same_path at path) refl
    ]) refl
  where
    kept : test path ≡ true → (same : Bool) → same_path at path ≡ same → (same || test at && is_among paths at) ≡ (test at && (same || is_among paths at))
    kept passes true is = sym (ap (λ (b : Bool). b && true) (ap test (same_path-is at path is) ∙ passes))
    kept passes false is = refl

    left : test path ≡ false → (same : Bool) → same_path at path ≡ same → (test at && is_among paths at) ≡ (test at && (same || is_among paths at))
    left fails true is = ap (λ (b : Bool). b && is_among paths at) (ap test (same_path-is at path is) ∙ fails) ∙ sym (ap (λ (b : Bool). b && true) (ap test (same_path-is at path is) ∙ fails))
    left fails false is = refl

-- a path is among the missing prefixes of another where nothing stands at it and the other lies within it
pub among-missing : (space : Namespace) (path at : Path) → is_among (missing space path) at ≡ not (exists space at) && is_within at path
among-missing space path at = among-filter (λ up. not (exists space up)) (prefixes path) at ∙ ap (λ (b : Bool). not (exists space at) && b) (among-prefixes path at)

-- what a path lies within, other than itself, is among the paths above it
pub among-above : (path at : Path) → is_within at path ≡ true → at ≢ path → is_among (above path) at ≡ true
among-above path at within differ =
    let all : (is_among (above path) at || (same_path at path || false)) ≡ true = sym (list_any-append (same_path at) (above path) (path ∷ [])) ∙ among-prefixes path at ∙ within in
    elim (or_cases (is_among (above path) at) (same_path at path || false) all) [
      | inl above ↦ above
      | inr last ↦ absurd (true≢false (sym last ∙ ap (λ (b : Bool). b || false) (same_path-not at path differ)))
    ]

-- of no paths no two are one
pub distinct-none : IsDistinct same_path []
unfolding IsDistinct
distinct-none = tt

distinct_under : (name : List ℕ) (ps : List Path) → IsDistinct same_path ps → IsDistinct same_path (list_map (λ (up : Path). name ∷ up) ps)
distinct_under name [] distinct = distinct-none
distinct_under name (p ∷ ps) distinct =
    IsDistinct-cons same_path (name ∷ p) (list_map (λ (up : Path). name ∷ up) ps) (apart ps (IsDistinct-head same_path p ps distinct)) (distinct_under name ps (IsDistinct-tail same_path p ps distinct))
  where
    apart : (qs : List Path) → AllByRecursion (λ (q : Path). same_path p q ≡ false) qs → AllByRecursion (λ (q : Path). same_path (name ∷ p) q ≡ false) (list_map (λ (up : Path). name ∷ up) qs)
    apart [] differ = tt
    apart (q ∷ qs) differ = (same_path-cons name name p q ∙ ap (λ (b : Bool). bytes_eq name name && b) differ.0 ∙ sym (nothing_under (bytes_eq name name)), apart qs differ.1)

prefixes-distinct : (path : Path) → IsDistinct same_path (prefixes path)
prefixes-distinct [] = IsDistinct-cons same_path [] [] tt distinct-none
prefixes-distinct (name ∷ names) =
    subst (IsDistinct same_path) (sym (prefixes-cons name names))
    (IsDistinct-cons same_path [] (list_map (λ (up : Path). name ∷ up) (prefixes names)) (apart (prefixes names)) (distinct_under name (prefixes names) (prefixes-distinct names)))
  where
    apart : (ps : List Path) → AllByRecursion (λ (p : Path). same_path [] p ≡ false) (list_map (λ (up : Path). name ∷ up) ps)
    apart [] = tt
    apart (p ∷ ps) = (refl, apart ps)

distinct-filter : (test : Path → Bool) (ps : List Path) → IsDistinct same_path ps → IsDistinct same_path (filter test ps)
distinct-filter test [] distinct = distinct-none
distinct-filter test (p ∷ ps) distinct =
    let rest = distinct-filter test ps (IsDistinct-tail same_path p ps distinct) in
    elim (test p) as (λ (t : Bool). IsDistinct same_path (cond t (p ∷ filter test ps) (filter test ps))) [
      | true ↦ IsDistinct-cons same_path p (filter test ps) (apart ps (IsDistinct-head same_path p ps distinct)) rest
      | false ↦ rest
    ]
  where
    apart : (qs : List Path) → AllByRecursion (λ (q : Path). same_path p q ≡ false) qs → AllByRecursion (λ (q : Path). same_path p q ≡ false) (filter test qs)
    apart [] differ = tt
    apart (q ∷ qs) differ = elim (test q) as (λ (t : Bool). AllByRecursion (λ (r : Path). same_path p r ≡ false) (cond t (q ∷ filter test qs) (filter test qs))) [
      | true ↦ (differ.0, apart qs differ.1)
      | false ↦ apart qs differ.1
    ]

-- no missing prefix of a path is counted twice
pub missing-distinct : (space : Namespace) (path : Path) → IsDistinct same_path (missing space path)
missing-distinct space path = distinct-filter (λ up. not (exists space up)) (prefixes path) (prefixes-distinct path)

-- after new directories at each missing prefix of a path
pub entry_at-with_missing : (space : Namespace) (user : List ℕ) (path at : Path) → entry_at (with_dirs space user (missing space path)) at ≡ cond (not (exists space at) && is_within at path) (Some (new_dir user)) (entry_at space at)
entry_at-with_missing space user path at = entry_at-with_dirs space user (missing space path) at ∙ ap (λ (b : Bool). cond b (Some (new_dir user)) (entry_at space at)) (among-missing space path at)

-- ---- the longest prefix that exists

filter_map-map : (look : Path → Option Entry) (name : List ℕ) (paths : List Path) → filter_map look (list_map (λ (up : Path). name ∷ up) paths) ≡ filter_map (λ (up : Path). look (name ∷ up)) paths
filter_map-map look name [] = refl
filter_map-map look name (path ∷ paths) = ap (cons_option (look (name ∷ path))) (filter_map-map look name paths)

filter_map-none : (look : Path → Option Entry) → ((path : Path) → look path ≡ None) → (paths : List Path) → filter_map look paths ≡ []
filter_map-none look none [] = refl
filter_map-none look none (path ∷ paths) = ap (λ (o : Option Entry). cons_option o (filter_map look paths)) (none path) ∙ filter_map-none look none paths

last_later : (first : Option Entry) (rest : List Entry) (before last : Option Entry) → ((earlier : Option Entry) → last_or earlier rest ≡ last) → last_or before (cons_option first rest) ≡ last
last_later None rest before last each = each before
last_later (Some entry) rest before last each = each (Some entry)

-- where something stands at a prefix and nothing further down, it is the last that is found
last_found : (up : Path) (look : Path → Option Entry) (rest : Path) (before : Option Entry) → IsSome (look up) → ((name : List ℕ) (more : Path) → look (up ++ name ∷ more) ≡ None)
    → last_or before (filter_map look (prefixes (up ++ rest))) ≡ look up
last_found [] look [] before here none = found (look []) refl here
  where
    found : (o : Option Entry) → look [] ≡ o → IsSome o → last_or before (cons_option o []) ≡ o
    found None is bad = absurd (true≢false (sym bad))
    found (Some entry) is good = refl
last_found [] look (name ∷ names) before here none =
    ap (λ (ps : List Path). last_or before (filter_map look ps)) (prefixes-cons name names)
    ∙ ap (λ (es : List Entry). last_or before (cons_option (look []) es)) (filter_map-map look name (prefixes names) ∙ filter_map-none (λ (up : Path). look (name ∷ up)) (λ more. none name more) (prefixes names))
    ∙ found (look []) here
  where
    found : (o : Option Entry) → IsSome o → last_or before (cons_option o []) ≡ o
    found None bad = absurd (true≢false (sym bad))
    found (Some entry) good = refl
last_found (name ∷ names) look rest before here none =
    ap (λ (ps : List Path). last_or before (filter_map look ps)) (prefixes-cons name (names ++ rest))
    ∙ ap (λ (es : List Entry). last_or before (cons_option (look []) es)) (filter_map-map look name (prefixes (names ++ rest)))
    ∙ last_later (look []) (filter_map (λ (up : Path). look (name ∷ up)) (prefixes (names ++ rest))) before (look (name ∷ names)) (λ first. last_found names (λ (up : Path). look (name ∷ up)) rest first here none)

-- the nearest to what lies within a path at which no directory stands is what stands there
pub nearest_at : (space : Namespace) → IsNamespace space → (up path : Path) → is_within up path ≡ true → IsSome (entry_at space up) → is_dir (entry_at space up) ≡ false → nearest space path ≡ entry_at space up
nearest_at space is up path within here no_dir =
    subst (λ (p : Path). nearest space p ≡ entry_at space up) (is_within-rest up path within) (last_found up (entry_at space) (drop (length up) path) None here (λ name more. bare name more (entry_at space (up ++ name ∷ more)) refl))
  where
    bare : (name : List ℕ) (more : Path) (found : Option Entry) → entry_at space (up ++ name ∷ more) ≡ found → found ≡ None
    bare name more None e = refl
    bare name more (Some entry) e = absurd (true≢false (sym (dir_above space is up name more (ap is_some e)) ∙ no_dir))
