-- Laws of the plain namespace by look-ups: what stands at each path after a change.
use Rattle.std.specs.Prelude.{◌≡◌, ℕ, Bool, true, false, cond, not, ◌||◌, T, List, [], ◌∷◌, ◌++◌, map as list_map, length, drop, Option, Some, None, IsSome, is_some}
use Rattle.std.proofs.Common.{refl, sym, ap, ◌∙◌, subst, inl, inr}
use Rattle.std.specs.List.{filter, list_all}
use Rattle.std.specs.FinMap.Entries as map
use Rattle.std.proofs.lemmas.Bool.{true≢false, and_parts, and_from}
use Rattle.std.proofs.lemmas.List.{append_assoc, append-nil}
use Rattle.hops_base.specs.Name.{is_name}
use Rattle.hops_base.specs.Path.{path_cmp, path_cmp_total, same_path}
use Rattle.name_space.specs.declared.entry.Entry.{Entry}
use Rattle.name_space.specs.Namespace.{Namespace, Path, IsNamespace, opening, entry_at, is_dir, new_dir, with_entry, with_entries, is_within, below, without}
use Rattle.name_space.specs.Cut.{is_among, cut}
use Rattle.name_space.specs.Plain.{with_dirs}
use Rattle.name_space.proofs.PathLaws.{path_cmp_exact, same_path-self, paths_tell, is_within-rest}
use Rattle.name_space.specs.Namespace.{Rises}

to_T : (b : Bool) → b ≡ true → T b
to_T b e = subst T (sym e) tt

from_T : (b : Bool) → T b → b ≡ true
from_T true h = refl
from_T false h = absurd h

-- namespaces in which the same stands at each path are one
pub same_spaces : (a b : Namespace) → Rises a → Rises b → ((path : Path) → entry_at a path ≡ entry_at b path) → a ≡ b
same_spaces a b p q same = map.same_entries path_cmp path_cmp_total path_cmp_exact a b (to_T _ p) (to_T _ q) same

-- ---- one entry, and several

pub entry_at-with_entry : (space : Namespace) (path : Path) (entry : Entry) (at : Path) → entry_at (with_entry space path entry) at ≡ cond (same_path at path) (Some entry) (entry_at space at)
entry_at-with_entry space path entry at = map.find-put path_cmp path_cmp_total at path entry space

pub Rises-with_entry : (space : Namespace) (path : Path) (entry : Entry) → Rises space → Rises (with_entry space path entry)
Rises-with_entry space path entry rises = from_T _ (map.is_sorted-put path_cmp path_cmp_total path entry space (to_T _ rises))

pub Rises-with_entries : (es : List (Path × Entry)) (space : Namespace) → Rises space → Rises (with_entries space es)
Rises-with_entries [] space rises = rises
Rises-with_entries (e ∷ es) space rises = Rises-with_entries es (with_entry space e.0 e.1) (Rises-with_entry space e.0 e.1 rises)

either_twice : (a b : Bool) (x y : Option Entry) → cond a x (cond b x y) ≡ cond (b || a) x y
either_twice true true x y = refl
either_twice true false x y = refl
either_twice false true x y = refl
either_twice false false x y = refl

-- after new directories at each of the paths
pub entry_at-with_dirs : (space : Namespace) (user : List ℕ) (paths : List Path) (at : Path) → entry_at (with_dirs space user paths) at ≡ cond (is_among paths at) (Some (new_dir user)) (entry_at space at)
entry_at-with_dirs space user [] at = refl
entry_at-with_dirs space user (path ∷ paths) at =
    entry_at-with_dirs (with_entry space path (new_dir user)) user paths at ∙ ap (cond (is_among paths at) (Some (new_dir user))) (entry_at-with_entry space path (new_dir user) at)
    ∙ either_twice (is_among paths at) (same_path at path) (Some (new_dir user)) (entry_at space at)

pub Rises-with_dirs : (space : Namespace) (user : List ℕ) (paths : List Path) → Rises space → Rises (with_dirs space user paths)
Rises-with_dirs space user paths rises = Rises-with_entries (list_map (λ (path : Path). (path, new_dir user)) paths) space rises

-- ---- some entries alone

-- with only the paths that pass a test
pub entry_at-filter : (keep : Path → Bool) (space : Namespace) (at : Path) → entry_at (filter (λ (e : Path × Entry). keep e.0) space) at ≡ cond (keep at) (entry_at space at) None
entry_at-filter keep space at = map.find-where_key path_cmp keep at (λ path same. ap keep (sym (path_cmp_exact at path same))) space

pub Rises-filter : (keep : Path → Bool) (space : Namespace) → Rises space → Rises (filter (λ (e : Path × Entry). keep e.0) space)
Rises-filter keep space rises = from_T _ (map.is_sorted-where_key path_cmp keep space (to_T _ rises))

other_way : (test : Bool) (x y : Option Entry) → cond (not test) x y ≡ cond test y x
other_way true x y = refl
other_way false x y = refl

pub entry_at-below : (space : Namespace) (top at : Path) → entry_at (below space top) at ≡ cond (is_within top at) (entry_at space at) None
entry_at-below space top at = entry_at-filter (is_within top) space at

pub entry_at-without : (space : Namespace) (top at : Path) → entry_at (without space top) at ≡ cond (is_within top at) None (entry_at space at)
entry_at-without space top at = entry_at-filter (λ path. not (is_within top path)) space at ∙ other_way (is_within top at) (entry_at space at) None

pub Rises-without : (space : Namespace) (top : Path) → Rises space → Rises (without space top)
Rises-without space top rises = Rises-filter (λ path. not (is_within top path)) space rises

pub entry_at-cut : (space : Namespace) (gone : List Path) (at : Path) → entry_at (cut space gone) at ≡ cond (is_among gone at) None (entry_at space at)
entry_at-cut space gone at = entry_at-filter (λ path. not (is_among gone path)) space at ∙ other_way (is_among gone at) (entry_at space at) None

pub Rises-cut : (space : Namespace) (gone : List Path) → Rises space → Rises (cut space gone)
Rises-cut space gone rises = Rises-filter (λ path. not (is_among gone path)) space rises

-- ---- what a namespace is, by look-ups

pub dir-exists : (entry : Option Entry) → is_dir entry ≡ true → IsSome entry
dir-exists None e = absurd (true≢false (sym e))
dir-exists (Some entry) e = refl

pub none_from : (found : Option Entry) → is_some found ≡ false → found ≡ None
none_from None e = refl
none_from (Some entry) e = absurd (true≢false e)

-- what holds of each path of the list holds where something stands
pub all_at : (test : Path → Bool) (space : Namespace) → list_all (λ (e : Path × Entry). test e.0) space ≡ true → (at : Path) → IsSome (entry_at space at) → test at ≡ true
all_at test [] all at here = absurd (true≢false (sym here))
all_at test (e ∷ es) all at here =
    let parts = and_parts (test e.0) (list_all (λ (e : Path × Entry). test e.0) es) all in
    elim (paths_tell at e.0) [
      | inl same ↦ ap test same.1 ∙ parts.0
      | inr differ ↦ all_at test es parts.1 at (sym (ap (λ (b : Bool). is_some (cond b (Some e.1) (entry_at es at))) differ.0) ∙ here)
    ]

pub found_later : (test : Bool) (entry : Entry) (rest : Option Entry) → IsSome rest → IsSome (cond test (Some entry) rest)
found_later true entry rest here = refl
found_later false entry rest here = here

-- and what holds where something stands holds of each path of the list
pub all_from : (test : Path → Bool) (space : Namespace) → ((at : Path) → IsSome (entry_at space at) → test at ≡ true) → list_all (λ (e : Path × Entry). test e.0) space ≡ true
all_from test [] each = refl
all_from test (e ∷ es) each =
    let here : IsSome (entry_at (e ∷ es) e.0) = ap (λ (b : Bool). is_some (cond b (Some e.1) (entry_at es e.0))) (same_path-self e.0) in
    and_from (test e.0) (list_all (λ (e : Path × Entry). test e.0) es) (each e.0 here) (all_from test es (λ at there. each at (found_later (same_path at e.0) e.1 (entry_at es at) there)))

-- where something stands in a namespace, the path consists of names
pub names_at : (space : Namespace) → IsNamespace space → (at : Path) → IsSome (entry_at space at) → list_all is_name at ≡ true
names_at space is = all_at (list_all is_name) space is.names

-- what stands above something is a directory
pub dir_above : (space : Namespace) → IsNamespace space → (top : Path) (name : List ℕ) (rest : Path) → IsSome (entry_at space (top ++ name ∷ rest)) → is_dir (entry_at space top) ≡ true
dir_above space is top name [] here = is.parents top name here
dir_above space is top name (next ∷ rest) here =
    is.parents top name (dir-exists (entry_at space (top ++ name ∷ []))
    (dir_above space is (top ++ name ∷ []) next rest (subst (λ (p : Path). IsSome (entry_at space p)) (sym (append_assoc top (name ∷ []) (next ∷ rest))) here)))

-- where nothing stands at a path, nothing stands below it
pub missing_within : (space : Namespace) → IsNamespace space → (top : Path) → entry_at space top ≡ None → (at : Path) → is_within top at ≡ true → entry_at space at ≡ None
missing_within space is top missing at within =
    let rest = is_within-rest top at within in
    (elim (drop (length top) at) as (λ (r : Path). top ++ r ≡ at → entry_at space at ≡ None) [
      | [] ↦ λ same. ap (entry_at space) (sym same ∙ append-nil top) ∙ missing
      | (name ∷ names) ↦ λ same. missing_from space is top missing name names at same (entry_at space at) refl
    ]) rest
  where
    missing_from : (space : Namespace) → IsNamespace space → (top : Path) → entry_at space top ≡ None → (name : List ℕ) (names at : Path) → top ++ name ∷ names ≡ at → (found : Option Entry) → entry_at space at ≡ found → found ≡ None
    missing_from space is top missing name names at same None found = refl
    missing_from space is top missing name names at same (Some entry) found =
        let here : IsSome (entry_at space (top ++ name ∷ names)) = ap (λ (p : Path). is_some (entry_at space p)) same ∙ ap is_some found in
        absurd (true≢false (sym (dir_above space is top name names here) ∙ ap is_dir missing))

-- before any call there is a namespace
pub opening_is_a_namespace : IsNamespace opening
opening_is_a_namespace = record { rises = refl; names = refl; root = refl; parents = alone }
  where
    alone : (up : Path) (name : List ℕ) → IsSome (entry_at opening (up ++ name ∷ [])) → is_dir (entry_at opening up) ≡ true
    alone [] name here = refl
    alone (first ∷ rest) name here = absurd (true≢false (sym here))
