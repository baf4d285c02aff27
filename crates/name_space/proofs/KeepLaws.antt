-- Changes at one place that leave a namespace.
use Rattle.std.proofs.Common.{◌≡◌, ◌≢◌, ℕ, Bool, true, false, not, ◌&&◌, ◌||◌, cond, List, [], ◌∷◌, ◌++◌, Option, Some, None, is_some, IsSome, sym, ap, ◌∙◌, inl, inr}
use Rattle.std.specs.List.{list_all}
use Rattle.std.proofs.lemmas.Bool.{true≢false, and_parts, or_left, or_right, false_from_ne_true}
use Rattle.hops_base.specs.Name.{is_name}
use Rattle.hops_base.specs.Path.{is_below}
use Rattle.name_space.specs.declared.entry.Entry.{Entry}
use Rattle.name_space.specs.Namespace.{Namespace, Path, IsNamespace, entry_at, exists, is_dir, with_entry, is_within, without}
use Rattle.name_space.specs.Cut.{cut, is_among, is_covered}
use Rattle.name_space.proofs.PathLaws.{paths_tell, is_within-append, is_within-push, not_within-root}
use Rattle.name_space.specs.Namespace.{Rises}
use Rattle.name_space.proofs.NamespaceLaws.{Rises-with_entry, Rises-without, Rises-cut, entry_at-with_entry, entry_at-without, entry_at-cut, all_at, all_from, names_at}
use Rattle.name_space.specs.Laws.{CutGivesANamespace}

-- a list is a namespace where it rises, something stands only at names, and the root and what stands above something are directories
pub by_looks : (space : Namespace) → Rises space → ((at : Path) → IsSome (entry_at space at) → list_all is_name at ≡ true) → is_dir (entry_at space []) ≡ true
    → ((up : Path) (name : List ℕ) → IsSome (entry_at space (up ++ name ∷ [])) → is_dir (entry_at space up) ≡ true) → IsNamespace space
by_looks space rises names root parents = record { rises = rises; names = all_from (list_all is_name) space names; root = root; parents = parents }

module _ (space : Namespace) (is : IsNamespace space) where
  -- the same paths, with directories at the same places
  pub alike : (after : Namespace) → Rises after → ((at : Path) → is_some (entry_at after at) ≡ is_some (entry_at space at)) → ((at : Path) → is_dir (entry_at after at) ≡ is_dir (entry_at space at)) → IsNamespace after
  alike after rises there dirs =
      by_looks after rises (λ at here. names_at space is at (sym (there at) ∙ here)) (dirs [] ∙ is.root) (λ up name here. dirs up ∙ is.parents up name (sym (there (up ++ name ∷ [])) ∙ here))

  -- another entry of the same kind at a path
  pub kind_kept : (path : Path) (entry : Entry) → IsSome (entry_at space path) → is_dir (Some entry) ≡ is_dir (entry_at space path) → IsNamespace (with_entry space path entry)
  kind_kept path entry here kind = alike (with_entry space path entry) (Rises-with_entry space path entry is.rises) (λ at. same is_some at (sym here)) (λ at. same is_dir at kind)
    where
      same : (f : Option Entry → Bool) (at : Path) → f (Some entry) ≡ f (entry_at space path) → f (entry_at (with_entry space path entry) at) ≡ f (entry_at space at)
      same f at one = ap f (entry_at-with_entry space path entry at) ∙ elim (paths_tell at path) [
        | inl here ↦ ap (λ (b : Bool). f (cond b (Some entry) (entry_at space at))) here.0 ∙ one ∙ ap (λ (p : Path). f (entry_at space p)) (sym here.1)
        | inr there ↦ ap (λ (b : Bool). f (cond b (Some entry) (entry_at space at))) there.0
      ]

  -- any entry at a path other than the root below which nothing stands
  pub leaf_kept : (path : Path) (entry : Entry) → path ≢ [] → IsSome (entry_at space path) → ((name : List ℕ) → entry_at space (path ++ name ∷ []) ≡ None) → IsNamespace (with_entry space path entry)
  leaf_kept path entry not_root here bare =
      by_looks (with_entry space path entry) (Rises-with_entry space path entry is.rises) (λ at found. names_at space is at (sym (there at) ∙ found))
      (other [] (λ same. not_root (sym same)) ∙ is.root) (λ up name found. up_dir up name (sym (there (up ++ name ∷ [])) ∙ found))
    where
      there : (at : Path) → is_some (entry_at (with_entry space path entry) at) ≡ is_some (entry_at space at)
      there at = ap is_some (entry_at-with_entry space path entry at) ∙ elim (paths_tell at path) [
        | inl one ↦ ap (λ (b : Bool). is_some (cond b (Some entry) (entry_at space at))) one.0 ∙ sym here ∙ ap (λ (p : Path). is_some (entry_at space p)) (sym one.1)
        | inr apart ↦ ap (λ (b : Bool). is_some (cond b (Some entry) (entry_at space at))) apart.0
      ]

      other : (at : Path) → at ≢ path → is_dir (entry_at (with_entry space path entry) at) ≡ is_dir (entry_at space at)
      other at differ = ap is_dir (entry_at-with_entry space path entry at) ∙ elim (paths_tell at path) [
        | inl one ↦ absurd (differ one.1)
        | inr apart ↦ ap (λ (b : Bool). is_dir (cond b (Some entry) (entry_at space at))) apart.0
      ]

      up_dir : (up : Path) (name : List ℕ) → IsSome (entry_at space (up ++ name ∷ [])) → is_dir (entry_at (with_entry space path entry) up) ≡ true
      up_dir up name found = elim (paths_tell up path) [
        | inl one ↦ absurd (true≢false (sym found ∙ ap (λ (p : Path). is_some (entry_at space (p ++ name ∷ []))) one.1 ∙ ap is_some (bare name)))
        | inr apart ↦ other up apart.1 ∙ is.parents up name found
      ]

  -- what is left once some paths go: the root stays, and with a path goes what stands one name below it
  less_kept : (after : Namespace) (goes : Path → Bool) → Rises after → ((at : Path) → entry_at after at ≡ cond (goes at) None (entry_at space at)) → goes [] ≡ false
      → ((up : Path) (name : List ℕ) → IsSome (entry_at space (up ++ name ∷ [])) → goes up ≡ true → goes (up ++ name ∷ []) ≡ true) → IsNamespace after
  less_kept after goes rises left root below =
      by_looks after rises (λ at here. names_at space is at (stood at here)) (stays [] root ∙ is.root)
      (λ up name here. stays up (false_from_ne_true (goes up) (λ gone. lost (up ++ name ∷ []) (below up name (stood (up ++ name ∷ []) here) gone) here)) ∙ is.parents up name (stood (up ++ name ∷ []) here))
    where
      stays : (at : Path) → goes at ≡ false → is_dir (entry_at after at) ≡ is_dir (entry_at space at)
      stays at out = ap is_dir (left at ∙ ap (λ (b : Bool). cond b None (entry_at space at)) out)

      lost : (at : Path) → goes at ≡ true → IsSome (entry_at after at) → ⊥
      lost at gone here = true≢false (sym here ∙ ap is_some (left at ∙ ap (λ (b : Bool). cond b None (entry_at space at)) gone))

      stood : (at : Path) → IsSome (entry_at after at) → IsSome (entry_at space at)
      stood at here = sym (ap is_some (left at ∙ ap (λ (b : Bool). cond b None (entry_at space at)) (false_from_ne_true (goes at) (λ gone. lost at gone here)))) ∙ here

  -- all but what stands within a path other than the root
  pub without_kept : (top : Path) → top ≢ [] → IsNamespace (without space top)
  without_kept top not_root =
      less_kept (without space top) (is_within top) (Rises-without space top is.rises) (entry_at-without space top) (not_within-root top not_root) (λ up name here gone. is_within-push top up name gone)

-- ---- a cut

-- what holds of each of some paths holds of one among them
pub among_at : (test : Path → Bool) (paths : List Path) → list_all test paths ≡ true → (path : Path) → is_among paths path ≡ true → test path ≡ true
among_at test [] all path among = absurd (true≢false (sym among))
among_at test (first ∷ rest) all path among =
    let parts = and_parts (test first) (list_all test rest) all in
    elim (paths_tell path first) [
      | inl same ↦ ap test same.1 ∙ parts.0
      | inr differ ↦ among_at test rest parts.1 path (sym (ap (λ (b : Bool). b || is_among rest path) differ.0) ∙ among)
    ]

-- one among some paths covers what lies within it
pub covered_by : (gone : List Path) (up path : Path) → is_among gone up ≡ true → is_within up path ≡ true → is_covered gone path ≡ true
covered_by [] up path among within = absurd (true≢false (sym among))
covered_by (first ∷ rest) up path among within = elim (paths_tell up first) [
  | inl same ↦ or_left (is_within first path) (is_covered rest path) (ap (λ (p : Path). is_within p path) (sym same.1) ∙ within)
  | inr differ ↦ or_right (is_within first path) (is_covered rest path) (covered_by rest up path (sym (ap (λ (b : Bool). b || is_among rest up) differ.0) ∙ among) within)
]

pub cut_gives_a_namespace : CutGivesANamespace
cut_gives_a_namespace space path gone is may = less_kept space is (cut space gone) (is_among gone) (Rises-cut space gone is.rises) (entry_at-cut space gone) root_stays closed
  where
    root_stays : is_among gone [] ≡ false
    root_stays = false_from_ne_true (is_among gone []) (λ among. never path (among_at (λ (p : Path). exists space p && is_below p path) gone may.below [] among))
      where
        never : (path : Path) → (exists space [] && is_below [] path) ≡ true → ⊥
        never [] both = true≢false (sym (and_parts (exists space []) false both).1)
        never (name ∷ names) both = true≢false (sym (and_parts (exists space []) false both).1)

    closed : (up : Path) (name : List ℕ) → IsSome (entry_at space (up ++ name ∷ [])) → is_among gone up ≡ true → is_among gone (up ++ name ∷ []) ≡ true
    closed up name here among =
        let test = all_at (λ (p : Path). not (is_covered gone p) || is_among gone p) space may.closed (up ++ name ∷ []) here in
        sym (ap (λ (b : Bool). not b || is_among gone (up ++ name ∷ [])) (covered_by gone up (up ++ name ∷ []) among (is_within-append up (name ∷ [])))) ∙ test
