-- What stands where after all of a source moved to a target.
use Rattle.std.specs.Prelude.{◌≡◌, ℕ, Bool, true, false, cond, not, List, [], ◌∷◌, ◌++◌, map as list_map, length, drop, Option, Some, None, is_some}
use Rattle.std.proofs.Common.{refl, sym, ap, ◌∙◌}
use Rattle.std.specs.Cmp.{both_ways}
use Rattle.std.specs.List.{list_all}
use Rattle.std.specs.Option.{option_or}
use Rattle.std.specs.Ordering.{is_eq, is_lt}
use Rattle.std.specs.FinMap.Entries as map
use Rattle.std.proofs.lemmas.Bool.{true≢false, and_parts, not-true, not_from_false, false_from_ne_true}
use Rattle.std.proofs.Math.Seq.{drop-append_seam}
use Rattle.hops_base.specs.Path.{path_cmp, same_path}
use Rattle.name_space.specs.declared.entry.Entry.{Entry}
use Rattle.name_space.specs.Namespace.{Namespace, Path, IsNamespace, entry_at, is_dir, with_entry, with_entries, is_within}
use Rattle.name_space.specs.Rename.{moved_path, moved}
use Rattle.name_space.proofs.PathLaws.{same_path-self, same_path-is, same_path-not, is_less, is_within-append, is_within-rest}
use Rattle.name_space.specs.Namespace.{Rises}
use Rattle.name_space.proofs.NamespaceLaws.{entry_at-with_entry, Rises-with_entries, all_from, missing_within}

-- where a path stood before all of the source stood at the target; none where the source stood
abbrev pub came_from : Path → Path → Path → Option Path
came_from source target at = cond (is_within target at) (Some (source ++ drop (length target) at)) (cond (is_within source at) None (Some at))

-- what stands at a path, where there is a path
abbrev pub entry_from : Namespace → Option Path → Option Entry
entry_from space None = None
entry_from space (Some path) = entry_at space path

-- the path is this one, where there is one
abbrev pub is_one : Option Path → Path → Bool
is_one None path = false
is_one (Some from) path = same_path from path

module _ (source target at path : Path) (clear : is_within target path ≡ false) where
  to_target : (s t u : Bool) → is_within source path ≡ s → is_within target at ≡ t → is_within source at ≡ u
      → same_path at (cond s (target ++ drop (length source) path) path) ≡ is_one (cond t (Some (source ++ drop (length target) at)) (cond u None (Some at))) path
  to_target true true u s t e =
      let m : Path = target ++ drop (length source) path in
      let from : Path = source ++ drop (length target) at in
      both_ways (same_path at m) (same_path from path)
      (λ is. let same : from ≡ path = ap (λ (p : Path). source ++ drop (length target) p) (same_path-is at m is) ∙ ap (λ (p : Path). source ++ p) (drop-append_seam target (drop (length source) path)) ∙ is_within-rest source path s in
      ap (λ (p : Path). same_path p path) same ∙ same_path-self path)
      (λ is. let same : m ≡ at = ap (λ (p : Path). target ++ drop (length source) p) (sym (same_path-is from path is)) ∙ ap (λ (p : Path). target ++ p) (drop-append_seam source (drop (length target) at)) ∙ is_within-rest target at t in
      ap (same_path at) same ∙ same_path-self at)
  to_target true false true s t e = same_path-not at (target ++ drop (length source) path) (λ is. true≢false (sym (is_within-append target (drop (length source) path)) ∙ ap (is_within target) (sym is) ∙ t))
  to_target true false false s t e =
      same_path-not at (target ++ drop (length source) path) (λ is. true≢false (sym (is_within-append target (drop (length source) path)) ∙ ap (is_within target) (sym is) ∙ t))
      ∙ sym (same_path-not at path (λ is. true≢false (sym s ∙ ap (is_within source) (sym is) ∙ e)))
  to_target false true u s t e =
      same_path-not at path (λ is. true≢false (sym t ∙ ap (is_within target) is ∙ clear))
      ∙ sym (same_path-not (source ++ drop (length target) at) path (λ is. true≢false (sym (is_within-append source (drop (length target) at)) ∙ ap (is_within source) is ∙ s)))
  to_target false false true s t e = same_path-not at path (λ is. true≢false (sym e ∙ ap (is_within source) is ∙ s))
  to_target false false false s t e = refl

  -- it is where the path goes that it came from
  pub moved_there : same_path at (moved_path source target path) ≡ is_one (came_from source target at) path
  moved_there = to_target (is_within source path) (is_within target at) (is_within source at) refl refl refl

-- a path before all others isn't found among them
pub not_later : (path : Path) (es : Namespace) → map.below_all path_cmp path es ≡ true → entry_at es path ≡ None
not_later path [] first = refl
not_later path (e ∷ es) first =
    let parts = and_parts (is_lt (path_cmp path e.0)) (map.below_all path_cmp path es) first in
    ap (λ (b : Bool). cond b (Some e.1) (entry_at es path)) (ap is_eq (is_less (path_cmp path e.0) parts.0)) ∙ not_later path es parts.1

-- the first entry counts as it would last, since no path stands twice
first_or : (e : Path × Entry) (es : Namespace) (from : Option Path) (rest : Option Entry) → map.below_all path_cmp e.0 es ≡ true
    → option_or (entry_from es from) (cond (is_one from e.0) (Some e.1) rest) ≡ option_or (entry_from (e ∷ es) from) rest
first_or e es None rest first = refl
first_or e es (Some path) rest first =
    (elim (same_path path e.0) as (λ (b : Bool). same_path path e.0 ≡ b → option_or (entry_at es path) (cond b (Some e.1) rest) ≡ option_or (cond b (Some e.1) (entry_at es path)) rest) [
      | true ↦ λ is. ap (λ (o : Option Entry). option_or o (Some e.1)) (ap (entry_at es) (same_path-is path e.0 is) ∙ not_later e.0 es first)
      | false ↦ λ is. refl
    ]) refl

moved_onto : (source target at : Path) (es space : Namespace) → list_all (λ (e : Path × Entry). not (is_within target e.0)) es ≡ true → Rises es
    → entry_at (with_entries space (list_map (λ (e : Path × Entry). (moved_path source target e.0, e.1)) es)) at ≡ option_or (entry_from es (came_from source target at)) (entry_at space at)
moved_onto source target at [] space clear rises = none (came_from source target at)
  where
    none : (from : Option Path) → entry_at space at ≡ option_or (entry_from [] from) (entry_at space at)
    none None = refl
    none (Some path) = refl
moved_onto source target at (e ∷ es) space clear rises =
    let clears = and_parts (not (is_within target e.0)) (list_all (λ (e : Path × Entry). not (is_within target e.0)) es) clear in
    let parts = and_parts (map.below_all path_cmp e.0 es) (map.is_sorted path_cmp es) rises in
    let to : Path = moved_path source target e.0 in
    let from : Option Path = came_from source target at in
    moved_onto source target at es (with_entry space to e.1) clears.1 parts.1
    ∙ ap (option_or (entry_from es from)) (entry_at-with_entry space to e.1 at ∙ ap (λ (b : Bool). cond b (Some e.1) (entry_at space at)) (moved_there source target at e.0 (not-true (is_within target e.0) clears.0)))
    ∙ first_or e es from (entry_at space at) parts.0

or_none : (o : Option Entry) → option_or o None ≡ o
or_none None = refl
or_none (Some entry) = refl

-- where nothing stood within the target, what stands at a path is what stood where it came from
pub entry_at-moved : (space : Namespace) → Rises space → (source target : Path) → ((path : Path) → is_within target path ≡ true → entry_at space path ≡ None) → (at : Path)
    → entry_at (moved space source target) at ≡ entry_from space (came_from source target at)
entry_at-moved space rises source target free at =
    moved_onto source target at space [] (all_from (λ path. not (is_within target path)) space (λ path here. not_from_false (is_within target path) (false_from_ne_true (is_within target path) (λ within.
    true≢false (sym here ∙ ap is_some (free path within)))))) rises
    ∙ or_none (entry_from space (came_from source target at))

pub Rises-moved : (space : Namespace) (source target : Path) → Rises (moved space source target)
Rises-moved space source target = Rises-with_entries (list_map (λ (e : Path × Entry). (moved_path source target e.0, e.1)) space) [] refl

-- a rename: all of the source, which isn't the root, moves to a target that is free, in a directory that doesn't move along
pub record IsFree (space : Namespace) (source target : Path) : Type 0 where
  pub up : Path
  pub name : List ℕ
  pub is : up ++ name ∷ [] ≡ target
  pub dir : is_dir (entry_at space up) ≡ true
  pub none : entry_at space target ≡ None
  pub apart : is_within source target ≡ false

module _ (space : Namespace) (is : IsNamespace space) (source target : Path) (none : entry_at space target ≡ None) (at : Path) where
  from : entry_at (moved space source target) at ≡ entry_from space (came_from source target at)
  from = entry_at-moved space is.rises source target (λ path within. missing_within space is target none path within) at

  -- what stood within the source stands within the target
  pub moved-within : is_within target at ≡ true → entry_at (moved space source target) at ≡ entry_at space (source ++ drop (length target) at)
  moved-within within = from ∙ ap (λ (b : Bool). entry_from space (cond b (Some (source ++ drop (length target) at)) (cond (is_within source at) None (Some at)))) within

  -- nothing stands within the source
  pub moved-gone : is_within target at ≡ false → is_within source at ≡ true → entry_at (moved space source target) at ≡ None
  moved-gone outside within = from ∙ (λ i. entry_from space (cond (outside i) (Some (source ++ drop (length target) at)) (cond (within i) None (Some at))))

  -- elsewhere stands what stood there
  pub moved-stays : is_within target at ≡ false → is_within source at ≡ false → entry_at (moved space source target) at ≡ entry_at space at
  moved-stays outside apart = from ∙ (λ i. entry_from space (cond (outside i) (Some (source ++ drop (length target) at)) (cond (apart i) None (Some at))))
