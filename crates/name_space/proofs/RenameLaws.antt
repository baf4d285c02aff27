-- A rename leaves a namespace.
use Rattle.std.proofs.Common.{◌≡◌, ◌≢◌, ℕ, Bool, true, false, ◌&&◌, cond, List, [], ◌∷◌, ◌++◌, length, take, drop, None, is_some, IsSome, refl, sym, ap, ◌∙◌, subst, inl, inr, arith}
use Rattle.std.specs.List.{list_all}
use Rattle.std.proofs.lemmas.Bool.{true≢false, and_parts, and_from, false_from_ne_true}
use Rattle.std.proofs.lemmas.List.{drop-append-le, append_assoc, same_from_push}
use Rattle.std.proofs.lemmas.List.Folds.{list_all-append}
use Rattle.hops_base.specs.Name.{is_name}
use Rattle.hops_base.specs.Path.{same_path, parent_of}
use Rattle.name_space.specs.Namespace.{Namespace, Path, IsNamespace, entry_at, exists, is_dir, is_within}
use Rattle.name_space.specs.Plain.{last_name}
use Rattle.name_space.specs.Rename.{moved, has_parent, target_of}
use Rattle.name_space.proofs.PathLaws.{same_path-self, is_within-rest, is_within-push, is_within-pop, is_within-long, not_within-push, not_within-root, not_within-apart, push-not_root}
use Rattle.name_space.proofs.NamespaceLaws.{names_at, none_from}
use Rattle.name_space.proofs.MoveLaws.{IsFree, moved-within, moved-gone, moved-stays, Rises-moved}
use Rattle.name_space.proofs.KeepLaws.{by_looks}
use Rattle.name_space.proofs.CallCases.{Moves}

module _ (space : Namespace) (is : IsNamespace space) (source up : Path) (name : List ℕ) (none : entry_at space (up ++ name ∷ []) ≡ None) (dir : is_dir (entry_at space up) ≡ true)
    (not_root : source ≢ []) (apart : is_within source (up ++ name ∷ []) ≡ false) (names : list_all is_name (up ++ name ∷ []) ≡ true) where
  -- where the source goes
  abbrev new_path : Path
  new_path = up ++ name ∷ []

  -- the namespace after the move
  abbrev after : Namespace
  after = moved space source new_path

  named : (at : Path) (t s : Bool) → is_within new_path at ≡ t → is_within source at ≡ s → IsSome (entry_at after at) → list_all is_name at ≡ true
  named at true s t e here =
      let rest : Path = drop (length new_path) at in
      let from = names_at space is (source ++ rest) (sym (ap is_some (moved-within space is source new_path none at t)) ∙ here) in
      sym (ap (list_all is_name) (is_within-rest new_path at t)) ∙ list_all-append is_name new_path rest ∙ and_from (list_all is_name new_path) (list_all is_name rest) names
      (and_parts (list_all is_name source) (list_all is_name rest) (sym (list_all-append is_name source rest) ∙ from)).1
  named at false true t e here = absurd (true≢false (sym here ∙ ap is_some (moved-gone space is source new_path none at t e)))
  named at false false t e here = names_at space is at (sym (ap is_some (moved-stays space is source new_path none at t e)) ∙ here)

  above_within : (path : Path) (last : List ℕ) → is_within new_path path ≡ true → IsSome (entry_at after (path ++ last ∷ [])) → is_dir (entry_at after path) ≡ true
  above_within path last within here =
      let long = is_within-long new_path path within in
      let rest : Path = drop (length new_path) path in
      let later : source ++ drop (length new_path) (path ++ last ∷ []) ≡ (source ++ rest) ++ last ∷ [] =
      ap (λ (p : Path). source ++ p) (drop-append-le (length new_path) path (last ∷ []) (omega arith)) ∙ sym (append_assoc source rest (last ∷ [])) in
      let there = sym (ap (λ (p : Path). is_some (entry_at space p)) later) ∙ sym (ap is_some (moved-within space is source new_path none (path ++ last ∷ []) (is_within-push new_path path last within))) ∙ here in
      ap is_dir (moved-within space is source new_path none path within) ∙ is.parents (source ++ rest) last there

  stays_dir : (path : Path) → is_within new_path path ≡ false → is_within source path ≡ false → is_dir (entry_at space path) ≡ true → is_dir (entry_at after path) ≡ true
  stays_dir path t e dir = ap is_dir (moved-stays space is source new_path none path t e) ∙ dir

  -- a path that moves along takes what stands in it along
  outside : (top path : Path) (last : List ℕ) → is_within top (path ++ last ∷ []) ≡ false → is_within top path ≡ false
  outside top path last out = false_from_ne_true (is_within top path) (λ within. true≢false (sym (is_within-push top path last within) ∙ out))

  parent : (path : Path) (last : List ℕ) (t s : Bool) → is_within new_path (path ++ last ∷ []) ≡ t → is_within source (path ++ last ∷ []) ≡ s → IsSome (entry_at after (path ++ last ∷ [])) → is_dir (entry_at after path) ≡ true
  parent path last true s t e here = elim (is_within-pop new_path path last t) [
    | inl same ↦
        let at : up ≡ path = (same_from_push up path name last same).0 in
        subst (λ (p : Path). is_dir (entry_at after p) ≡ true) at (stays_dir up (not_within-push up name) (outside source up name apart) dir)
    | inr within ↦ above_within path last within here
  ]
  parent path last false true t e here = absurd (true≢false (sym here ∙ ap is_some (moved-gone space is source new_path none (path ++ last ∷ []) t e)))
  parent path last false false t e here =
      stays_dir path (outside new_path path last t) (outside source path last e) (is.parents path last (sym (ap is_some (moved-stays space is source new_path none (path ++ last ∷ []) t e)) ∙ here))

  moved_kept : IsNamespace after
  moved_kept =
      by_looks after (Rises-moved space source new_path) (λ at here. named at (is_within new_path at) (is_within source at) refl refl here)
      (stays_dir [] (not_within-root new_path (push-not_root up name)) (not_within-root source not_root) is.root)
      (λ path last here. parent path last (is_within new_path (path ++ last ∷ [])) (is_within source (path ++ last ∷ [])) refl refl here)

-- after a move to a free target a namespace is one
pub move_kept : (space : Namespace) → IsNamespace space → (source target : Path) → source ≢ [] → list_all is_name target ≡ true → IsFree space source target → IsNamespace (moved space source target)
move_kept space is source target not_root names free =
    subst (λ (t : Path). IsNamespace (moved space source t)) free.is
    (moved_kept space is source free.up free.name (ap (entry_at space) free.is ∙ free.none) free.dir not_root (ap (is_within source) free.is ∙ free.apart) (ap (list_all is_name) free.is ∙ names))

-- ---- the target

-- a path other than the root is its parent and a last name
split : (first : List ℕ) (rest : Path) → (name : List ℕ) × (take (length rest) (first ∷ rest) ++ name ∷ [] ≡ first ∷ rest)
split first [] = (first, refl)
split first (second ∷ rest) = let later = split second rest in (later.0, ap (λ (p : Path). first ∷ p) later.1)

last_is_name : (first : List ℕ) (rest : Path) → list_all is_name (first ∷ rest) ≡ true → is_name (last_name (first ∷ rest)) ≡ true
last_is_name first [] names = (and_parts (is_name first) true names).0
last_is_name first (second ∷ rest) names = last_is_name second rest (and_parts (is_name first) (list_all is_name (second ∷ rest)) names).1

last_name-is : (path : Path) → path ≢ [] → list_all is_name path ≡ true → is_name (last_name path) ≡ true
last_name-is [] not_root names = absurd (not_root refl)
last_name-is (first ∷ rest) not_root names = last_is_name first rest names

-- the target of a rename consists of names where both paths do
pub target_names : (space : Namespace) (source destination : Path) → source ≢ [] → list_all is_name source ≡ true → list_all is_name destination ≡ true → list_all is_name (target_of space source destination) ≡ true
target_names space source destination not_root from to = by (is_dir (entry_at space destination))
  where
    by : (dir : Bool) → list_all is_name (cond dir (destination ++ last_name source ∷ []) destination) ≡ true
    by true = list_all-append is_name destination (last_name source ∷ []) ∙ and_from (list_all is_name destination) (is_name (last_name source) && true) to (and_from (is_name (last_name source)) true (last_name-is source not_root from) refl)
    by false = to

-- the target of a rename that moves is free, in a directory that doesn't move along
pub target_free : (space : Namespace) → IsNamespace space → (source destination : Path) → Moves space source destination → IsFree space source (target_of space source destination)
target_free space is source destination moves = by (is_dir (entry_at space destination)) refl moves.elsewhere moves.free
  where
    at : is_dir (entry_at space destination) ≡ false → entry_at space destination ≡ None → (path : Path) → path ≡ destination → IsFree space source destination
    at no_dir none [] same = absurd (true≢false (sym is.root ∙ ap (λ (p : Path). is_dir (entry_at space p)) same ∙ no_dir))
    at no_dir none (first ∷ rest) same = record {
      up = take (length rest) (first ∷ rest);
      name = (split first rest).0;
      is = (split first rest).1 ∙ same;
      dir = ap (λ (p : Path). has_parent space (parent_of p)) same ∙ moves.parent;
      none = none;
      apart = not_within-apart source destination moves.not_below moves.differ;
    }

    by : (dir : Bool) → is_dir (entry_at space destination) ≡ dir → same_path (cond dir (destination ++ last_name source ∷ []) destination) source ≡ false → exists space (cond dir (destination ++ last_name source ∷ []) destination) ≡ false
        → IsFree space source (cond dir (destination ++ last_name source ∷ []) destination)
    by true dir elsewhere free = record {
      up = destination;
      name = last_name source;
      is = refl;
      dir = dir;
      none = none_from (entry_at space (destination ++ last_name source ∷ [])) free;
      apart = false_from_ne_true (is_within source (destination ++ last_name source ∷ [])) (λ within. elim (is_within-pop source destination (last_name source) within) [
        | inl same ↦ true≢false (sym (same_path-self source) ∙ ap (λ (p : Path). same_path p source) same ∙ elsewhere)
        | inr inside ↦ true≢false (sym inside ∙ not_within-apart source destination moves.not_below moves.differ)
      ]);
    }
    by false dir elsewhere free = at dir (none_from (entry_at space destination) free) destination refl
