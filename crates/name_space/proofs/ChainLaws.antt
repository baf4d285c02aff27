-- Laws of the paths that go on from a path name by name: they are its missing prefixes, where it exists and they don't.
use Rattle.std.specs.Prelude.{◌≡◌, ℕ, Bool, true, cond, not, List, [], ◌∷◌, ◌++◌, map as list_map, slice_get, Option, None, Some, IsSome, is_some, IfSome}
use Rattle.std.proofs.Common.{refl, sym, ap, ◌∙◌, subst}
use Rattle.std.specs.List.{filter}
use Rattle.std.proofs.lemmas.List.{map-append, append_assoc}
use Rattle.std.proofs.lemmas.List.Elements.{filter-append}
use Rattle.name_space.specs.declared.entry.Entry.{Entry}
use Rattle.name_space.specs.Namespace.{Namespace, Path, IsNamespace, entry_at, exists, above, prefixes, paths_below, missing}
use Rattle.name_space.proofs.PathLaws.{is_within-append}
use Rattle.name_space.proofs.PrefixLaws.{prefixes-cons}
use Rattle.name_space.proofs.NamespaceLaws.{missing_within, dir_above, dir-exists}

-- under a front, the paths are those under it
pub paths_below-map : (front path : Path) (names : List (List ℕ)) → paths_below (front ++ path) names ≡ list_map (λ (p : Path). front ++ p) (paths_below path names)
paths_below-map front path [] = refl
paths_below-map front path (name ∷ names) =
    let here : (front ++ path) ++ name ∷ [] ≡ front ++ (path ++ name ∷ []) = append_assoc front path (name ∷ []) in
    let rest : paths_below ((front ++ path) ++ name ∷ []) names ≡ list_map (λ (p : Path). front ++ p) (paths_below (path ++ name ∷ []) names) =
    ap (λ (p : Path). paths_below p names) here ∙ paths_below-map front (path ++ name ∷ []) names in
    λ i. here i ∷ rest i

-- the prefixes of a path go on from the root
pub prefixes-below : (names : Path) → prefixes names ≡ [] ∷ paths_below [] names
prefixes-below [] = refl
prefixes-below (name ∷ names) =
    prefixes-cons name names
    ∙ ap (λ (ps : List Path). [] ∷ list_map (λ (up : Path). name ∷ up) ps) (prefixes-below names)
    ∙ ap (λ (ps : List Path). [] ∷ (name ∷ []) ∷ ps) (sym (paths_below-map (name ∷ []) [] names))

-- those of a path that goes on from another are its own, and those that go on
pub prefixes-append : (path : Path) (names : List (List ℕ)) → prefixes (path ++ names) ≡ above path ++ (path ∷ paths_below path names)
prefixes-append [] names = prefixes-below names
prefixes-append (name ∷ path) names =
    prefixes-cons name (path ++ names)
    ∙ ap (λ (ps : List Path). [] ∷ list_map (λ (up : Path). name ∷ up) ps) (prefixes-append path names)
    ∙ ap (λ (ps : List Path). [] ∷ ps) (map-append (λ (up : Path). name ∷ up) (above path) (path ∷ paths_below path names))
    ∙ ap (λ (ps : List Path). [] ∷ (list_map (λ (up : Path). name ∷ up) (above path) ++ ((name ∷ path) ∷ ps))) (sym (paths_below-map (name ∷ []) path names))

module _ (space : Namespace) (is : IsNamespace space) where
  -- the path is missing
  lacks : Path → Bool
  lacks path = not (exists space path)

  -- below a missing path all are missing
  none_below : (names : List (List ℕ)) (top : Path) → entry_at space top ≡ None → filter (λ (up : Path). not (exists space up)) (paths_below top names) ≡ paths_below top names
  none_below [] top none = refl
  none_below (name ∷ names) top none =
      let here : entry_at space (top ++ name ∷ []) ≡ None = missing_within space is top none (top ++ name ∷ []) (is_within-append top (name ∷ [])) in
      let rest = none_below names (top ++ name ∷ []) here in
      ap (λ (o : Option Entry). cond (not (is_some o)) ((top ++ name ∷ []) ∷ filter (λ (up : Path). not (exists space up)) (paths_below (top ++ name ∷ []) names)) (filter (λ (up : Path). not (exists space up)) (paths_below (top ++ name ∷ []) names))) here
      ∙ ap (λ (ps : List Path). (top ++ name ∷ []) ∷ ps) rest

  -- from a path whose next name is missing, all are missing
  next_none : (names : List (List ℕ)) (top : Path) → IfSome (slice_get names 0) (λ (name : List ℕ). entry_at space (top ++ name ∷ []) ≡ None) → filter (λ (up : Path). not (exists space up)) (paths_below top names) ≡ paths_below top names
  next_none [] top none = refl
  next_none (name ∷ names) top none =
      ap (λ (o : Option Entry). cond (not (is_some o)) ((top ++ name ∷ []) ∷ filter (λ (up : Path). not (exists space up)) (paths_below (top ++ name ∷ []) names)) (filter (λ (up : Path). not (exists space up)) (paths_below (top ++ name ∷ []) names))) none
      ∙ ap (λ (ps : List Path). (top ++ name ∷ []) ∷ ps) (none_below names (top ++ name ∷ []) none)

  is_there : (o : Option Entry) → IsSome o → is_some o ≡ true
  is_there None some = absurd (let bad = some in cc)
  is_there (Some entry) some = refl

  -- above a path that exists none is missing
  none_above : (top rest : Path) → IsSome (entry_at space (top ++ rest)) → filter (λ (up : Path). not (exists space up)) (list_map (λ (up : Path). top ++ up) (above rest)) ≡ []
  none_above top [] some = refl
  none_above top (name ∷ rest) some =
      let here : exists space (top ++ []) ≡ true = is_there (entry_at space (top ++ [])) (dir-exists (entry_at space (top ++ [])) (subst (λ (p : Path). Rattle.name_space.specs.Namespace.is_dir (entry_at space p) ≡ true) (sym (Rattle.std.proofs.Common.append-nil top)) (dir_above space is top name rest some))) in
      let further : list_map (λ (up : Path). top ++ up) (list_map (λ (up : Path). name ∷ up) (above rest)) ≡ list_map (λ (up : Path). (top ++ name ∷ []) ++ up) (above rest) = regrouped (above rest) in
      let next : IsSome (entry_at space ((top ++ name ∷ []) ++ rest)) = subst (λ (p : Path). IsSome (entry_at space p)) (sym (append_assoc top (name ∷ []) rest)) some in
      ap (λ (b : Bool). cond (not b) ((top ++ []) ∷ filter (λ (up : Path). not (exists space up)) (list_map (λ (up : Path). top ++ up) (list_map (λ (up : Path). name ∷ up) (above rest)))) (filter (λ (up : Path). not (exists space up)) (list_map (λ (up : Path). top ++ up) (list_map (λ (up : Path). name ∷ up) (above rest))))) here
      ∙ ap (filter (λ (up : Path). not (exists space up))) further
      ∙ none_above (top ++ name ∷ []) rest next
    where
      regrouped : (ps : List Path) → list_map (λ (up : Path). top ++ up) (list_map (λ (up : Path). name ∷ up) ps) ≡ list_map (λ (up : Path). (top ++ name ∷ []) ++ up) ps
      regrouped [] = refl
      regrouped (p ∷ ps) = λ i. sym (append_assoc top (name ∷ []) p) i ∷ regrouped ps i

  same_list : (ps : List Path) → list_map (λ (up : Path). [] ++ up) ps ≡ ps
  same_list [] = refl
  same_list (p ∷ ps) = ap (λ (qs : List Path). p ∷ qs) (same_list ps)

  -- the missing prefixes of a path are those that go on from its longest prefix that exists
  pub missing-below : (path : Path) (names : List (List ℕ)) → IsSome (entry_at space path) → IfSome (slice_get names 0) (λ (name : List ℕ). entry_at space (path ++ name ∷ []) ≡ None) → missing space (path ++ names) ≡ paths_below path names
  missing-below path names some none =
      let ups : filter (λ (up : Path). not (exists space up)) (above path) ≡ [] = ap (filter (λ (up : Path). not (exists space up))) (sym (same_list (above path))) ∙ none_above [] path some in
      let here : exists space path ≡ true = is_there (entry_at space path) some in
      ap (filter (λ (up : Path). not (exists space up))) (prefixes-append path names)
      ∙ filter-append (λ (up : Path). not (exists space up)) (above path) (path ∷ paths_below path names)
      ∙ ap (λ (ps : List Path). ps ++ filter (λ (up : Path). not (exists space up)) (path ∷ paths_below path names)) ups
      ∙ ap (λ (b : Bool). cond (not b) (path ∷ filter (λ (up : Path). not (exists space up)) (paths_below path names)) (filter (λ (up : Path). not (exists space up)) (paths_below path names))) here
      ∙ next_none names path none
