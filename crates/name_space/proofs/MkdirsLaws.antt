-- What `mkdirs` does, by what stands on its path: a directory, a file, a file above it, or nothing below a directory.
use Rattle.std.specs.Prelude.{◌≡◌, ℕ, true, false, List, [], ◌∷◌, ◌++◌, length, slice_get, Option, Some, None, IfSome, is_some}
use Rattle.std.proofs.Common.{refl, ap, ◌∙◌}
use Rattle.std.specs.List.{filter_map, cons_option, last_or}
use Rattle.std.specs.Option.{option_or}
use Rattle.std.proofs.lemmas.List.Elements.{filter_map-append}
use Rattle.name_space.specs.declared.entry.Entry.{Entry}
use Rattle.name_space.specs.declared.reply.Exception.TheVariants.{FileAlreadyExists, ParentNotDirectory}
use Rattle.name_space.specs.Namespace.{Namespace, Path, IsNamespace, entry_at, is_file, above, paths_below, missing, nearest}
use Rattle.name_space.specs.Quota.{over_quota}
use Rattle.name_space.specs.Plain.{refused, granted, unless, with_dirs, mkdirs}
use Rattle.name_space.proofs.ChainLaws.{prefixes-append, missing-below}
use Rattle.name_space.proofs.NamespaceLaws.{missing_within}
use Rattle.name_space.proofs.PathLaws.{is_within-append}

last_or-append : {A : Type 0} (o : Option A) (xs ys : List A) → last_or o (xs ++ ys) ≡ last_or (last_or o xs) ys
last_or-append o [] ys = refl
last_or-append o (x ∷ xs) ys = last_or-append (Some x) xs ys

module _ (space : Namespace) (is : IsNamespace space) where
  -- below a missing path nothing stands
  nothing_below : (names : List (List ℕ)) (top : Path) → entry_at space top ≡ None → filter_map (entry_at space) (paths_below top names) ≡ []
  nothing_below [] top none = refl
  nothing_below (name ∷ names) top none =
      let here : entry_at space (top ++ name ∷ []) ≡ None = missing_within space is top none (top ++ name ∷ []) (is_within-append top (name ∷ [])) in
      ap (λ (o : Option Entry). cons_option o (filter_map (entry_at space) (paths_below (top ++ name ∷ []) names))) here ∙ nothing_below names (top ++ name ∷ []) here

  nothing_next : (names : List (List ℕ)) (top : Path) → IfSome (slice_get names 0) (λ (name : List ℕ). entry_at space (top ++ name ∷ []) ≡ None) → filter_map (entry_at space) (paths_below top names) ≡ []
  nothing_next [] top none = refl
  nothing_next (name ∷ names) top none =
      ap (λ (o : Option Entry). cons_option o (filter_map (entry_at space) (paths_below (top ++ name ∷ []) names))) none ∙ nothing_below names (top ++ name ∷ []) none

  -- the longest prefix that exists is that below which nothing stands
  pub nearest-below : (path : Path) (names : List (List ℕ)) (entry : Entry) → entry_at space path ≡ Some entry → IfSome (slice_get names 0) (λ (name : List ℕ). entry_at space (path ++ name ∷ []) ≡ None) → nearest space (path ++ names) ≡ Some entry
  nearest-below path names entry some none =
      ap (λ (ps : List Path). last_or None (filter_map (entry_at space) ps)) (prefixes-append path names)
      ∙ ap (last_or None) (filter_map-append (entry_at space) (above path) (path ∷ paths_below path names))
      ∙ last_or-append None (filter_map (entry_at space) (above path)) (filter_map (entry_at space) (path ∷ paths_below path names))
      ∙ ap (λ (o : Option Entry). last_or (last_or None (filter_map (entry_at space) (above path))) (cons_option o (filter_map (entry_at space) (paths_below path names)))) some
      ∙ ap (λ (es : List Entry). last_or (Some entry) es) (nothing_next names path none)

  -- a file stands there
  pub mkdirs-file : (user : List ℕ) (path : Path) → is_file (entry_at space path) ≡ true → mkdirs space user path ≡ refused FileAlreadyExists space
  mkdirs-file user path file = rw file refl

  -- a file stands above, and nothing below it
  pub mkdirs-under_file : (user : List ℕ) (path : Path) (name : List ℕ) (names : List (List ℕ)) (entry : Entry) → entry_at space path ≡ Some entry → is_file (Some entry) ≡ true → entry_at space (path ++ name ∷ []) ≡ None → entry_at space (path ++ name ∷ names) ≡ None
      → mkdirs space user (path ++ name ∷ names) ≡ refused ParentNotDirectory space
  mkdirs-under_file user path name names entry some file none missing = rw (missing, nearest-below path (name ∷ names) entry some none, file) refl

  -- from a directory on nothing stands: as many names more must fit, and each of them becomes a directory
  pub mkdirs-below : (user : List ℕ) (path : Path) (names : List (List ℕ)) (entry : Entry) → entry_at space path ≡ Some entry → is_file (Some entry) ≡ false → IfSome (slice_get names 0) (λ (name : List ℕ). entry_at space (path ++ name ∷ []) ≡ None) → is_file (entry_at space (path ++ names)) ≡ false
      → mkdirs space user (path ++ names) ≡ unless (over_quota space (length (paths_below path names)) 0 (above (path ++ names))) space (granted (with_dirs space user (paths_below path names)))
  mkdirs-below user path names entry some dir none here =
      let fresh : missing space (path ++ names) ≡ paths_below path names = missing-below space is path names (ap is_some some) none in
      rw (here, nearest-below path names entry some none, dir, fresh) (or_none (over_quota space (length (paths_below path names)) 0 (above (path ++ names))))
    where
      or_none : (o : Option Rattle.name_space.specs.declared.reply.Exception.Exception) → unless (option_or o None) space (granted (with_dirs space user (paths_below path names))) ≡ unless o space (granted (with_dirs space user (paths_below path names)))
      or_none None = refl
      or_none (Some exception) = refl
