-- New directories and files leave a namespace.
use Rattle.std.proofs.Common.{◌≡◌, ℕ, Bool, true, false, not, ◌&&◌, cond, List, [], ◌∷◌, ◌++◌, length, drop, Option, Some, None, is_some, IsSome, refl, sym, ap, ◌∙◌, subst}
use Rattle.std.specs.List.{list_all}
use Rattle.std.proofs.lemmas.Bool.{true≢false, and_parts}
use Rattle.std.proofs.lemmas.List.Folds.{list_all-append}
use Rattle.hops_base.specs.Name.{is_name}
use Rattle.name_space.specs.declared.entry.Entry.{Entry}
use Rattle.name_space.specs.declared.entry.Entry.TheVariants.{Dir, File}
use Rattle.name_space.specs.Namespace.{Namespace, Path, IsNamespace, entry_at, exists, is_dir, is_file, new_dir, with_entry, is_within, missing, nearest}
use Rattle.name_space.specs.Plain.{with_dirs}
use Rattle.name_space.proofs.PathLaws.{is_within-self, is_within-append, is_within-rest, is_within-trans, not_within-push}
use Rattle.name_space.proofs.NamespaceLaws.{Rises-with_dirs, same_spaces, names_at, dir-exists, missing_within}
use Rattle.name_space.proofs.PrefixLaws.{entry_at-with_missing, nearest_at}
use Rattle.name_space.proofs.KeepLaws.{by_looks, kind_kept, leaf_kept}

file_or_dir : (entry : Entry) → is_dir (Some entry) ≡ false → is_file (Some entry) ≡ true
file_or_dir (Dir mode owner max_names max_bytes) no_dir = absurd (true≢false no_dir)
file_or_dir (File len writer mode owner) no_dir = refl

module _ (space : Namespace) (is : IsNamespace space) (user : List ℕ) (path : Path) where
  -- the namespace with a directory at each missing prefix
  abbrev dirs : Namespace
  dirs = with_dirs space user (missing space path)

  stays : (at : Path) → IsSome (entry_at space at) → entry_at dirs at ≡ entry_at space at
  stays at here = entry_at-with_missing space user path at ∙ ap (λ (b : Bool). cond (not b && is_within at path) (Some (new_dir user)) (entry_at space at)) here

  made : (at : Path) → entry_at space at ≡ None → is_within at path ≡ true → entry_at dirs at ≡ Some (new_dir user)
  made at none within = entry_at-with_missing space user path at ∙ (λ i. cond (not (is_some (none i)) && within i) (Some (new_dir user)) (entry_at space at))

  not_made : (at : Path) → entry_at space at ≡ None → is_within at path ≡ false → entry_at dirs at ≡ None
  not_made at none outside = entry_at-with_missing space user path at ∙ (λ i. cond (not (is_some (none i)) && outside i) (Some (new_dir user)) (none i))

  -- unless the longest prefix that exists is a file, they leave a namespace
  pub dirs_kept : list_all is_name path ≡ true → is_file (nearest space path) ≡ false → IsNamespace dirs
  dirs_kept names no_file =
      by_looks dirs (Rises-with_dirs space user (missing space path) is.rises) (λ at here. named at (entry_at space at) refl (is_within at path) refl here)
      (ap is_dir (stays [] (dir-exists (entry_at space []) is.root)) ∙ is.root) (λ up name here. parent up name (entry_at space (up ++ name ∷ [])) refl (is_within (up ++ name ∷ []) path) refl here)
    where
      named : (at : Path) (found : Option Entry) → entry_at space at ≡ found → (within : Bool) → is_within at path ≡ within → IsSome (entry_at dirs at) → list_all is_name at ≡ true
      named at (Some entry) found within w here = names_at space is at (ap is_some found)
      named at None found true w here =
          (and_parts (list_all is_name at) (list_all is_name (drop (length at) path)) (sym (list_all-append is_name at (drop (length at) path)) ∙ ap (list_all is_name) (is_within-rest at path w) ∙ names)).0
      named at None found false w here = absurd (true≢false (sym here ∙ ap is_some (not_made at found w)))

      above_made : (up : Path) (name : List ℕ) → is_within (up ++ name ∷ []) path ≡ true → is_within up path ≡ true → (found : Option Entry) → entry_at space up ≡ found → (dir : Bool) → is_dir (entry_at space up) ≡ dir → is_dir (entry_at dirs up) ≡ true
      above_made up name w within None found dir d = ap is_dir (made up found within)
      above_made up name w within (Some entry) found true d = ap is_dir (stays up (ap is_some found)) ∙ d
      above_made up name w within (Some entry) found false d =
          absurd (true≢false (sym (file_or_dir entry (sym (ap is_dir found) ∙ d)) ∙ ap is_file (sym (nearest_at space is up path within (ap is_some found) d ∙ found)) ∙ no_file))

      parent : (up : Path) (name : List ℕ) (found : Option Entry) → entry_at space (up ++ name ∷ []) ≡ found → (within : Bool) → is_within (up ++ name ∷ []) path ≡ within → IsSome (entry_at dirs (up ++ name ∷ [])) → is_dir (entry_at dirs up) ≡ true
      parent up name (Some entry) found within w here =
          let dir = is.parents up name (ap is_some found) in
          ap is_dir (stays up (dir-exists (entry_at space up) dir)) ∙ dir
      parent up name None found true w here = above_made up name w (is_within-trans up (up ++ name ∷ []) path (is_within-append up (name ∷ [])) w) (entry_at space up) refl (is_dir (entry_at space up)) refl
      parent up name None found false w here = absurd (true≢false (sym here ∙ ap is_some (not_made (up ++ name ∷ []) found w)))

  -- where something stands at the path, none is missing
  pub nothing_made : IsSome (entry_at space path) → dirs ≡ space
  nothing_made there = same_spaces dirs space (Rises-with_dirs space user (missing space path) is.rises) is.rises (λ at. same at (entry_at space at) refl (is_within at path) refl)
    where
      same : (at : Path) (found : Option Entry) → entry_at space at ≡ found → (within : Bool) → is_within at path ≡ within → entry_at dirs at ≡ entry_at space at
      same at (Some entry) found within w = stays at (ap is_some found)
      same at None found true w = absurd (true≢false (sym there ∙ ap is_some (missing_within space is at found path w)))
      same at None found false w = not_made at found w ∙ sym found

  -- a file at the path then leaves a namespace too
  pub file_kept : (file : Entry) → is_dir (Some file) ≡ false → list_all is_name path ≡ true → is_dir (entry_at space path) ≡ false → (not (exists space path) && is_file (nearest space path)) ≡ false → IsNamespace (with_entry dirs path file)
  file_kept file is_no_dir names no_dir no_file = by (entry_at space path) refl
    where
      by : (found : Option Entry) → entry_at space path ≡ found → IsNamespace (with_entry dirs path file)
      by (Some entry) found =
          subst (λ (s : Namespace). IsNamespace (with_entry s path file)) (sym (nothing_made (ap is_some found))) (kind_kept space is path file (ap is_some found) (is_no_dir ∙ sym no_dir))
      by None found =
          leaf_kept dirs (dirs_kept names (sym (ap (λ (o : Option Entry). not (is_some o) && is_file (nearest space path)) found) ∙ no_file)) path file
          (λ root. true≢false (sym is.root ∙ ap (λ (p : Path). is_dir (entry_at space p)) (sym root) ∙ no_dir)) (ap is_some (made path found (is_within-self path)))
          (λ name. not_made (path ++ name ∷ []) (missing_within space is path found (path ++ name ∷ []) (is_within-append path (name ∷ []))) (not_within-push path name))
