-- What the plain `create` does, by what stands on its path.
use Rattle.std.proofs.Common.{◌≡◌, ℕ, Bool, true, false, List, [], ◌∷◌, ◌++◌, length, slice_get, Option, Some, None, IfSome, is_some, refl, ap}
use Rattle.std.specs.Option.{option_or}
use Rattle.hops_base.specs.declared.ids.ClientNo.{ClientNo}
use Rattle.name_space.specs.declared.entry.Entry.{Entry}
use Rattle.name_space.specs.declared.reply.Exception.{Exception}
use Rattle.name_space.specs.declared.reply.Exception.TheVariants.{FileAlreadyExists, ParentNotDirectory}
use Rattle.name_space.specs.Namespace.{Namespace, Path, IsNamespace, entry_at, is_dir, is_file, with_entry, above, paths_below, missing}
use Rattle.name_space.specs.Quota.{over_quota}
use Rattle.name_space.specs.Plain.{refused, granted, unless, with_dirs, new_file, create}
use Rattle.name_space.proofs.MkdirsLaws.{nearest-below}
use Rattle.name_space.proofs.ChainLaws.{missing-below}
use Rattle.inode_ops.proofs.QuotaLemmas.{none_more}

module _ (space : Namespace) (client : ClientNo) (user : List ℕ) (path : Path) where
  -- a directory stands there
  pub create-dir : (overwrite : Bool) → is_dir (entry_at space path) ≡ true → create space client user path overwrite ≡ refused FileAlreadyExists space
  create-dir overwrite dir = rw dir refl

  -- a file that isn't to be overwritten
  pub create-file : (entry : Entry) → entry_at space path ≡ Some entry → is_dir (Some entry) ≡ false → is_file (Some entry) ≡ true → create space client user path false ≡ refused FileAlreadyExists space
  create-file entry here dir file = rw (here, dir, file) refl

  -- a file that is
  pub create-over : (entry : Entry) → entry_at space path ≡ Some entry → is_dir (Some entry) ≡ false → is_file (Some entry) ≡ true → missing space path ≡ [] → create space client user path true ≡ granted (with_entry space path (new_file client user))
  create-over entry here dir file none = rw (here, dir, file, none) (ap (λ (o : Option Exception). unless (option_or o None) space (granted (with_entry space path (new_file client user)))) (none_more space (above path)))

module _ (space : Namespace) (is : IsNamespace space) (client : ClientNo) (user : List ℕ) (overwrite : Bool) where
  -- a file stands above, and nothing below it
  pub create-under_file : (path : Path) (name : List ℕ) (names : List (List ℕ)) (entry : Entry) → entry_at space path ≡ Some entry → is_file (Some entry) ≡ true → entry_at space (path ++ name ∷ []) ≡ None → entry_at space (path ++ name ∷ names) ≡ None
      → create space client user (path ++ name ∷ names) overwrite ≡ refused ParentNotDirectory space
  create-under_file path name names entry some file none gone = rw (gone, nearest-below space is path (name ∷ names) entry some none, file) refl

  -- from a directory on nothing stands: as many names more must fit, the last of them becomes a file, and the others
  -- become directories
  pub create-below : (path : Path) (names : List (List ℕ)) (entry : Entry) → entry_at space path ≡ Some entry → is_file (Some entry) ≡ false → IfSome (slice_get names 0) (λ (name : List ℕ). entry_at space (path ++ name ∷ []) ≡ None) → entry_at space (path ++ names) ≡ None
      → create space client user (path ++ names) overwrite
      ≡ unless (over_quota space (length (paths_below path names)) 0 (above (path ++ names))) space (granted (with_entry (with_dirs space user (paths_below path names)) (path ++ names) (new_file client user)))
  create-below path names entry some dir none gone =
      let fresh : missing space (path ++ names) ≡ paths_below path names = missing-below space is path names (ap is_some some) none in
      rw (gone, nearest-below space is path names entry some none, dir, fresh) (or_none (over_quota space (length (paths_below path names)) 0 (above (path ++ names))))
    where
      or_none : (o : Option Exception) → unless (option_or o None) space (granted (with_entry (with_dirs space user (paths_below path names)) (path ++ names) (new_file client user))) ≡ unless o space (granted (with_entry (with_dirs space user (paths_below path names)) (path ++ names) (new_file client user)))
      or_none None = refl
      or_none (Some exception) = refl
