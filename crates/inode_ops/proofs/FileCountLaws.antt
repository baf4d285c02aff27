-- Laws of what quota rows count, as a new file comes below new directories.
use Rattle.std.proofs.Common.{◌≡◌, ℕ, ◌+◌, not, ◌&&◌, cond, List, [], ◌∷◌, ◌++◌, length, reverse, Some, None, IsSome, is_some, arith, ap, subst, ◌∙◌}
use Rattle.hops_base.specs.declared.ids.ClientNo.{ClientNo}
use Rattle.name_space.specs.Namespace as spaces
use Rattle.name_space.specs.Namespace.{Namespace, Path, IsNamespace, entry_at, is_within, with_entry, missing, paths_below, used_names, used_bytes}
use Rattle.name_space.specs.Plain as plain
use Rattle.name_space.specs.Plain.{with_dirs}
use Rattle.name_space.proofs.PathLaws.{is_within-self}
use Rattle.name_space.proofs.PrefixLaws.{entry_at-with_missing}
use Rattle.name_space.proofs.NamespaceLaws.{Rises-with_dirs}
use Rattle.name_space.proofs.UsedLaws.{used_names-with_old, used_bytes-with_old}
use Rattle.inode_table.specs.declared.inode.Inode.{Inode}
use Rattle.inode_table.specs.declared.inode.Kind.TheVariants.{Dir}
use Rattle.db_state.specs.Stored.{Tables}
use Rattle.db_state.specs.Spelled.{Inodes, spelled, IsTree}
use Rattle.db_state.specs.Stands.{Quotas, Stands}
use Rattle.db_state.specs.Counts.{Counts}
use Rattle.db_state.specs.Written.{written}
use Rattle.db_state.specs.NewDirs.{new_dirs, FirstMissing}
use Rattle.db_state.specs.Recounted.{IsRecounted, names_more}
use Rattle.db_state.proofs.ChainLaws.{paths_below-length}
use Rattle.db_state.proofs.CountLaws.{Uses}
use Rattle.db_state.proofs.GrowthLaws.{StaysSpelled, still_grown, still_chained, uses_made, counts_grown, none_at, missing_is}
use Rattle.inode_ops.specs.NewFile.{file_row, new_file_rows}
use Rattle.inode_ops.proofs.FileLaws.{chain_end, first_missing, made_tree, filed_rows, tree_filed}

-- the rows that paths spell are spelled by them still
still_filed : (names : List (List ℕ)) (tables : Tables) (next : ℕ) (tree : IsTree tables.inodes next) (dir : List (List ℕ)) (parent : Inode) (owner last : List ℕ) (client : ClientNo) → spelled tables.inodes dir ≡ Some parent → parent.kind ≡ Dir → FirstMissing tables.inodes parent.id (names ++ last ∷ [])
    → StaysSpelled tables.inodes (written tables (new_file_rows parent.id.0 next owner names last client)).inodes
still_filed names tables next tree dir parent owner last client at is_dir none up x e =
    let low = chain_end names tables next tree dir parent owner last at is_dir none in
    let made : Inodes = (written tables (new_dirs parent.id.0 next owner names)).inodes in
    subst (λ (inodes : Inodes). spelled inodes up ≡ Some x) (filed_rows names tables next tree dir parent owner last client at is_dir none low.0 low.1.numbered)
    (still_grown made (next + length names) (made_tree names tables next tree dir parent owner last client at is_dir none) (reverse (reverse dir ++ names)) low.0 last (file_row (next + length names) client owner) low.1.there low.1.free (omega arith) up x
    (still_chained names tables next tree dir parent owner at is_dir (first_missing names tables.inodes parent.id last none) up x e))

-- each path that exists and that the file's path lies within uses as many names more as are missing, and no path more bytes
uses_filed : (space : Namespace) (is : IsNamespace space) (owner : List ℕ) (path top : Path) (some : IsSome (entry_at space top)) (client : ClientNo) → entry_at space path ≡ None
    → Uses (names_more (length (missing space path))) (is_within top path) space (with_entry (with_dirs space owner (missing space path)) path (plain.new_file client owner)) top
uses_filed space is owner path top some client free =
    let made : Namespace = with_dirs space owner (missing space path) in
    let rises = Rises-with_dirs space owner (missing space path) is.rises in
    let there : entry_at made path ≡ Some (spaces.new_dir owner) = entry_at-with_missing space owner path path ∙ (λ i. cond (not (is_some (free i)) && is_within-self path i) (Some (spaces.new_dir owner)) (entry_at space path)) in
    let dirs = uses_made space is owner path top some in
    let names : used_names (with_entry made path (plain.new_file client owner)) top ≡ used_names made top = used_names-with_old made rises path (plain.new_file client owner) top (spaces.new_dir owner) there in
    let both : used_bytes (with_entry made path (plain.new_file client owner)) top + cond (is_within top path) 0 0 ≡ used_bytes made top + cond (is_within top path) 0 0 = used_bytes-with_old made rises path (plain.new_file client owner) top (spaces.new_dir owner) there in
    record {
      names = ap (λ n. n + cond (is_within top path) 0 0) names ∙ dirs.names;
      bytes = both ∙ dirs.bytes;
    }

module _ (tables : Tables) (next : ℕ) (tree : IsTree tables.inodes next) (quotas after : Quotas) (space : Namespace) (stands : Stands tables.inodes quotas [] space) (is : IsNamespace space) (counts : Counts tables.inodes quotas space)
    (dir : List (List ℕ)) (parent : Inode) (at : spelled tables.inodes dir ≡ Some parent) (is_dir : parent.kind ≡ Dir) where
  none_last : (names : List (List ℕ)) (last : List ℕ) → FirstMissing tables.inodes parent.id (names ++ last ∷ []) → entry_at space (reverse dir ++ (names ++ last ∷ [])) ≡ None
  none_last [] last none = none_at tables next tree quotas after space stands is counts dir parent at is_dir last [] none
  none_last (name ∷ names) last none = none_at tables next tree quotas after space stands is counts dir parent at is_dir name (names ++ last ∷ []) none

  -- quota rows count what is used after new directories and a file below them
  pub counts_filed : (owner : List ℕ) (names : List (List ℕ)) (last : List ℕ) (client : ClientNo) → FirstMissing tables.inodes parent.id (names ++ last ∷ [])
      → IsRecounted tables.inodes (reverse dir ++ (names ++ last ∷ [])) (names_more (length (names ++ last ∷ []))) quotas after
      → Counts (written tables (new_file_rows parent.id.0 next owner names last client)).inodes after (with_entry (with_dirs space owner (paths_below (reverse dir) (names ++ last ∷ []))) (reverse dir ++ (names ++ last ∷ [])) (plain.new_file client owner))
  counts_filed owner names last client none recounted =
      let path : Path = reverse dir ++ (names ++ last ∷ []) in
      let all = missing_is tables next tree quotas after space stands is counts dir parent at is_dir (names ++ last ∷ []) none in
      let many : length (missing space path) ≡ length (names ++ last ∷ []) = ap (λ (ps : List Path). length ps) all ∙ paths_below-length (names ++ last ∷ []) (reverse dir) in
      counts_grown tables.inodes next tree _ (next + length names + 1) (tree_filed names tables next tree dir parent owner last client at is_dir none) (still_filed names tables next tree dir parent owner last client at is_dir none)
      quotas after [] space (with_entry (with_dirs space owner (paths_below (reverse dir) (names ++ last ∷ []))) path (plain.new_file client owner)) stands counts path (names_more (length (names ++ last ∷ [])))
      (λ top some. subst (λ (ps : List Path). Uses (names_more (length (names ++ last ∷ []))) (is_within top path) space (with_entry (with_dirs space owner ps) path (plain.new_file client owner)) top) all
      (subst (λ n. Uses (names_more n) (is_within top path) space (with_entry (with_dirs space owner (missing space path)) path (plain.new_file client owner)) top) many (uses_filed space is owner path top some client (none_last names last none))))
      recounted
