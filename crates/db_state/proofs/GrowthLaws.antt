-- Laws of what quota rows count, as new directories come.
use Rattle.std.proofs.Common.{◌≡◌, ℕ, ◌+◌, ◌≤◌, Bool, true, false, List, [], ◌∷◌, ◌++◌, length, reverse, Some, None, IsSome, option_map, slice_get, IfSome, inl, inr, arith, refl, sym, ap, subst, ◌∙◌}
use Rattle.std.specs.FinMap as map
use Rattle.std.proofs.lemmas.List.{reverse-reverse, append_assoc}
use Rattle.hops_base.specs.declared.key.Key.TheVariants as key
use Rattle.hops_base.proofs.Tells.{paths_tell}
use Rattle.name_space.specs.Namespace.{Namespace, Path, IsNamespace, entry_at, is_within, missing}
use Rattle.name_space.specs.Plain.{with_dirs}
use Rattle.name_space.proofs.ChainLaws.{missing-below}
use Rattle.name_space.proofs.PathLaws.{is_within-append}
use Rattle.name_space.proofs.NamespaceLaws.{missing_within}
use Rattle.name_space.proofs.UsedLaws.{used_names-with_missing, used_names-with_missing_beside, used_bytes-with_missing}
use Rattle.inode_table.specs.declared.inode.Inode.{Inode}
use Rattle.inode_table.specs.declared.inode.Kind.TheVariants.{Dir}
use Rattle.quota_table.specs.declared.quota.QuotaRow.{QuotaRow}
use Rattle.db_state.specs.Stored.{Tables, dir_row}
use Rattle.db_state.specs.Spelled.{Inodes, child_of, spelled, row_of, IsTree}
use Rattle.db_state.specs.Stands.{Quotas, quota_of, entry_of, Stands}
use Rattle.db_state.specs.Counts.{Counts}
use Rattle.db_state.specs.Written.{written}
use Rattle.db_state.specs.NewDirs.{new_dirs, paths_below, FirstMissing}
use Rattle.db_state.proofs.PathLaws.{injective, inserted}
use Rattle.db_state.proofs.ChainLaws.{with_inode, first_made, paths_below-length, tree_chained}
use Rattle.db_state.proofs.UnderLaws.{entry_at-child}
use Rattle.db_state.specs.Recounted.{Change, IsRecounted}
use Rattle.db_state.proofs.CountLaws.{Uses}
use Rattle.db_state.proofs.CountLaws.{is_along-within, counts_recounted, row_stands}
use Rattle.db_state.specs.Recounted.{names_more}

-- ---- what stays spelled

-- the rows that paths spell are spelled by them still
abbrev pub StaysSpelled : Inodes → Inodes → Type 0
StaysSpelled inodes grown = (up : List (List ℕ)) (x : Inode) → spelled inodes up ≡ Some x → spelled grown up ≡ Some x

-- with a new row
pub still_grown : (inodes : Inodes) (next : ℕ) (tree : IsTree inodes next) (dir : List (List ℕ)) (parent : Inode) (name : List ℕ) (new : Inode) (at : spelled inodes dir ≡ Some parent) (none : map.get inodes (key.Inode parent.id name) ≡ None) (free : next ≤ new.id.0)
    → StaysSpelled inodes (map.insert inodes (key.Inode parent.id name) new)
still_grown inodes next tree dir parent name new at none free up x e = inserted inodes next tree dir parent name new at none free up ∙ (elim (paths_tell up (name ∷ dir)) [
  | inl h ↦ absurd (
      let there : child_of inodes name (spelled inodes dir) ≡ Some x = subst (λ (p : List (List ℕ)). spelled inodes p ≡ Some x) h.1 e in
      let under : map.get inodes (key.Inode parent.id name) ≡ Some x = sym (ap (child_of inodes name) at) ∙ there in
      cc)
  | inr h ↦ rw h.0 e
])

-- with a chain of new directories
pub still_chained : (names : List (List ℕ)) (tables : Tables) (next : ℕ) (tree : IsTree tables.inodes next) (dir : List (List ℕ)) (parent : Inode) (owner : List ℕ) → spelled tables.inodes dir ≡ Some parent → parent.kind ≡ Dir → FirstMissing tables.inodes parent.id names
    → StaysSpelled tables.inodes (written tables (new_dirs parent.id.0 next owner names)).inodes
still_chained [] tables next tree dir parent owner at is_dir none up x e = e
still_chained (name ∷ names) tables next tree dir parent owner at is_dir none up x e =
    let inodes : Inodes = tables.inodes in
    let new : Inode = dir_row next owner in
    let after : Tables = with_inode tables parent name new in
    let made = first_made names inodes next tree dir parent name owner at none is_dir in
    still_chained names after (next + 1) made.tree (name ∷ dir) new owner made.there refl made.below up x
    (still_grown inodes next tree dir parent name new at none made.free up x e)

-- ---- what is used with each missing prefix of a path

module _ (space : Namespace) (is : IsNamespace space) (owner : List ℕ) (path top : Path) (some : IsSome (entry_at space top)) where
  -- each path that exists and that this one lies within uses as many names more, and no path more bytes
  pub uses_made : Uses (names_more (length (missing space path))) (is_within top path) space (with_dirs space owner (missing space path)) top
  uses_made = each (is_within top path) refl
    where
      each : (w : Bool) → is_within top path ≡ w → Uses (names_more (length (missing space path))) w space (with_dirs space owner (missing space path)) top
      each true above =
          let names = used_names-with_missing space is.rises owner path top is above some in
          let bytes = used_bytes-with_missing space is.rises owner path top in
          record { names = omega arith; bytes = omega arith }
      each false beside =
          let names = used_names-with_missing_beside space is.rises owner path top beside in
          let bytes = used_bytes-with_missing space is.rises owner path top in
          record { names = omega arith; bytes = omega arith }

-- ---- counts

-- a directory whose quota row was there before was there before
pub row_was : (inodes : Inodes) (next : ℕ) (tree : IsTree inodes next) (grown : Inodes) (most : ℕ) (grown_tree : IsTree grown most) → StaysSpelled inodes grown → (quotas : Quotas) (removed space : Namespace) → Stands inodes quotas removed space
    → (top : Path) (row : Inode) (quota : QuotaRow) → row_of grown top ≡ Some row → quota_of quotas row.id ≡ Some quota → row_of inodes top ≡ Some row
row_was inodes next tree grown most grown_tree stays quotas removed space stands top row quota here e =
    let of = stands.rows row.id quota e in
    let way = tree.spelled of.at of.row of.there in
    let still : spelled grown way.0 ≡ Some of.row = stays way.0 of.row way.1 in
    let ups : way.0 ≡ reverse top = injective grown most grown_tree way.0 (reverse top) of.row row still here of.is in
    let there : spelled grown (reverse top) ≡ Some of.row = subst (λ (p : List (List ℕ)). spelled grown p ≡ Some of.row) ups still in
    let same : Some of.row ≡ Some row = sym there ∙ here in
    subst (λ (p : List (List ℕ)). spelled inodes p ≡ Some of.row) ups way.1 ∙ same

-- quota rows count what is used with new rows, where those along the path of the new names were recounted
pub counts_grown : (inodes : Inodes) (next : ℕ) (tree : IsTree inodes next) (grown : Inodes) (most : ℕ) (grown_tree : IsTree grown most) → StaysSpelled inodes grown → (quotas after : Quotas) (removed space later : Namespace) → Stands inodes quotas removed space → Counts inodes quotas space
    → (path : Path) (change : Change) → ((top : Path) → IsSome (entry_at space top) → Uses change (is_within top path) space later top) → IsRecounted inodes path change quotas after → Counts grown after later
counts_grown inodes next tree grown most grown_tree stays quotas after removed space later stands counts path change uses recounted =
    counts_recounted inodes path change quotas after recounted inodes grown space later counts (λ top row quota e q.
    let was = row_was inodes next tree grown most grown_tree stays quotas removed space stands top row quota e q in
    (row, was, refl, subst (λ b. Uses change b space later top) (sym (is_along-within inodes next tree top row was path)) (uses top (row_stands inodes quotas removed space stands top row was))))

module _ (tables : Tables) (next : ℕ) (tree : IsTree tables.inodes next) (quotas after : Quotas) (space : Namespace) (stands : Stands tables.inodes quotas [] space) (is : IsNamespace space) (counts : Counts tables.inodes quotas space)
    (dir : List (List ℕ)) (parent : Inode) (at : spelled tables.inodes dir ≡ Some parent) (is_dir : parent.kind ≡ Dir) where
  parent_at : row_of tables.inodes (reverse dir) ≡ Some parent
  parent_at = ap (spelled tables.inodes) (reverse-reverse dir) ∙ at

  next_none : (names : List (List ℕ)) → FirstMissing tables.inodes parent.id names → IfSome (slice_get names 0) (λ (name : List ℕ). entry_at space (reverse dir ++ name ∷ []) ≡ None)
  next_none [] none = tt
  next_none (name ∷ names) none = entry_at-child tables.inodes quotas space stands (reverse dir) parent parent_at name ∙ ap (option_map (entry_of quotas)) none

  -- below the last directory found nothing stands at such names
  pub none_at : (name : List ℕ) (rest : List (List ℕ)) → FirstMissing tables.inodes parent.id (name ∷ rest) → entry_at space (reverse dir ++ name ∷ rest) ≡ None
  none_at name rest none =
      missing_within space is (reverse dir ++ name ∷ []) (next_none (name ∷ rest) none) (reverse dir ++ name ∷ rest)
      (subst (λ (p : Path). is_within (reverse dir ++ name ∷ []) p ≡ true) (append_assoc (reverse dir) (name ∷ []) rest) (is_within-append (reverse dir ++ name ∷ []) rest))

  -- the names below the last directory found are its missing prefixes
  pub missing_is : (names : List (List ℕ)) → FirstMissing tables.inodes parent.id names → missing space (reverse dir ++ names) ≡ paths_below (reverse dir) names
  missing_is names none = missing-below space is (reverse dir) names (row_stands tables.inodes quotas [] space stands (reverse dir) parent parent_at) (next_none names none)

  -- quota rows count what is used after new directories
  pub counts_chained : (owner : List ℕ) (names : List (List ℕ)) → FirstMissing tables.inodes parent.id names → IsRecounted tables.inodes (reverse dir ++ names) (names_more (length names)) quotas after
      → Counts (written tables (new_dirs parent.id.0 next owner names)).inodes after (with_dirs space owner (paths_below (reverse dir) names))
  counts_chained owner names none recounted =
      let all = missing_is names none in
      let many : length (missing space (reverse dir ++ names)) ≡ length names = ap (λ (ps : List Path). length ps) all ∙ paths_below-length names (reverse dir) in
      counts_grown tables.inodes next tree _ (next + length names) (tree_chained names tables next tree dir parent owner at is_dir none) (still_chained names tables next tree dir parent owner at is_dir none)
      quotas after [] space (with_dirs space owner (paths_below (reverse dir) names)) stands counts (reverse dir ++ names) (names_more (length names))
      (λ top some. subst (λ (ps : List Path). Uses (names_more (length names)) (is_within top (reverse dir ++ names)) space (with_dirs space owner ps) top) all
      (subst (λ n. Uses (names_more n) (is_within top (reverse dir ++ names)) space (with_dirs space owner (missing space (reverse dir ++ names))) top) many (uses_made space is owner (reverse dir ++ names) top some)))
      recounted
