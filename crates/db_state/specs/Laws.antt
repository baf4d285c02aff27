-- Laws of the rows, of the tables and of the book.
use Rattle.std.specs.Prelude.{◌≡◌, ◌≢◌, ◌≤◌, ◌+◌, ℕ, true, false, List, [], ◌∷◌, ◌++◌, map as map_list, Some, None, is_some, length, nat_lt, reverse, if◌then◌else◌}
use Rattle.std.specs.FinMap as map
use Rattle.hops_base.specs.Path.{same_path}
use Rattle.hops_base.specs.declared.ids.InodeId.{InodeId}
use Rattle.hops_base.specs.declared.key.Key.{Key}
use Rattle.hops_base.specs.declared.key.Key.TheVariants as key
use Rattle.inode_table.specs.declared.inode.Inode.{Inode}
use Rattle.inode_table.specs.declared.inode.Kind.TheVariants.{Dir}
use Rattle.quota_table.specs.declared.quota.QuotaRow.{QuotaRow}
use Rattle.row_store.specs.Children.{child_count}
use Rattle.name_space.specs.declared.entry.Entry.{Entry}
use Rattle.name_space.specs.Namespace as spaces
use Rattle.name_space.specs.Namespace.{Namespace, Path, IsNamespace, Rises, entry_at, with_entry, without, children, bytes_of, used_names, used_bytes}
use Rattle.name_space.specs.Plain as plain
use Rattle.name_space.specs.Plain.{with_dirs}
use Rattle.commit_log.specs.declared.note.Note.{Note}
use Rattle.commit_log.specs.Ids.{Numbering, with_new, id_at}
use Rattle.commit_log.specs.Parts.{did}
use Rattle.commit_log.specs.Told.{cut_in}
use Rattle.db_state.specs.declared.view.Place.{Place}
use Rattle.db_state.specs.Settings.{Settings}
use Rattle.db_state.specs.Stored.{Stored, Tables, root_key, opening_stored, opening_rows}
use Rattle.db_state.specs.Spelled.{Inodes, spelled, row_of, FitsKind, IsTree, AreGiven}
use Rattle.db_state.specs.Stands.{Quotas, quota_of, entry_of, Stands}
use Rattle.db_state.specs.Counts.{Counts}
use Rattle.db_state.specs.Current.{listed_under}
use Rattle.db_state.specs.PlaceOf.{IsPlaceOf}
use Rattle.db_state.specs.Consistent.{IsUnflagged, FlagsStay, IsConsistent}
use Rattle.db_state.specs.Written.{written, committed}
use Rattle.db_state.specs.NewDirs.{new_dirs, paths_below, FirstMissing, Unremoved}
use Rattle.db_state.specs.Recounted.{is_along, Change, Becomes, IsRecounted, in_place, one_gone, names_more}
use Rattle.db_state.specs.QuotaWrites.{quota_writes, is_written, AreOf}
use Rattle.db_state.specs.Requoted.{HasLimit, IsRequoted}

-- ---- paths and their rows

-- a row has one path
abbrev pub RowHasOnePath : Type 0
RowHasOnePath =
    (inodes : Inodes) (next : ℕ) → IsTree inodes next
    → (a b : List (List ℕ)) (x y : Inode) → spelled inodes a ≡ Some x → spelled inodes b ≡ Some y → x.id ≡ y.id → a ≡ b

-- the place that the rows have for a path is determined by the path and the rows
abbrev pub PathHasOnePlace : Type 0
PathHasOnePlace =
    (inodes : Inodes) (path : Path) (one other : Place) → IsPlaceOf inodes path one → IsPlaceOf inodes path other
    → (one.found.items ≡ other.found.items) × (one.missing ≡ other.missing) × (one.has_child ≡ other.has_child)

-- a path has a child in the namespace exactly where its row has a row under it
abbrev pub ChildrenAreRowsUnderARow : Type 0
ChildrenAreRowsUnderARow =
    (inodes : Inodes) (quotas : Quotas) (space : Namespace) → Stands inodes quotas [] space
    → (path : Path) (row : Inode) → row_of inodes path ≡ Some row
    → nat_lt 0 (length (children space path)) ≡ nat_lt 0 (child_count inodes row.id)

-- the children of a path are listed, in the order of their names, as the rows under its row are
abbrev pub ChildrenAreListedAsRows : Type 0
ChildrenAreListedAsRows =
    (inodes : Inodes) (quotas : Quotas) (space : Namespace) → IsNamespace space → Stands inodes quotas [] space
    → (path : Path) (row : Inode) → row_of inodes path ≡ Some row
    → map_list plain.listed (children space path) ≡ listed_under inodes row.id

-- ---- a new row under a directory, of a new id

-- it adds its path, and no other
abbrev pub NewRowAddsItsPath : Type 0
NewRowAddsItsPath =
    (inodes : Inodes) (next : ℕ) → IsTree inodes next
    → (dir : List (List ℕ)) (parent : Inode) (name : List ℕ) (new : Inode) → spelled inodes dir ≡ Some parent
    → map.get inodes (key.Inode parent.id name) ≡ None → next ≤ new.id.0
    → (path : List (List ℕ))
    → spelled (map.insert inodes (key.Inode parent.id name) new) path ≡ (if same_path path (name ∷ dir) then Some new else spelled inodes path)

-- the rows with it spell a tree again
abbrev pub NewRowKeepsTheTree : Type 0
NewRowKeepsTheTree =
    (inodes : Inodes) (next : ℕ) → IsTree inodes next
    → (dir : List (List ℕ)) (parent : Inode) (name : List ℕ) (new : Inode) → spelled inodes dir ≡ Some parent
    → map.get inodes (key.Inode parent.id name) ≡ None → next ≤ new.id.0
    → parent.kind ≡ Dir → FitsKind new → IsTree (map.insert inodes (key.Inode parent.id name) new) (new.id.0 + 1)

-- without a quota it adds its entry to the namespace that the rows stand for
abbrev pub NewRowAddsItsEntry : Type 0
NewRowAddsItsEntry =
    (inodes : Inodes) (next : ℕ) → IsTree inodes next → (quotas : Quotas) (removed space : Namespace)
    → Stands inodes quotas removed space
    → (dir : List (List ℕ)) (parent : Inode) (name : List ℕ) (new : Inode) → spelled inodes dir ≡ Some parent
    → map.get inodes (key.Inode parent.id name) ≡ None → next ≤ new.id.0
    → new.has_quota ≡ false → entry_at removed (reverse (name ∷ dir)) ≡ None
    → Stands (map.insert inodes (key.Inode parent.id name) new) quotas removed (with_entry space (reverse (name ∷ dir)) (entry_of quotas new))

-- ---- a chain of new directories below a directory

-- the rows with them spell a tree again
abbrev pub NewDirsKeepTheTree : Type 0
NewDirsKeepTheTree =
    (names : List (List ℕ)) (tables : Tables) (next : ℕ) → IsTree tables.inodes next
    → (dir : List (List ℕ)) (parent : Inode) (owner : List ℕ) → spelled tables.inodes dir ≡ Some parent → parent.kind ≡ Dir
    → FirstMissing tables.inodes parent.id names
    → IsTree (written tables (new_dirs parent.id.0 next owner names)).inodes (next + length names)

-- they stand for the namespace with the new directories
abbrev pub NewDirsAddTheirEntries : Type 0
NewDirsAddTheirEntries =
    (names : List (List ℕ)) (tables : Tables) (next : ℕ) → IsTree tables.inodes next
    → (quotas : Quotas) (removed space : Namespace) → Stands tables.inodes quotas removed space
    → (dir : List (List ℕ)) (parent : Inode) (owner : List ℕ) → spelled tables.inodes dir ≡ Some parent → parent.kind ≡ Dir
    → FirstMissing tables.inodes parent.id names
    → Unremoved removed (paths_below (reverse dir) names)
    → Stands (written tables (new_dirs parent.id.0 next owner names)).inodes quotas removed (with_dirs space owner (paths_below (reverse dir) names))

-- they have the ids that a numbering gives to their paths in turn
abbrev pub NewDirsHaveTheNextIds : Type 0
NewDirsHaveTheNextIds =
    (names : List (List ℕ)) (tables : Tables) (next : ℕ) → IsTree tables.inodes next
    → (dir : List (List ℕ)) (parent : Inode) (owner : List ℕ) → spelled tables.inodes dir ≡ Some parent → parent.kind ≡ Dir
    → FirstMissing tables.inodes parent.id names
    → (numbering : Numbering) → numbering.next ≡ next → AreGiven tables.inodes numbering
    → AreGiven (written tables (new_dirs parent.id.0 next owner names)).inodes (with_new numbering (paths_below (reverse dir) names))

-- the quota rows stay
abbrev pub NewDirsKeepQuotas : Type 0
NewDirsKeepQuotas =
    (names : List (List ℕ)) (tables : Tables) (parent next : ℕ) (owner : List ℕ)
    → (written tables (new_dirs parent next owner names)).quotas ≡ tables.quotas

-- they count what is used, where those along the path of the names count as many names more
abbrev pub NewDirsAreCounted : Type 0
NewDirsAreCounted =
    (tables : Tables) (next : ℕ) → IsTree tables.inodes next
    → (quotas after : Quotas) (space : Namespace) → Stands tables.inodes quotas [] space → IsNamespace space
    → Counts tables.inodes quotas space
    → (dir : List (List ℕ)) (parent : Inode) → spelled tables.inodes dir ≡ Some parent → parent.kind ≡ Dir
    → (owner : List ℕ) (names : List (List ℕ)) → FirstMissing tables.inodes parent.id names
    → IsRecounted tables.inodes (reverse dir ++ names) (names_more (length names)) quotas after
    → Counts (written tables (new_dirs parent.id.0 next owner names)).inodes after (with_dirs space owner (paths_below (reverse dir) names))

-- ---- another row of the same id under a row's key

-- the row's path spells it, and every other path what it spelled
abbrev pub ChangedRowHasItsPath : Type 0
ChangedRowHasItsPath =
    (inodes : Inodes) (next : ℕ) → IsTree inodes next
    → (at : Key) (old new : Inode) → map.get inodes at ≡ Some old → new.id ≡ old.id → (path : Path)
    → row_of inodes path ≡ Some old
    → (q : Path) → row_of (map.insert inodes at new) q ≡ (if same_path q path then Some new else row_of inodes q)

-- the rows with it spell a tree again, where it isn't the root's and is of the same kind
abbrev pub ChangedRowKeepsTheTree : Type 0
ChangedRowKeepsTheTree =
    (inodes : Inodes) (next : ℕ) → IsTree inodes next
    → (at : Key) (old new : Inode) → map.get inodes at ≡ Some old → new.id ≡ old.id → at ≢ root_key → new.kind ≡ old.kind
    → FitsKind new
    → IsTree (map.insert inodes at new) next

-- they have the ids that their paths are given
abbrev pub ChangedRowKeepsIds : Type 0
ChangedRowKeepsIds =
    (inodes : Inodes) (next : ℕ) → IsTree inodes next
    → (at : Key) (old new : Inode) → map.get inodes at ≡ Some old → new.id ≡ old.id → (numbering : Numbering)
    → AreGiven inodes numbering
    → AreGiven (map.insert inodes at new) numbering

-- they bear the flags that they bore, where it bears that of the old row
abbrev pub ChangedRowKeepsFlags : Type 0
ChangedRowKeepsFlags =
    (inodes : Inodes) (next : ℕ) → IsTree inodes next
    → (at : Key) (old new : Inode) → map.get inodes at ≡ Some old → new.id ≡ old.id → new.flag ≡ old.flag
    → FlagsStay inodes (map.insert inodes at new)

-- they stand for the namespace with its entry, where it is of the same kind and has a quota where the old row had one
abbrev pub ChangedRowChangesItsEntry : Type 0
ChangedRowChangesItsEntry =
    (inodes : Inodes) (next : ℕ) → IsTree inodes next
    → (at : Key) (old new : Inode) → map.get inodes at ≡ Some old → new.id ≡ old.id → (path : Path)
    → row_of inodes path ≡ Some old
    → (quotas : Quotas) (removed space : Namespace) → Stands inodes quotas removed space → new.kind ≡ old.kind
    → new.has_quota ≡ old.has_quota
    → Stands (map.insert inodes at new) quotas removed (with_entry space path (entry_of quotas new))

-- quota rows count what is used, where those along its path count the change of its entry's bytes
abbrev pub ChangedRowIsCounted : Type 0
ChangedRowIsCounted =
    (inodes : Inodes) (next : ℕ) → IsTree inodes next
    → (at : Key) (old new : Inode) → map.get inodes at ≡ Some old → new.id ≡ old.id → (path : Path)
    → row_of inodes path ≡ Some old
    → (quotas after : Quotas) (space : Namespace) → Rises space → Counts inodes quotas space
    → (was now : Entry) → entry_at space path ≡ Some was → IsRecounted inodes path (in_place was now) quotas after
    → Counts (map.insert inodes at new) after (with_entry space path now)

-- ---- a directory's row that changes along with its own quota row

-- the rows stand for the namespace with the new entry, where the new row says whether there is a quota
abbrev pub RequotedRowChangesItsEntry : Type 0
RequotedRowChangesItsEntry =
    (inodes : Inodes) (next : ℕ) → IsTree inodes next
    → (at : Key) (old new : Inode) → map.get inodes at ≡ Some old → new.id ≡ old.id → (path : Path)
    → row_of inodes path ≡ Some old
    → (quotas others : Quotas) → IsRequoted quotas others old.id → (removed space : Namespace)
    → Stands inodes quotas removed space
    → new.kind ≡ Dir → new.has_quota ≡ is_some (quota_of others old.id)
    → ((quota : QuotaRow) → quota_of others old.id ≡ Some quota → HasLimit quota)
    → Stands (map.insert inodes at new) others removed (with_entry space path (entry_of others new))

-- quota rows count what is used, where its own does
abbrev pub RequotedRowIsCounted : Type 0
RequotedRowIsCounted =
    (inodes : Inodes) (next : ℕ) → IsTree inodes next
    → (at : Key) (old new : Inode) → map.get inodes at ≡ Some old → new.id ≡ old.id → (path : Path)
    → row_of inodes path ≡ Some old
    → (quotas others : Quotas) → IsRequoted quotas others old.id → (space : Namespace) → Rises space
    → Counts inodes quotas space
    → (was now : Entry) → entry_at space path ≡ Some was → bytes_of was ≡ bytes_of now
    → ((quota : QuotaRow) → quota_of others old.id ≡ Some quota → (quota.used_names ≡ used_names space path) × (quota.used_bytes ≡ used_bytes space path))
    → Counts (map.insert inodes at new) others (with_entry space path now)

-- ---- a row that goes, with none under it, and not the root's

-- its path spells none then, and every other path what it spelled
abbrev pub GoneRowHasNoPath : Type 0
GoneRowHasNoPath =
    (inodes : Inodes) (next : ℕ) → IsTree inodes next
    → (at : Key) (old : Inode) → map.get inodes at ≡ Some old
    → ((name : List ℕ) → map.get inodes (key.Inode old.id name) ≡ None) → at ≢ root_key
    → (path : Path) → row_of inodes path ≡ Some old → (q : Path)
    → row_of (map.remove inodes at) q ≡ (if same_path q path then None else row_of inodes q)

-- the rows that stay spell a tree
abbrev pub GoneRowKeepsTheTree : Type 0
GoneRowKeepsTheTree =
    (inodes : Inodes) (next : ℕ) → IsTree inodes next
    → (at : Key) (old : Inode) → map.get inodes at ≡ Some old
    → ((name : List ℕ) → map.get inodes (key.Inode old.id name) ≡ None) → at ≢ root_key
    → IsTree (map.remove inodes at) next

-- they have the ids that a numbering gives which gives every other path the same id
abbrev pub GoneRowKeepsIds : Type 0
GoneRowKeepsIds =
    (inodes : Inodes) (next : ℕ) → IsTree inodes next
    → (at : Key) (old : Inode) → map.get inodes at ≡ Some old
    → ((name : List ℕ) → map.get inodes (key.Inode old.id name) ≡ None) → at ≢ root_key
    → (path : Path) → row_of inodes path ≡ Some old → (numbering after : Numbering) → AreGiven inodes numbering
    → ((q : Path) (row : Inode) → row_of inodes q ≡ Some row → q ≢ path → id_at after q ≡ id_at numbering q)
    → AreGiven (map.remove inodes at) after

-- they bear the flags that they bore
abbrev pub GoneRowKeepsFlags : Type 0
GoneRowKeepsFlags =
    (inodes : Inodes) (next : ℕ) → IsTree inodes next
    → (at : Key) (old : Inode) → map.get inodes at ≡ Some old
    → ((name : List ℕ) → map.get inodes (key.Inode old.id name) ≡ None) → at ≢ root_key
    → FlagsStay inodes (map.remove inodes at)

-- with the quota rows but for its own they stand for a namespace that is as before but for its path
abbrev pub GoneRowTakesItsEntry : Type 0
GoneRowTakesItsEntry =
    (inodes : Inodes) (next : ℕ) → IsTree inodes next
    → (at : Key) (old : Inode) → map.get inodes at ≡ Some old
    → ((name : List ℕ) → map.get inodes (key.Inode old.id name) ≡ None) → at ≢ root_key
    → (path : Path) → row_of inodes path ≡ Some old → (quotas : Quotas) (removed space : Namespace)
    → Stands inodes quotas removed space
    → (after : Namespace) → ((q : Path) → entry_at after q ≡ (if same_path q path then None else entry_at space q))
    → Stands (map.remove inodes at) (map.remove quotas (key.Quota old.id)) removed after

-- quota rows that stay count what is used, where those along its path count its name and its entry's bytes no more
abbrev pub GoneRowIsCounted : Type 0
GoneRowIsCounted =
    (inodes : Inodes) (next : ℕ) → IsTree inodes next
    → (at : Key) (old : Inode) → map.get inodes at ≡ Some old
    → ((name : List ℕ) → map.get inodes (key.Inode old.id name) ≡ None) → at ≢ root_key
    → (path : Path) → row_of inodes path ≡ Some old
    → (quotas fewer after : Quotas) (removed space : Namespace) → Stands inodes quotas removed space → IsNamespace space
    → Counts inodes quotas space
    → (was : Entry) → entry_at space path ≡ Some was → ((name : List ℕ) → entry_at space (path ++ name ∷ []) ≡ None)
    → ((id : InodeId) (quota : QuotaRow) → quota_of fewer id ≡ Some quota → quota_of quotas id ≡ Some quota)
    → IsRecounted inodes path (one_gone was) fewer after
    → Counts (map.remove inodes at) after (without space path)

-- ---- flags and quota rows

-- where no row bore a flag and flags stay, none bears one
abbrev pub NoFlagsStayNone : Type 0
NoFlagsStayNone = (old new : Inodes) → IsUnflagged old → FlagsStay old new → IsUnflagged new

-- with quota rows that are recounted along some path the rows stand for the same
abbrev pub RecountedStandForTheSame : Type 0
RecountedStandForTheSame =
    (along : Inodes) (path : Path) (change : Change) (quotas after : Quotas) → IsRecounted along path change quotas after
    → (inodes : Inodes) (removed space : Namespace) → Stands inodes quotas removed space → Stands inodes after removed space

-- writes of just the quota rows along a path, each as what it becomes, recount them
abbrev pub WrittenQuotasAreRecounted : Type 0
WrittenQuotasAreRecounted =
    (change : Change) (make : QuotaRow → QuotaRow) (rows : List (InodeId × QuotaRow)) (tables : Tables) (inodes : Inodes) (path : Path)
    → AreOf tables.quotas rows
    → ((k : Key) (quota : QuotaRow) → map.get tables.quotas k ≡ Some quota → (id : InodeId) × (k ≡ key.Quota id))
    → ((id : InodeId) (quota : QuotaRow) → quota_of tables.quotas id ≡ Some quota → is_written rows id ≡ is_along inodes path id)
    → ((id : InodeId) (quota : QuotaRow) → quota_of tables.quotas id ≡ Some quota → is_along inodes path id ≡ true → Becomes change true quota (make quota))
    → IsRecounted inodes path change tables.quotas (written tables (quota_writes make rows)).quotas

-- ---- the opening and the book

-- the opening rows spell a tree
abbrev pub OpeningIsATree : Type 0
OpeningIsATree = IsTree opening_rows 2

-- they stand for the opening namespace
abbrev pub OpeningStands : Type 0
OpeningStands = Stands opening_rows map.empty [] spaces.opening

-- before anything happened rows and book are consistent
abbrev pub OpeningIsConsistent : Type 0
OpeningIsConsistent = (settings : Settings) → IsConsistent (opening_stored settings)

-- consistent rows and book stay so with one note more that is neither a Did nor a Cut
abbrev pub QuietNotesKeepItConsistent : Type 0
QuietNotesKeepItConsistent =
    (state : Stored) (note : Note) → IsConsistent state → did note ≡ None → cut_in note ≡ None
    → IsConsistent (committed state [] (note ∷ []))
