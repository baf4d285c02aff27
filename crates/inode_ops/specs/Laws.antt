-- Laws of a new file below a chain of new directories, where the first of the names is free under a directory.
use Rattle.std.specs.Prelude.{◌≡◌, ◌+◌, ℕ, List, [], ◌∷◌, ◌++◌, Some, length, reverse}
use Rattle.hops_base.specs.declared.ids.ClientNo.{ClientNo}
use Rattle.inode_table.specs.declared.inode.Inode.{Inode}
use Rattle.inode_table.specs.declared.inode.Kind.TheVariants.{Dir}
use Rattle.name_space.specs.Namespace.{Namespace, IsNamespace, with_entry}
use Rattle.name_space.specs.Plain as plain
use Rattle.name_space.specs.Plain.{with_dirs}
use Rattle.commit_log.specs.Ids.{Numbering, with_new}
use Rattle.db_state.specs.Stored.{Tables}
use Rattle.db_state.specs.Spelled.{spelled, IsTree, AreGiven}
use Rattle.db_state.specs.Stands.{Quotas, Stands}
use Rattle.db_state.specs.Counts.{Counts}
use Rattle.db_state.specs.Consistent.{FlagsStay}
use Rattle.db_state.specs.Written.{written}
use Rattle.db_state.specs.NewDirs.{paths_below, FirstMissing, Unremoved}
use Rattle.db_state.specs.Recounted.{IsRecounted, names_more}
use Rattle.inode_ops.specs.NewFile.{new_file_rows}

-- the rows with it spell a tree
abbrev pub NewFileKeepsTheTree : Type 0
NewFileKeepsTheTree =
    (names : List (List ℕ)) (tables : Tables) (next : ℕ) → IsTree tables.inodes next
    → (dir : List (List ℕ)) (parent : Inode) (owner last : List ℕ) (client : ClientNo)
    → spelled tables.inodes dir ≡ Some parent → parent.kind ≡ Dir
    → FirstMissing tables.inodes parent.id (names ++ last ∷ [])
    → IsTree (written tables (new_file_rows parent.id.0 next owner names last client)).inodes (next + length names + 1)

-- they have the ids that a numbering gives to their paths in turn
abbrev pub NewFileHasTheNextIds : Type 0
NewFileHasTheNextIds =
    (names : List (List ℕ)) (tables : Tables) (next : ℕ) → IsTree tables.inodes next
    → (dir : List (List ℕ)) (parent : Inode) (owner last : List ℕ) (client : ClientNo)
    → spelled tables.inodes dir ≡ Some parent → parent.kind ≡ Dir
    → FirstMissing tables.inodes parent.id (names ++ last ∷ []) → (numbering : Numbering) → numbering.next ≡ next
    → AreGiven tables.inodes numbering
    → AreGiven (written tables (new_file_rows parent.id.0 next owner names last client)).inodes (with_new numbering (paths_below (reverse dir) (names ++ last ∷ [])))

-- they stand for the namespace with the directories and the file
abbrev pub NewFileAddsItsEntries : Type 0
NewFileAddsItsEntries =
    (names : List (List ℕ)) (tables : Tables) (next : ℕ) → IsTree tables.inodes next
    → (dir : List (List ℕ)) (parent : Inode) (owner last : List ℕ) (client : ClientNo)
    → spelled tables.inodes dir ≡ Some parent → parent.kind ≡ Dir
    → FirstMissing tables.inodes parent.id (names ++ last ∷ []) → (quotas : Quotas) (removed space : Namespace)
    → Stands tables.inodes quotas removed space
    → Unremoved removed (paths_below (reverse dir) (names ++ last ∷ []))
    → Stands (written tables (new_file_rows parent.id.0 next owner names last client)).inodes quotas removed
    (with_entry (with_dirs space owner (paths_below (reverse dir) (names ++ last ∷ []))) (reverse dir ++ (names ++ last ∷ [])) (plain.new_file client owner))

-- the quota rows stay
abbrev pub NewFileKeepsQuotas : Type 0
NewFileKeepsQuotas =
    (names : List (List ℕ)) (tables : Tables) (parent next : ℕ) (owner last : List ℕ) (client : ClientNo)
    → (written tables (new_file_rows parent next owner names last client)).quotas ≡ tables.quotas

-- the rows bear the flags that they bore
abbrev pub NewFileKeepsFlags : Type 0
NewFileKeepsFlags =
    (names : List (List ℕ)) (tables : Tables) (next : ℕ) → IsTree tables.inodes next
    → (dir : List (List ℕ)) (parent : Inode) (owner last : List ℕ) (client : ClientNo)
    → spelled tables.inodes dir ≡ Some parent → parent.kind ≡ Dir
    → FirstMissing tables.inodes parent.id (names ++ last ∷ [])
    → FlagsStay tables.inodes (written tables (new_file_rows parent.id.0 next owner names last client)).inodes

-- quota rows count what is used, where those along the path of the names count as many names more
abbrev pub NewFileIsCounted : Type 0
NewFileIsCounted =
    (tables : Tables) (next : ℕ) → IsTree tables.inodes next
    → (quotas after : Quotas) (space : Namespace) → Stands tables.inodes quotas [] space → IsNamespace space
    → Counts tables.inodes quotas space
    → (dir : List (List ℕ)) (parent : Inode) → spelled tables.inodes dir ≡ Some parent → parent.kind ≡ Dir
    → (owner : List ℕ) (names : List (List ℕ)) (last : List ℕ) (client : ClientNo)
    → FirstMissing tables.inodes parent.id (names ++ last ∷ [])
    → IsRecounted tables.inodes (reverse dir ++ (names ++ last ∷ [])) (names_more (length (names ++ last ∷ []))) quotas after
    → Counts (written tables (new_file_rows parent.id.0 next owner names last client)).inodes after
    (with_entry (with_dirs space owner (paths_below (reverse dir) (names ++ last ∷ []))) (reverse dir ++ (names ++ last ∷ [])) (plain.new_file client owner))
