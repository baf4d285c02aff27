-- New directories, one below the other. This project's own.
use Rattle.std.specs.Prelude.{◌≡◌, ℕ, ◌+◌, List, [], ◌∷◌, slice_get, Option, Some, None, IfSome}
use Rattle.std.specs.FinMap as map
use Rattle.std.specs.List.{AllByRecursion}
use Rattle.hops_base.specs.declared.ids.InodeId.{InodeId}
use Rattle.hops_base.specs.declared.key.Key.{Key}
use Rattle.hops_base.specs.declared.key.Key.TheVariants as key
use Rattle.name_space.specs.Namespace.{Namespace, Path, entry_at}
pub use Rattle.name_space.specs.Namespace.{paths_below}
use Rattle.db_state.specs.Stored.{dir_row}
use Rattle.db_state.specs.Spelled.{Inodes}
use Rattle.db_state.specs.declared.writes.Row.{Row}
use Rattle.db_state.specs.declared.writes.Row.TheVariants as row

-- the rows of one new directory for each name, each below the one before from the parent on, with the ids from next on
abbrev pub new_dirs : ℕ → ℕ → List ℕ → List (List ℕ) → List (Key × Option Row)
new_dirs parent next owner [] = []
new_dirs parent next owner (name ∷ names) =
    (key.Inode (record { 0 = parent }) name, Some (row.Inode (dir_row next owner))) ∷ new_dirs next (next + 1) owner names

-- the first of the names has no row under the parent
abbrev pub FirstMissing : Inodes → InodeId → List (List ℕ) → Type 0
FirstMissing inodes parent names = IfSome (slice_get names 0) (λ (name : List ℕ). map.get inodes (key.Inode parent name) ≡ None)

-- none of the paths was removed by a running delete
abbrev pub Unremoved : Namespace → List Path → Type 0
Unremoved removed paths = AllByRecursion (λ (path : Path). entry_at removed path ≡ None) paths
