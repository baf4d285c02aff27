-- A new file below new directories. This project's own.
use Rattle.std.specs.Prelude.{ℕ, ◌+◌, false, List, [], ◌∷◌, Option, Some, None}
use Rattle.hops_base.specs.declared.ids.ClientNo.{ClientNo}
use Rattle.hops_base.specs.declared.key.Key.{Key}
use Rattle.hops_base.specs.declared.key.Key.TheVariants as key
use Rattle.name_space.specs.Plain.{file_mode}
use Rattle.inode_table.specs.declared.inode.Inode.{Inode}
use Rattle.inode_table.specs.declared.inode.Kind.TheVariants.{File}
use Rattle.db_state.specs.Stored.{dir_row}
use Rattle.db_state.specs.declared.writes.Row.{Row}
use Rattle.db_state.specs.declared.writes.Row.TheVariants as row

-- a new file of this id, which this client writes, and owner
abbrev pub file_row : ℕ → ClientNo → List ℕ → Inode
file_row id client owner =
    record { id = record { 0 = id }; kind = File; len = 0; writer = Some client; mode = file_mode; owner = owner; has_quota = false; flag = None }

-- the rows of one new directory for each of the names, each below the one before from the parent on, and of a new file
-- with the last name below them, with the ids from next on
abbrev pub new_file_rows : ℕ → ℕ → List ℕ → List (List ℕ) → List ℕ → ClientNo → List (Key × Option Row)
new_file_rows parent next owner [] last client = (key.Inode (record { 0 = parent }) last, Some (row.Inode (file_row next client owner))) ∷ []
new_file_rows parent next owner (name ∷ names) last client = (key.Inode (record { 0 = parent }) name, Some (row.Inode (dir_row next owner)))
    ∷ new_file_rows next (next + 1) owner names last client

-- the id of the last of those directories, or of the parent where there are none
abbrev pub last_dir : ℕ → ℕ → List (List ℕ) → ℕ
last_dir parent next [] = parent
last_dir parent next (name ∷ names) = last_dir next (next + 1) names
