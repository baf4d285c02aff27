-- The words of the worked examples: the root, the directory /d with the id 2, in it the file /d/f with the id 3 and the
-- directory /d/q with the id 5, which has a quota, and in that the file /d/q/g with the id 4. Nothing else rests on them.
use Rattle.std.specs.Prelude.{ℕ, true, List, [], ◌∷◌, Some, None, codes}
use Rattle.std.specs.FinMap as map
use Rattle.hops_base.specs.Ids.{client}
use Rattle.hops_base.specs.declared.ids.Mode.{Mode}
use Rattle.hops_base.specs.declared.ids.Mode.TheVariants.{Shared, Exclusive}
use Rattle.hops_base.specs.declared.key.Key.{Key}
use Rattle.hops_base.specs.declared.key.Key.TheVariants as key
use Rattle.inode_table.specs.declared.inode.Inode.{Inode}
use Rattle.inode_table.specs.declared.inode.Kind.TheVariants.{Dir}
use Rattle.db_state.specs.Stored.{Inodes, root_key, dir_row, opening_rows}
use Rattle.db_state.specs.Effects.{KeepsRows}
use Rattle.inode_ops.specs.NewFile.{file_row}

-- the key of the row with this name below the inode of this number
abbrev pub child : ℕ → List ℕ → Key
child parent name = key.Inode (record { 0 = parent }) name

-- a directory, and a file, of this id
abbrev pub dir : ℕ → Inode
dir id = dir_row id (codes "ann")

abbrev pub file : ℕ → Inode
file id = file_row id (client 0) (codes "ann")

-- the row with a quota
abbrev pub with_quota : Inode → Inode
with_quota row = record row { has_quota = true }

-- the row as that of a directory
abbrev pub as_dir : Inode → Inode
as_dir row = record row { kind = Dir }

-- the keys of these rows
abbrev pub d : Key
d = child 1 (codes "d")

abbrev pub d_f : Key
d_f = child 2 (codes "f")

abbrev pub d_q : Key
d_q = child 2 (codes "q")

abbrev pub d_q_g : Key
d_q_g = child 5 (codes "g")

-- the key of the name e below the inode of this number, which has no row
abbrev pub e_in : ℕ → Key
e_in parent = child parent (codes "e")

-- the rows
abbrev pub rows : Inodes
rows = map.insert (map.insert (map.insert (map.insert opening_rows d (dir 2)) d_f (file 3)) d_q (with_quota (dir 5))) d_q_g (file 4)

-- the rows once this key has this row, once it has none, and once the row goes from one key to another
abbrev pub putting : Key → Inode → Inodes
putting at row = map.insert rows at row

abbrev pub without : Key → Inodes
without at = map.remove rows at

abbrev pub moving : Key → Key → Inode → Inodes
moving from to row = map.insert (map.remove rows from) to row

-- the keys that are locked: the root's as others may hold it too, and that of /d alone
abbrev pub locked : List (Key × Mode)
locked = (root_key, Shared) ∷ (d, Exclusive) ∷ []

-- a commit that makes these of the rows keeps what others have read, where 6 is the next free id
abbrev pub IsKept : Inodes → Type 0
IsKept new = KeepsRows locked 6 None rows new

-- and where it may move the row with this id, or give it a quota
abbrev pub IsKeptWith : ℕ → Inodes → Type 0
IsKeptWith id new = KeepsRows locked 6 (Some (record { 0 = id })) rows new
