-- What a path spells over the parent links of the inode rows, and what holds of rows that spell a tree. This project's own.
use Rattle.std.specs.Prelude.{◌≡◌, ◌≢◌, ℕ, ◌<◌, ◌≤◌, List, [], ◌∷◌, reverse, codes, Option, Some, None}
use Rattle.std.specs.FinMap as map
use Rattle.hops_base.specs.declared.ids.InodeId.{InodeId}
use Rattle.hops_base.specs.declared.key.Key.{Key}
use Rattle.hops_base.specs.declared.key.Key.TheVariants as key
use Rattle.name_space.specs.Namespace.{Path}
use Rattle.inode_table.specs.declared.inode.Inode.{Inode}
use Rattle.inode_table.specs.declared.inode.Kind.TheVariants.{Dir}
use Rattle.commit_log.specs.declared.note.Note.{Note}
use Rattle.commit_log.specs.Ids.{Numbering, ids, id_at}
pub use Rattle.db_state.specs.Stored.{Inodes}
use Rattle.db_state.specs.Stored.{root_key, root_row}

-- the row of a name under a row
abbrev pub child_of : Inodes → List ℕ → Option Inode → Option Inode
child_of inodes name None = None
child_of inodes name (Some dir) = map.get inodes (key.Inode dir.id name)

-- the row that names spell, the last of them first
abbrev pub spelled : Inodes → List (List ℕ) → Option Inode
spelled inodes [] = map.get inodes root_key
spelled inodes (name ∷ up) = child_of inodes name (spelled inodes up)

-- the row that a path spells
abbrev pub row_of : Inodes → Path → Option Inode
row_of inodes path = spelled inodes (reverse path)

-- a directory has this id
pub record IsDirRow (inodes : Inodes) (id : InodeId) : Type 0 where
  pub at : Key
  pub row : Inode
  pub there : map.get inodes at ≡ Some row
  pub is : row.id ≡ id
  pub dir : row.kind ≡ Dir

-- a directory's row has length 0 and no writer
abbrev pub FitsKind : Inode → Type 0
FitsKind row = row.kind ≡ Dir → (row.len ≡ 0) × (row.writer ≡ None)

-- the rows spell a tree: they stand under parents and names; their ids differ, and are from 1 on and below the next free
-- one; those of directories have no length and no writer; the root's row is there, and no other stands under no parent; each
-- other stands under a directory; each is spelled
pub record IsTree (inodes : Inodes) (next : ℕ) : Type 0 where
  pub keys : (at : Key) (row : Inode) → map.get inodes at ≡ Some row → (parent : InodeId) × (name : List ℕ) × (at ≡ key.Inode parent name)
  pub apart : (at other : Key) (row twin : Inode) → map.get inodes at ≡ Some row → map.get inodes other ≡ Some twin → row.id ≡ twin.id → at ≡ other
  pub range : (at : Key) (row : Inode) → map.get inodes at ≡ Some row → (1 ≤ row.id.0) × (row.id.0 < next)
  pub dirs : (at : Key) (row : Inode) → map.get inodes at ≡ Some row → FitsKind row
  pub root : map.get inodes root_key ≡ Some root_row
  pub top : (name : List ℕ) (row : Inode) → map.get inodes (key.Inode (record { 0 = 0 }) name) ≡ Some row → name ≡ codes "root"
  pub parents : (parent : InodeId) (name : List ℕ) (row : Inode) → map.get inodes (key.Inode parent name) ≡ Some row → parent.0 ≢ 0 → IsDirRow inodes parent
  pub spelled : (at : Key) (row : Inode) → map.get inodes at ≡ Some row → (up : List (List ℕ)) × (spelled inodes up ≡ Some row)

-- each row that a path spells has the id that the numbering gives the path
abbrev pub AreGiven : Inodes → Numbering → Type 0
AreGiven inodes numbering = (path : Path) (row : Inode) → row_of inodes path ≡ Some row → id_at numbering path ≡ Some row.id.0

-- the rows have the ids that the history gives to paths, and the next free id is the history's
pub record IsNumbered (inodes : Inodes) (next : ℕ) (users : List (List ℕ)) (notes : List Note) : Type 0 where
  pub given : AreGiven inodes (ids users notes)
  pub least : next ≡ (ids users notes).next
