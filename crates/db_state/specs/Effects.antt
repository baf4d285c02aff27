-- What a commit does to rows that other sessions have read. This project's own.
use Rattle.std.specs.Prelude.{⊤, ◌≡◌, ℕ, ◌≤◌, ◌⊎◌, true, List, Option, Some, None}
use Rattle.std.specs.FinMap as map
use Rattle.hops_base.specs.declared.ids.ClientNo.{ClientNo}
use Rattle.hops_base.specs.declared.ids.InodeId.{InodeId}
use Rattle.hops_base.specs.declared.ids.Mode.{Mode}
use Rattle.hops_base.specs.declared.ids.OpId.{OpId}
use Rattle.hops_base.specs.declared.key.Key.{Key}
use Rattle.hops_base.specs.declared.key.Key.TheVariants as key
use Rattle.name_space.specs.declared.call.Call.{Call}
use Rattle.inode_table.specs.declared.inode.Inode.{Inode}
use Rattle.db_state.specs.declared.outcome.Outcome.{Outcome}
use Rattle.db_state.specs.declared.outcome.Outcome.TheVariants.{Answer, Subtree}
use Rattle.db_state.specs.declared.view.View.{View}
use Rattle.db_state.specs.Stored.{Inodes, Tables}
use Rattle.db_state.specs.Written.{written}
use Rattle.db_state.specs.Plan.{plan}
use Rattle.db_state.specs.Current.{IsCurrent}
use Rattle.db_state.specs.Locked.{is_own}

-- a row was there under this key, with the row's id and kind, and with a quota where the row has one
pub record WasThere (old : Inodes) (at : Key) (row : Inode) : Type 0 where
  pub was : Inode
  pub there : map.get old at ≡ Some was
  pub id : row.id ≡ was.id
  pub kind : row.kind ≡ was.kind
  pub quota : row.has_quota ≡ true → was.has_quota ≡ true

-- the row with this id is there, and its key is locked Exclusive
pub record OwnsDir (old : Inodes) (locked : List (Key × Mode)) (id : InodeId) : Type 0 where
  pub at : Key
  pub row : Inode
  pub there : map.get old at ≡ Some row
  pub is : row.id ≡ id
  pub own : is_own locked at ≡ true

-- each row that is there afterwards was there before, or has an id that wasn't given yet, or is the one row that the commit
-- moves or gives a quota; a key gains a row only in a directory that is locked Exclusive or has an id that wasn't given yet;
-- and a key loses its row only in a directory that is locked Exclusive
pub record KeepsRows (locked : List (Key × Mode)) (next : ℕ) (moves : Option InodeId) (old new : Inodes) : Type 0 where
  pub kept : (at : Key) (row : Inode) → map.get new at ≡ Some row → WasThere old at row ⊎ ((next ≤ row.id.0) ⊎ (moves ≡ Some row.id))
  pub added : (parent : InodeId) (name : List ℕ) (row : Inode) → map.get new (key.Inode parent name) ≡ Some row → map.get old (key.Inode parent name) ≡ None
      → (next ≤ parent.0) ⊎ OwnsDir old locked parent
  pub removed : (parent : InodeId) (name : List ℕ) (row : Inode) → map.get old (key.Inode parent name) ≡ Some row → map.get new (key.Inode parent name) ≡ None
      → OwnsDir old locked parent

-- whenever the view is current, what the outcome writes keeps the rows that other sessions have read, and moves none
abbrev pub KeepsOthers : View → ClientNo → Call → Outcome → Type 0
KeepsOthers view client call (Answer reply writes) =
    (tables : Tables) (own : Option OpId) → IsCurrent tables.inodes tables.quotas own client call view
    → KeepsRows (plan client call view.places.items) view.next.0 None tables.inodes (written tables writes.items).inodes
KeepsOthers view client call (Subtree kind) = ⊤
