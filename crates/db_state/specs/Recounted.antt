-- How quota rows change as names and bytes come and go below their directories. This project's own.
use Rattle.std.specs.Prelude.{⊤, ◌≡◌, ℕ, ◌+◌, Bool, ◌==◌, if◌then◌else◌, List, Option, Some, None}
use Rattle.std.specs.FinMap as map
use Rattle.std.specs.List.{filter_map, list_any}
use Rattle.hops_base.specs.declared.ids.InodeId.{InodeId}
use Rattle.hops_base.specs.declared.key.Key.{Key}
use Rattle.hops_base.specs.declared.key.Key.TheVariants as key
use Rattle.name_space.specs.declared.entry.Entry.{Entry}
use Rattle.name_space.specs.Namespace.{Path, prefixes, bytes_of}
use Rattle.inode_table.specs.declared.inode.Inode.{Inode}
use Rattle.quota_table.specs.declared.quota.QuotaRow.{QuotaRow}
use Rattle.db_state.specs.Spelled.{Inodes, row_of}
use Rattle.db_state.specs.Stands.{Quotas, quota_of}

-- the rows along a path, from the root's on
abbrev pub rows_along : Inodes → Path → List Inode
rows_along inodes path = filter_map (row_of inodes) (prefixes path)

-- the id is that of a row along a path
abbrev pub is_along : Inodes → Path → InodeId → Bool
is_along inodes path id = list_any (λ (row : Inode). row.id.0 == id.0) (rows_along inodes path)

-- how many names and bytes go, and how many come
pub record Change : Type 0 where
  pub names_gone : ℕ
  pub bytes_gone : ℕ
  pub names_come : ℕ
  pub bytes_come : ℕ

-- a quota row becomes another: its limits stay, and it counts the change where that is below its directory
pub record Becomes (change : Change) (counts : Bool) (old new : QuotaRow) : Type 0 where
  pub limit_names : new.max_names ≡ old.max_names
  pub limit_bytes : new.max_bytes ≡ old.max_bytes
  pub names : new.used_names + (if counts then change.names_gone else 0) ≡ old.used_names + (if counts then change.names_come else 0)
  pub bytes : new.used_bytes + (if counts then change.bytes_gone else 0) ≡ old.used_bytes + (if counts then change.bytes_come else 0)

-- where there was a quota row there is one that it becomes, and where there was none there is none
abbrev pub Turns : Change → Bool → Option QuotaRow → Option QuotaRow → Type 0
Turns change counts None None = ⊤
Turns change counts None (Some new) = ⊥
Turns change counts (Some old) None = ⊥
Turns change counts (Some old) (Some new) = Becomes change counts old new

-- the quota rows of the directories along a path count the change, and the others stay
pub record IsRecounted (inodes : Inodes) (path : Path) (change : Change) (quotas after : Quotas) : Type 0 where
  pub keys : (at : Key) (quota : QuotaRow) → map.get after at ≡ Some quota → (id : InodeId) × (at ≡ key.Quota id)
  pub rows : (id : InodeId) → Turns change (is_along inodes path id) (quota_of quotas id) (quota_of after id)

-- the bytes of a path's entry change, and no names come or go
abbrev pub in_place : Entry → Entry → Change
in_place old new = record { names_gone = 0; bytes_gone = bytes_of old; names_come = 0; bytes_come = bytes_of new }

-- a name and the bytes of this entry go
abbrev pub one_gone : Entry → Change
one_gone old = record { names_gone = 1; bytes_gone = bytes_of old; names_come = 0; bytes_come = 0 }

-- so many names come
abbrev pub names_more : ℕ → Change
names_more names = record { names_gone = 0; bytes_gone = 0; names_come = names; bytes_come = 0 }
