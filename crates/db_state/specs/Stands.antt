-- Which namespace the rows stand for. This project's own.
use Rattle.std.specs.Prelude.{◌≡◌, ◌⊎◌, map, Option, Some, None, IsSome, is_some, option_map, option_and_then}
use Rattle.std.specs.Option.{option_or}
use Rattle.std.specs.FinMap as map
use Rattle.std.specs.List.{IsDistinct}
use Rattle.hops_base.specs.declared.ids.InodeId.{InodeId}
use Rattle.hops_base.specs.declared.key.Key.{Key}
use Rattle.hops_base.specs.declared.key.Key.TheVariants as key
use Rattle.hops_base.specs.Path.{same_path}
use Rattle.name_space.specs.declared.entry.Entry.{Entry}
use Rattle.name_space.specs.declared.entry.Entry.TheVariants as entry
use Rattle.name_space.specs.Namespace.{Namespace, Path, entry_at}
use Rattle.inode_table.specs.declared.inode.Inode.{Inode}
use Rattle.inode_table.specs.declared.inode.Kind.{Kind}
use Rattle.inode_table.specs.declared.inode.Kind.TheVariants.{Dir, File}
use Rattle.quota_table.specs.declared.quota.QuotaRow.{QuotaRow}
pub use Rattle.db_state.specs.Stored.{Quotas}
use Rattle.db_state.specs.Spelled.{Inodes, row_of}

-- the quota row of an inode
abbrev pub quota_of : Quotas → InodeId → Option QuotaRow
quota_of quotas id = map.get quotas (key.Quota id)

-- the entry that a row of this kind stands for, where this is its quota row
abbrev pub entry_of_kind : Kind → Inode → Option QuotaRow → Entry
entry_of_kind Dir inode quota =
    entry.Dir inode.mode inode.owner (option_and_then (λ (q : QuotaRow). q.max_names) quota) (option_and_then (λ (q : QuotaRow). q.max_bytes) quota)
entry_of_kind File inode quota = entry.File inode.len inode.writer inode.mode inode.owner

-- the entry that a row stands for
abbrev pub entry_of : Quotas → Inode → Entry
entry_of quotas inode = entry_of_kind inode.kind inode (quota_of quotas inode.id)

-- the quota row is that of a directory's row which says that it has one, and it has a limit
pub record IsQuotaOf (inodes : Inodes) (id : InodeId) (quota : QuotaRow) : Type 0 where
  pub at : Key
  pub row : Inode
  pub there : map.get inodes at ≡ Some row
  pub is : row.id ≡ id
  pub dir : row.kind ≡ Dir
  pub limit : IsSome quota.max_names ⊎ IsSome quota.max_bytes

-- the rows stand for the namespace: a path stands for what its row does, or for what a running delete has removed there
-- while the history still has it, and never for both nor twice; a quota row is there exactly where the row of its
-- directory says so
pub record Stands (inodes : Inodes) (quotas : Quotas) (removed : Namespace) (space : Namespace) : Type 0 where
  pub entries : (path : Path) → entry_at space path ≡ option_or (entry_at removed path) (option_map (entry_of quotas) (row_of inodes path))
  pub once : (path : Path) → IsSome (entry_at removed path) → row_of inodes path ≡ None
  pub apart : IsDistinct same_path (map (λ (e : Path × Entry). e.0) removed)
  pub keys : (at : Key) (quota : QuotaRow) → map.get quotas at ≡ Some quota → (id : InodeId) × (at ≡ key.Quota id)
  pub rows : (id : InodeId) (quota : QuotaRow) → quota_of quotas id ≡ Some quota → IsQuotaOf inodes id quota
  pub marks : (at : Key) (row : Inode) → map.get inodes at ≡ Some row → row.has_quota ≡ is_some (quota_of quotas row.id)
