-- What quota rows count. This project's own.
use Rattle.std.specs.Prelude.{◌≡◌, Some}
use Rattle.name_space.specs.Namespace.{Namespace, Path, used_names, used_bytes}
use Rattle.inode_table.specs.declared.inode.Inode.{Inode}
use Rattle.quota_table.specs.declared.quota.QuotaRow.{QuotaRow}
use Rattle.db_state.specs.Spelled.{Inodes, row_of}
use Rattle.db_state.specs.Stands.{Quotas, quota_of}

-- each quota row counts what stands at and below its directory
abbrev pub Counts : Inodes → Quotas → Namespace → Type 0
Counts inodes quotas space =
    (path : Path) (row : Inode) (quota : QuotaRow) → row_of inodes path ≡ Some row → quota_of quotas row.id ≡ Some quota
    → (quota.used_names ≡ used_names space path) × (quota.used_bytes ≡ used_bytes space path)
