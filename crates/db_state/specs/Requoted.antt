-- Quota rows of which one comes, changes or goes. This project's own.
use Rattle.std.specs.Prelude.{◌≡◌, ◌≢◌, ◌⊎◌, Some, IsSome}
use Rattle.std.specs.FinMap as map
use Rattle.hops_base.specs.declared.ids.InodeId.{InodeId}
use Rattle.hops_base.specs.declared.key.Key.{Key}
use Rattle.hops_base.specs.declared.key.Key.TheVariants as key
use Rattle.quota_table.specs.declared.quota.QuotaRow.{QuotaRow}
use Rattle.db_state.specs.Stands.{Quotas, quota_of}

-- the quota row has a limit
abbrev pub HasLimit : QuotaRow → Type 0
HasLimit quota = IsSome quota.max_names ⊎ IsSome quota.max_bytes

-- the quota rows are as these but for that of one id
pub record IsRequoted (quotas others : Quotas) (id : InodeId) : Type 0 where
  pub keys : (k : Key) (quota : QuotaRow) → map.get others k ≡ Some quota → (other : InodeId) × (k ≡ key.Quota other)
  pub same : (other : InodeId) → other ≢ id → quota_of others other ≡ quota_of quotas other
