-- The writes of quota rows. This project's own.
use Rattle.std.specs.Prelude.{◌≡◌, ℕ, ◌+◌, ◌-◌, Bool, ◌==◌, List, [], ◌∷◌, Option, Some}
use Rattle.std.specs.List.{list_any, AllByRecursion}
use Rattle.hops_base.specs.declared.ids.InodeId.{InodeId}
use Rattle.hops_base.specs.declared.key.Key.{Key}
use Rattle.hops_base.specs.declared.key.Key.TheVariants as key
use Rattle.quota_table.specs.declared.quota.QuotaRow.{QuotaRow}
use Rattle.db_state.specs.Stands.{Quotas, quota_of}
use Rattle.db_state.specs.declared.writes.Row.{Row}
use Rattle.db_state.specs.declared.writes.Row.TheVariants as row

-- each of these quota rows, changed so, under its inode's key
abbrev pub quota_writes : (QuotaRow → QuotaRow) → List (InodeId × QuotaRow) → List (Key × Option Row)
quota_writes change [] = []
quota_writes change (q ∷ rows) = (key.Quota q.0, Some (row.Quota (change q.1))) ∷ quota_writes change rows

-- the row where so many names and bytes more are used
abbrev pub raised : ℕ → ℕ → QuotaRow → QuotaRow
raised names bytes quota = record quota { used_names = quota.used_names + names; used_bytes = quota.used_bytes + bytes }

-- the row where so many names and bytes are used less
abbrev pub lowered : ℕ → ℕ → QuotaRow → QuotaRow
lowered names bytes quota = record quota { used_names = quota.used_names - names; used_bytes = quota.used_bytes - bytes }

-- one row of this id is among these
abbrev pub is_written : List (InodeId × QuotaRow) → InodeId → Bool
is_written rows id = list_any (λ (q : InodeId × QuotaRow). q.0.0 == id.0) rows

-- the rows are those that these quotas have for their ids
abbrev pub AreOf : Quotas → List (InodeId × QuotaRow) → Type 0
AreOf quotas rows = AllByRecursion (λ (q : InodeId × QuotaRow). quota_of quotas q.0 ≡ Some q.1) rows
