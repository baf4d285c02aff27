-- The quota rows of the directories found: whether they have room, and what is written of them.
use Rattle.std.specs.Prelude.{⊤, ◌≡◌, ◌<◌, ◌≤◌, ◌+◌, ◌^◌, ◌==◌, ℕ, Bool, true, false, List, [], ◌∷◌, ◌++◌, map, zip, Option, Some, None, option_map}
use Rattle.std.specs.List.{find, list_any, AllByRecursion}
use Rattle.std.specs.Map.{keys_of}
use Rattle.std.specs.Option.{option_or}
use Rattle.hops_base.specs.declared.ids.InodeId.{InodeId}
use Rattle.hops_base.specs.declared.key.Key.{Key}
use Rattle.hops_base.specs.declared.key.Key.TheVariants as key
use Rattle.hops_base.specs.Key.{same_key}
use Rattle.inode_table.specs.declared.inode.Inode.{Inode}
use Rattle.quota_table.specs.declared.quota.QuotaRow.{QuotaRow}
use Rattle.quota_table.specs.declared.quota.Fit.{Fit}
use Rattle.quota_table.specs.declared.quota.Fit.TheVariants.{Fits, Names, Bytes}
use Rattle.name_space.specs.declared.reply.Exception.{Exception}
use Rattle.name_space.specs.declared.reply.Exception.TheVariants.{NSQuotaExceeded, DSQuotaExceeded}
use Rattle.name_space.specs.Namespace.{Path, above}
use Rattle.name_space.specs.Quota.{first_some, refused_over}
use Rattle.db_state.specs.declared.writes.Row.{Row}
use Rattle.db_state.specs.QuotaWrites.{quota_writes, raised, lowered}
use Rattle.db_state.specs.QuotaWrites as quota_rows
use Rattle.inode_ops.specs.declared.quotas.Change.{Change}
use Rattle.inode_ops.specs.declared.quotas.Change.TheVariants.{More, Less}

-- the quota row of a directory, among those that were read
abbrev pub quota_in : List (InodeId × QuotaRow) → InodeId → Option QuotaRow
quota_in quotas id = option_map (λ (q : InodeId × QuotaRow). q.1) (find (λ (q : InodeId × QuotaRow). q.0.0 == id.0) quotas)

-- ---- room

-- why the directory at this path has no room for so many names more, by its quota row
abbrev pub full_at : Path → ℕ → Option QuotaRow → Option Exception
full_at at names None = None
full_at at names (Some quota) =
    option_or (refused_over (NSQuotaExceeded at) quota.used_names names quota.max_names)
    (refused_over (DSQuotaExceeded at) quota.used_bytes 0 quota.max_bytes)

-- why the first of the directories found above a path has none
abbrev pub first_full : Path → List (Key × Inode) → List (InodeId × QuotaRow) → ℕ → Option Exception
first_full path found quotas names =
    first_some (map (λ (d : Path × (Key × Inode)). full_at d.0 names (quota_in quotas d.1.1.id)) (zip (above path) found))

-- the refusal where something doesn't fit below this path
abbrev pub refusal : Path → Fit → Option Exception
refusal at Fits = None
refusal at (Names used limit) = Some (NSQuotaExceeded at used limit)
refusal at (Bytes used limit) = Some (DSQuotaExceeded at used limit)

-- ---- what is counted anew

-- the quota row once the change is counted
abbrev pub counted : Change → QuotaRow → QuotaRow
counted (More names bytes) = raised names bytes
counted (Less names bytes) = lowered names bytes

-- the quota row can count the change; where no bytes come it needs no room for them
abbrev pub CanCountIn : Change → QuotaRow → Type 0
CanCountIn (More names bytes) quota = (quota.used_names + names < 2 ^ 64) × (1 ≤ bytes → quota.used_bytes + bytes < 2 ^ 64)
CanCountIn (Less names bytes) quota = ⊤

-- each of these quota rows can
abbrev pub CanCount : Change → List (InodeId × QuotaRow) → Type 0
CanCount (More names bytes) quotas = AllByRecursion (λ (q : InodeId × QuotaRow). CanCountIn (More names bytes) q.1) quotas
CanCount (Less names bytes) quotas = ⊤

-- one of the rows has this id
abbrev pub has_id : List (Key × Inode) → InodeId → Bool
has_id rows id = list_any (λ (r : Key × Inode). r.1.id.0 == id.0) rows

-- one of the writes is of this key
abbrev pub is_key_written : List (Key × Option Row) → Key → Bool
is_key_written writes k = list_any (λ (w : Key × Option Row). same_key k w.0) writes

-- the quota row of a directory with its id, unless it has none or was written
abbrev pub quota_left : InodeId → Option QuotaRow → Bool → List (InodeId × QuotaRow)
quota_left id None done = []
quota_left id (Some quota) true = []
quota_left id (Some quota) false = (id, quota) ∷ []

-- the directory is one of those found, and this is the quota row that was read of it
abbrev pub IsQuotaFound : List (Key × Inode) → List (InodeId × QuotaRow) → InodeId × QuotaRow → Type 0
IsQuotaFound rows seen q = (has_id rows q.0 ≡ true) × (quota_in seen q.0 ≡ Some q.1)

-- these are the quota rows, as they were read, of all the directories found but for those whose quota rows were written
pub record AreQuotasFound (rows : List (Key × Inode)) (seen : List (InodeId × QuotaRow)) (before : List (Key × Option Row))
    (quotas : List (InodeId × QuotaRow)) : Type 0 where
  pub each : AllByRecursion (IsQuotaFound rows seen) quotas
  pub all : (id : InodeId) (quota : QuotaRow) → has_id rows id ≡ true → quota_in seen id ≡ Some quota
      → list_any (same_key (key.Quota id)) (keys_of before) ≡ false → quota_rows.is_written quotas id ≡ true

-- after some writes come the quota rows of the directories found, each changed so
abbrev pub GoesOnCounted : List (Key × Option Row) → List (Key × Inode) → List (InodeId × QuotaRow) → (QuotaRow → QuotaRow)
    → List (Key × Option Row) → Type 0
GoesOnCounted before rows seen change writes =
    (quotas : List (InodeId × QuotaRow)) × (writes ≡ before ++ quota_writes change quotas) × AreQuotasFound rows seen before quotas
