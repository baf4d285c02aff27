-- What a quota row answers.
use Rattle.std.specs.Prelude.{◌≡◌, ℕ, Bool, true, false, Option, Some, None}
use Rattle.name_space.specs.Quota.{exceeds}
use Rattle.quota_table.specs.declared.quota.QuotaRow.{QuotaRow}
use Rattle.quota_table.specs.declared.quota.Fit.{Fit}
use Rattle.quota_table.specs.declared.quota.Fit.TheVariants.{Fits, Names, Bytes}

-- there is a limit, and it would be passed
abbrev pub is_passed : ℕ → ℕ → Option ℕ → Bool
is_passed used more None = false
is_passed used more (Some limit) = exceeds used more limit

-- the limit is this one, and it would be passed; what is used is told
abbrev pub IsPassed : ℕ → ℕ → Option ℕ → ℕ → ℕ → Type 0
IsPassed used more limit told_used told_limit = (limit ≡ Some told_limit) × (told_used ≡ used) × (exceeds used more told_limit ≡ true)

-- what is answered to so many names and bytes more: names first, then bytes
abbrev pub IsFit : QuotaRow → ℕ → ℕ → Fit → Type 0
IsFit row names bytes Fits = (is_passed row.used_names names row.max_names ≡ false) × (is_passed row.used_bytes bytes row.max_bytes ≡ false)
IsFit row names bytes (Names used limit) = IsPassed row.used_names names row.max_names used limit
IsFit row names bytes (Bytes used limit) = (is_passed row.used_names names row.max_names ≡ false) × IsPassed row.used_bytes bytes row.max_bytes used limit
