-- The quota rule, after the HDFS quotas guide; the order of its tests is this project's own.
use Rattle.std.specs.Prelude.{ℕ, ◌+◌, Bool, ◌&&◌, not, nat_lt, if◌then◌else◌, List, map, Option, Some, None}
use Rattle.std.specs.List.{filter}
use Rattle.std.specs.Option.{option_or}
pub use Rattle.hops_base.specs.First.{first_some}
use Rattle.hops_base.specs.Path.{is_below}
use Rattle.name_space.specs.declared.entry.Entry.{Entry}
use Rattle.name_space.specs.declared.entry.Entry.TheVariants.{Dir, File}
use Rattle.name_space.specs.declared.reply.Exception.{Exception}
use Rattle.name_space.specs.declared.reply.Exception.TheVariants.{NSQuotaExceeded, DSQuotaExceeded}
use Rattle.name_space.specs.Namespace.{Namespace, Path, entry_at, used_names, used_bytes, above}

-- something is added to what is used, and the sum passes the limit
abbrev pub exceeds : ℕ → ℕ → ℕ → Bool
exceeds used more limit = nat_lt 0 more && nat_lt limit (used + more)

-- a quota refuses where there is a limit that would be passed; the refusal tells what is used, and the limit
abbrev pub refused_over : (ℕ → ℕ → Exception) → ℕ → ℕ → Option ℕ → Option Exception
refused_over refusal used more None = None
refused_over refusal used more (Some limit) = if exceeds used more limit then Some (refusal used limit) else None

-- the directory at a path refuses so many names and bytes more by its quota on names, and else by that on bytes; anything
-- other than a directory refuses nothing
abbrev pub refused_by : Namespace → ℕ → ℕ → Path → Option Entry → Option Exception
refused_by space names bytes at None = None
refused_by space names bytes at (Some (File len writer mode owner)) = None
refused_by space names bytes at (Some (Dir mode owner max_names max_bytes)) =
    option_or (refused_over (NSQuotaExceeded at) (used_names space at) names max_names) (refused_over (DSQuotaExceeded at) (used_bytes space at) bytes max_bytes)

-- the refusal of the first of these directories that has no room for so many names and bytes more
abbrev pub over_quota : Namespace → ℕ → ℕ → List Path → Option Exception
over_quota space names bytes dirs = first_some (map (λ (at : Path). refused_by space names bytes at (entry_at space at)) dirs)

-- the directories that count for what is moved from one path to another: those above the second and not above the first
abbrev pub newly_above : Path → Path → List Path
newly_above source target = filter (λ (up : Path). not (is_below source up)) (above target)
