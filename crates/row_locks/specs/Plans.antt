-- The plan by which a session takes its locks. This project's own.
use Rattle.std.specs.Prelude.{◌≡◌, Bool, not, ◌&&◌, if◌then◌else◌, List, Option, Some, None}
use Rattle.std.specs.Borrow.{Bor}
use Rattle.std.specs.List.{list_any}
use Rattle.std.specs.List.Sorted.{IsStrictlySortedBy}
use Rattle.std.specs.Map.{lookup, keys_of}
use Rattle.hops_base.specs.declared.ids.Mode.{Mode}
use Rattle.hops_base.specs.declared.ids.Mode.TheVariants.{Shared, Exclusive}
use Rattle.hops_base.specs.declared.key.Key.{Key}
use Rattle.hops_base.specs.Key.{key_cmp, same_key}
use Rattle.row_locks.specs.Locks.{is_shared}

-- the pair is of the key
abbrev pub is_of_key : Key → Key × Mode → Bool
is_of_key key pair = same_key key pair.0

-- the pair is of the key, and Exclusive
abbrev pub is_exclusive_of : Key → Key × Mode → Bool
is_exclusive_of key pair = same_key key pair.0 && not (is_shared pair.1)

-- the mode in which a key is wanted: Exclusive where some pair of it is, else Shared where there is one, and else none
abbrev pub wanted_mode : List (Key × Mode) → Key → Option Mode
wanted_mode wanted key = if list_any (is_exclusive_of key) wanted then Some Exclusive else (if list_any (is_of_key key) wanted then Some Shared else None)

-- the mode in which the plan has a key, if it has it
abbrev pub planned_mode : List (Key × Mode) → Key → Option Mode
planned_mode plan key = lookup (same_key key) plan

-- the keys rise strictly
abbrev pub IsRising : List (Key × Mode) → Type 0
IsRising plan = IsStrictlySortedBy key_cmp (keys_of plan)

-- the plan has the wanted keys and no other, each once, rising, and in the mode in which it is wanted
pub record IsPlan (wanted plan : List (Key × Mode)) : Type 0 where
  pub rising : IsRising plan
  pub modes : (key : Key) → planned_mode plan key ≡ wanted_mode wanted key

-- the key and the mode of a place of a plan
abbrev pub place_seen : Bor Key × Mode → Key × Mode
place_seen place = (place.0.now, place.1)

-- Exclusive, where one of the two is
abbrev pub stronger : Mode → Mode → Mode
stronger Shared mode = mode
stronger Exclusive mode = Exclusive
