-- Sessions, keys and tables for the worked examples.
use Rattle.std.specs.Prelude.{ℕ, List, [], ◌∷◌}
use Rattle.std.specs.FinMap as map
use Rattle.hops_base.specs.declared.ids.SessionId.{SessionId}
use Rattle.hops_base.specs.declared.ids.Mode.{Mode}
use Rattle.hops_base.specs.declared.ids.Mode.TheVariants.{Shared, Exclusive}
use Rattle.hops_base.specs.declared.key.Key.{Key}
use Rattle.hops_base.specs.declared.key.Key.TheVariants.{Quota, Gate}
use Rattle.row_locks.specs.Locks.{Locks}

-- the session of a number
abbrev pub session : ℕ → SessionId
session n = record { 0 = n }

-- a key
abbrev pub low : Key
low = Quota (record { 0 = 5 })

-- a key above it
abbrev pub high : Key
high = Gate

-- the table of these locks
abbrev pub table_of : List (ℕ × Key × Mode) → Locks
table_of [] = map.empty
table_of ((n, key, mode) ∷ locks) = map.insert (table_of locks) (n, key) mode

-- session 1 shares a key
abbrev pub one_shares : List (ℕ × Key × Mode)
one_shares = (1, low, Shared) ∷ []

-- so does session 2
abbrev pub two_share : List (ℕ × Key × Mode)
two_share = (2, low, Shared) ∷ one_shares

-- session 1 has it alone
abbrev pub one_alone : List (ℕ × Key × Mode)
one_alone = (1, low, Exclusive) ∷ []

-- and session 1 has another key alone
abbrev pub two_keys : List (ℕ × Key × Mode)
two_keys = (1, high, Exclusive) ∷ two_share
