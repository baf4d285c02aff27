-- What a commit makes of the tables and the book.
use Rattle.std.specs.Prelude.{ℕ, ◌+◌, max, List, [], ◌∷◌, ◌++◌, Option, Some, None}
use Rattle.std.specs.FinMap as map
use Rattle.hops_base.specs.declared.key.Key.{Key}
use Rattle.commit_log.specs.declared.note.Note.{Note}
use Rattle.db_state.specs.Settings.{Settings}
use Rattle.db_state.specs.Stored.{Stored, Tables}
use Rattle.db_state.specs.declared.writes.Row.{Row}
use Rattle.db_state.specs.declared.writes.Row.TheVariants as row

-- the rows once this key has this row or none
abbrev pub with_row : Tables → Key → Option Row → Tables
with_row tables at None = record { inodes = map.remove tables.inodes at; quotas = map.remove tables.quotas at }
with_row tables at (Some (row.Inode inode)) = record { inodes = map.insert tables.inodes at inode; quotas = tables.quotas }
with_row tables at (Some (row.Quota quota)) = record { inodes = tables.inodes; quotas = map.insert tables.quotas at quota }

-- the rows once each of these keys has its row or none
abbrev pub written : Tables → List (Key × Option Row) → Tables
written tables [] = tables
written tables (write ∷ writes) = written (with_row tables write.0 write.1) writes

-- the next free id once this row is there
abbrev pub next_with : ℕ → Option Row → ℕ
next_with next None = next
next_with next (Some (row.Inode inode)) = max next (inode.id.0 + 1)
next_with next (Some (row.Quota quota)) = next

-- the next free id once these rows are there
abbrev pub next_after : ℕ → List (Key × Option Row) → ℕ
next_after next [] = next
next_after next (write ∷ writes) = next_after (next_with next write.1) writes

-- the rows of all tables alone
abbrev pub tables_of : Stored → Tables
tables_of state = record { inodes = state.inodes; quotas = state.quotas }

-- all of it where these are the rows, the settings, the notes and the next free id
abbrev pub state_of : Tables → Settings → List Note → ℕ → Stored
state_of tables settings notes next = record { inodes = tables.inodes; quotas = tables.quotas; settings = settings; notes = notes; next = next }

-- all of it once these rows and notes are written
abbrev pub committed : Stored → List (Key × Option Row) → List Note → Stored
committed old writes notes = state_of (written (tables_of old) writes) old.settings (old.notes ++ notes) (next_after old.next writes)
