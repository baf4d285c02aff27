-- What always holds between the tables and the book. This project's own.
use Rattle.std.specs.Prelude.{◌≡◌, true, [], Option, Some, None, is_some, option_and_then}
use Rattle.std.specs.FinMap as map
use Rattle.hops_base.specs.declared.key.Key.{Key}
use Rattle.hops_base.specs.declared.ids.OpId.{OpId}
use Rattle.name_space.specs.Namespace.{IsNamespace}
use Rattle.inode_table.specs.declared.inode.Inode.{Inode}
use Rattle.commit_log.specs.Legal.{Legal, space}
use Rattle.db_state.specs.Stored.{Inodes, Stored}
use Rattle.db_state.specs.Spelled.{IsTree, IsNumbered}
use Rattle.db_state.specs.Stands.{Stands}
use Rattle.db_state.specs.Counts.{Counts}

-- no row bears the flag of an operation
abbrev pub IsUnflagged : Inodes → Type 0
IsUnflagged inodes = (at : Key) (row : Inode) → map.get inodes at ≡ Some row → row.flag ≡ None

-- the flag that the row of a key bears
abbrev pub flag_at : Inodes → Key → Option OpId
flag_at inodes at = option_and_then (λ (row : Inode). row.flag) (map.get inodes at)

-- each row bears the flag that the row of its key bore before, and a row of a new key bears none
abbrev pub FlagsStay : Inodes → Inodes → Type 0
FlagsStay old new = (at : Key) → is_some (map.get new at) ≡ true → flag_at new at ≡ flag_at old at

-- the rows spell a tree, with the ids that the history gives its paths; the history is legal, and leads to a namespace;
-- and the rows stand for that, with quota rows that count it; no operation runs yet, so no row bears a flag
pub record IsConsistent (state : Stored) : Type 0 where
  pub tree : IsTree state.inodes state.next
  pub numbered : IsNumbered state.inodes state.next state.settings.users state.notes
  pub legal : Legal state.settings.users state.notes
  pub names : IsNamespace (space state.settings.users state.notes)
  pub stands : Stands state.inodes state.quotas [] (space state.settings.users state.notes)
  pub counts : Counts state.inodes state.quotas (space state.settings.users state.notes)
  pub flags : IsUnflagged state.inodes
