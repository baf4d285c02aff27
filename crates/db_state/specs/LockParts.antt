-- The part of the core's invariant on locks: they are the book's, and those of the sessions' plans. This project's own.
use Rattle.std.specs.Prelude.{◌≡◌, Bool, true, false, ◌&&◌, List, [], Option, Some, None}
use Rattle.std.specs.List.{list_any}
use Rattle.std.specs.FinMap as map
use Rattle.hops_base.specs.declared.ids.SessionId.{SessionId}
use Rattle.hops_base.specs.declared.ids.Mode.{Mode}
use Rattle.hops_base.specs.declared.ids.Mode.TheVariants.{Shared, Exclusive}
use Rattle.hops_base.specs.declared.key.Key.{Key}
use Rattle.hops_base.specs.Key.{same_key}
use Rattle.row_locks.specs.Locks.{Locks, mode_of}
use Rattle.row_locks.specs.Plans.{planned_mode}
use Rattle.commit_log.specs.declared.note.Note.{Note}
use Rattle.commit_log.specs.Parts.{Taking, passes}
use Rattle.commit_log.specs.Locks.{is_of, held}
use Rattle.db_state.specs.declared.session.Session.{Session}
use Rattle.db_state.specs.State.{Sessions}
use Rattle.db_state.specs.Stages.{keys_in}

-- the modes are one
abbrev pub same_mode : Mode → Mode → Bool
same_mode Shared Shared = true
same_mode Shared Exclusive = false
same_mode Exclusive Shared = false
same_mode Exclusive Exclusive = true

-- the lock is the session's, on this key and in this mode
abbrev pub is_lock : SessionId → Key → Mode → Taking → Bool
is_lock s key mode lock = is_of s lock && (same_key key lock.key && same_mode mode lock.mode)

-- the locks of the table are those of the book, holder by holder
abbrev pub AreOfBook : Locks → List Note → Type 0
AreOfBook locks notes = (s : SessionId) (key : Key) (mode : Mode) → list_any (is_lock s key mode) (held notes) ≡ passes (same_mode mode) (mode_of locks s key)

-- the keys that a session holds, if there is one
abbrev pub keys_of_session : Option Session → List (Key × Mode)
keys_of_session None = []
keys_of_session (Some session) = keys_in session.stage

-- every session holds the keys of its plan that it has come to, and nobody holds any other
abbrev pub AreOfSessions : Locks → Sessions → Type 0
AreOfSessions locks sessions = (s : SessionId) (key : Key) → mode_of locks s key ≡ planned_mode (keys_of_session (map.get sessions s.0)) key
