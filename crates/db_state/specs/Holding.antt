-- Which keys a session holds, and what of a session holds between its steps once it holds its plan. This project's own.
use Rattle.std.specs.Prelude.{◌≡◌, Bool, true, ◌&&◌, List}
use Rattle.std.specs.List.{list_any}
use Rattle.hops_base.specs.declared.ids.Mode.{Mode}
use Rattle.hops_base.specs.declared.ids.SessionId.{SessionId}
use Rattle.hops_base.specs.declared.key.Key.{Key}
use Rattle.hops_base.specs.Key.{same_key}
use Rattle.commit_log.specs.declared.note.Note.{Note}
use Rattle.commit_log.specs.Parts.{Taking}
use Rattle.commit_log.specs.Lasting.{StaysAt}
use Rattle.commit_log.specs.Locks.{is_of, held}
use Rattle.db_state.specs.Stored.{Inodes, Quotas, Stored}
use Rattle.db_state.specs.Current.{is_locked}
use Rattle.db_state.specs.Locked.{is_exclusive, is_own}
use Rattle.db_state.specs.Reads.{Asked, Reads, locked_by, AreReads, ReadsStand}

-- ---- locks

-- by this lock the session holds the key
abbrev pub locks_key : SessionId → Key → Taking → Bool
locks_key s at lock = is_of s lock && same_key at lock.key

-- by this lock it holds the key Exclusive
abbrev pub locks_alone : SessionId → Key → Taking → Bool
locks_alone s at lock = locks_key s at lock && is_exclusive lock.mode

-- the session holds all these keys, and Exclusive those that are to be held so
pub record HoldsAll (locks : List Taking) (s : SessionId) (locked : List (Key × Mode)) : Type 0 where
  pub any : (at : Key) → is_locked locked at ≡ true → list_any (locks_key s at) locks ≡ true
  pub own : (at : Key) → is_own locked at ≡ true → list_any (locks_alone s at) locks ≡ true

-- these keys, in whatever order, are those that are locked, and Exclusive where those are
pub record AreSameLocks (keys locked : List (Key × Mode)) : Type 0 where
  pub any : (at : Key) → is_locked locked at ≡ is_locked keys at
  pub own : (at : Key) → is_own locked at ≡ is_own keys at

-- the note, with those before it, gives back no lock of the session
abbrev pub Leaves : List Note → SessionId → Note → Type 0
Leaves before s note = (lock : Taking) → is_of s lock ≡ true → StaysAt lock before note

-- ---- sessions

-- a session whose reads are those of its call holds the keys that the call locks, and its reads stand
pub record SessionStands (inodes : Inodes) (quotas : Quotas) (locks : List Taking) (s : SessionId) (asked : Asked) (seen : Reads) : Type 0 where
  pub reads : AreReads asked seen
  pub holds : HoldsAll locks s (locked_by asked seen)
  pub stand : ReadsStand inodes quotas (locked_by asked seen) seen

-- it does so in the tables and by the book
abbrev pub StandsIn : Stored → SessionId → Asked → Reads → Type 0
StandsIn state s asked seen = SessionStands state.inodes state.quotas (held state.notes) s asked seen
