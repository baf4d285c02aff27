-- What an event of a session leaves as it was. This project's own.
use Rattle.std.specs.Prelude.{◌≡◌, ◌≢◌, ◌≤◌, ⊤, Bool, true, false, List, ◌++◌, slice_get, Some}
use Rattle.std.specs.FinMap as map
use Rattle.std.specs.List.{AllByRecursion, count_by, list_any}
use Rattle.hops_base.specs.declared.ids.ClientNo.{ClientNo}
use Rattle.hops_base.specs.declared.ids.SessionId.{SessionId}
use Rattle.hops_base.specs.declared.key.Key.{Key}
use Rattle.row_locks.specs.Locks.{mode_of}
use Rattle.commit_log.specs.declared.note.Note.{Note}
use Rattle.commit_log.specs.declared.note.Note.TheVariants.{Took, Did}
use Rattle.commit_log.specs.Parts.{actor, is_commit}
use Rattle.db_state.specs.declared.session.Session.{Session}
use Rattle.db_state.specs.State.{State}
use Rattle.db_state.specs.Steps.{IsRunning}

-- the note takes a lock
abbrev pub is_took : Note → Bool
is_took (Took s key mode) = true
is_took note = false

-- where the note answers, it is the session's call that is answered, with the session's count of reads
abbrev pub IsOfSession : Session → Note → Type 0
IsOfSession doing (Did s client number call reads reply) = (client ≡ doing.client) × (number ≡ doing.number) × (call ≡ doing.call) × (reads ≡ doing.reads)
IsOfSession doing note = ⊤

-- the event writes notes of its session alone, with at most one lock taken and one commit; rows change only with a commit; an
-- answer is to the session's call; the settings stay; and so does all that is another session's or another client's
pub record Follows (old new : State) (s : SessionId) (doing : Session) : Type 0 where
  pub added : List Note
  pub notes : new.stored.notes ≡ old.stored.notes ++ added
  pub own : AllByRecursion (λ (note : Note). actor note ≡ Some s) added
  pub tooks : count_by is_took added ≤ 1
  pub commits : count_by is_commit added ≤ 1
  pub rows : list_any is_commit added ≡ false → (new.stored.inodes ≡ old.stored.inodes) × (new.stored.quotas ≡ old.stored.quotas)
  pub answer : AllByRecursion (IsOfSession doing) added
  pub settings : new.stored.settings ≡ old.stored.settings
  pub locks : (t : SessionId) (at : Key) → t.0 ≢ s.0 → mode_of new.locks t at ≡ mode_of old.locks t at
  pub others : (t : SessionId) → t.0 ≢ s.0 → map.get new.sessions t.0 ≡ map.get old.sessions t.0
  pub seats : (client : ClientNo) → client.0 ≢ doing.client.0 → slice_get new.seats client.0 ≡ slice_get old.seats client.0

-- of whichever session it is
abbrev pub LeavesOthers : State → State → SessionId → Type 0
LeavesOthers old new s = (doing : Session) → IsRunning old s doing → Follows old new s doing
