-- The kinds of change of all that the core keeps, and what each must show. This project's own.
use Rattle.std.specs.Prelude.{◌≡◌, ℕ, ◌+◌, ◌<◌, ◌≤◌, true, false, ◌==◌, if◌then◌else◌, List, [], ◌∷◌, length, Option, Some, None, IfSome, slice_get, slice_set, unwrap_or, Bool}
use Rattle.std.specs.List.{AllByRecursion}
use Rattle.std.specs.FinMap as map
use Rattle.hops_base.specs.Ids.{session}
use Rattle.hops_base.specs.Roomy.{Roomy}
use Rattle.hops_base.specs.declared.ids.ClientNo.{ClientNo}
use Rattle.hops_base.specs.declared.ids.NodeNo.{NodeNo}
use Rattle.hops_base.specs.declared.ids.SessionId.{SessionId}
use Rattle.hops_base.specs.declared.ids.Mode.{Mode}
use Rattle.hops_base.specs.declared.key.Key.{Key}
use Rattle.name_space.specs.declared.call.Call.{Call}
use Rattle.name_space.specs.declared.reply.Reply.{Reply}
use Rattle.name_space.specs.Call.{is_valid, changes}
use Rattle.name_space.specs.Script.{most_calls}
use Rattle.row_locks.specs.Locks.{IsFree, IsLeastInTheWay, IsGivenBack}
use Rattle.commit_log.specs.declared.note.Note.{Note}
use Rattle.commit_log.specs.declared.note.Note.TheVariants.{Open, Took, Gave, Did, Met}
use Rattle.commit_log.specs.declared.note.Cause.TheVariants.{Locked, Changed}
use Rattle.commit_log.specs.Orderly.{openings}
use Rattle.commit_log.specs.Kept.{AnswersHeldAt}
use Rattle.db_state.specs.declared.session.Seat.{Seat}
use Rattle.db_state.specs.declared.session.Session.{Session}
use Rattle.db_state.specs.declared.session.Stage.{Stage}
use Rattle.db_state.specs.declared.session.Stage.TheVariants.{Resolve, Lock, Read, Commit, Answered}
use Rattle.db_state.specs.declared.writes.Row.{Row}
use Rattle.db_state.specs.Stored.{Stored}
use Rattle.db_state.specs.State.{Sessions, State, empty_seat}
use Rattle.db_state.specs.Written.{committed, next_after}
use Rattle.db_state.specs.Consistent.{IsConsistent}
use Rattle.db_state.specs.Locked.{MayWrite}
use Rattle.db_state.specs.Effects.{KeepsRows}
use Rattle.db_state.specs.Reads.{Reads, locked_by}
use Rattle.db_state.specs.Stages.{is_over, keys_in, next_key}
use Rattle.db_state.specs.SessionParts.{asked_in, IsReading, IsAsFound}
use Rattle.db_state.specs.BookParts.{most_new_ids}
use Rattle.db_state.specs.Moves.{GoesOn, IsReadAsFound, since_after, reads_after, IsTrail}
use Rattle.commit_log.specs.Locks.{held}

-- one note more
abbrev pub noted : Stored → Note → Stored
noted stored note = committed stored [] (note ∷ [])

-- a session put under its number
abbrev pub with_session : Sessions → SessionId → Session → Sessions
with_session sessions s doing = map.insert sessions s.0 doing

-- the seat of a client
abbrev pub seat_of : List Seat → ClientNo → Seat
seat_of seats client = unwrap_or (slice_get seats client.0) empty_seat

-- ---- a session is opened

-- a list without items and without room
abbrev pub no_items : {A : Type 0} → Roomy A
no_items = record { items = []; room = 0 }

-- the start of an attempt: nothing was found yet
abbrev pub start : Stage
start = Resolve no_items no_items

-- a session as it is opened, by the note of this number
abbrev pub new_session : ClientNo → ℕ → Call → NodeNo → ℕ → Session
new_session client number call node opened =
    record { client = client; number = number; call = call; node = node; opened = opened; since = opened + 1; reads = 0; is_first = true; used_hints = false; trail = no_items; stage = start }

-- the sessions without a client's last one
abbrev pub without_last : Sessions → Option SessionId → Sessions
without_last sessions None = sessions
without_last sessions (Some last) = map.remove sessions last.0

-- the number that the next session gets
abbrev pub next_session : State → SessionId
next_session state = session (openings state.stored.notes + 1)

-- all of it once the session is opened
abbrev pub opened_by : State → ClientNo → ℕ → Call → NodeNo → State
opened_by old client number call node = record {
  stored = noted old.stored (Open (next_session old) client number node);
  locks = old.locks;
  seats = slice_set old.seats client.0 (record (seat_of old.seats client) { begun = number; last = Some (next_session old) });
  sessions = with_session (without_last old.sessions (seat_of old.seats client).last) (next_session old)
      (new_session client number call node (length old.stored.notes));
}

-- the client has no open session
abbrev pub HasNoOpen : State → ClientNo → Type 0
HasNoOpen state client = IfSome (seat_of state.seats client).last (λ s. IfSome (map.get state.sessions s.0) (λ last. is_over last.stage ≡ true))

-- all of it once the client's next call is counted, though no session was opened for it
abbrev pub begun_by : State → ClientNo → ℕ → State
begun_by old client number = record old { seats = slice_set old.seats client.0 (record (seat_of old.seats client) { begun = number }) }

-- client and namenode exist, the client has no open session, and it makes a valid call, the next one by number, of no more than
-- a client may make
pub record CanOpen (state : State) (client : ClientNo) (number : ℕ) (call : Call) (node : NodeNo) : Type 0 where
  pub client_there : client.0 < length state.stored.settings.users
  pub node_there : node.0 < state.stored.settings.namenodes
  pub idle : HasNoOpen state client
  pub next : number ≡ (seat_of state.seats client).begun + 1
  pub few : number ≤ most_calls
  pub valid : is_valid call ≡ true

-- ---- a session goes on

-- the session is there and hasn't ended
pub record IsRunning (state : State) (s : SessionId) (doing : Session) : Type 0 where
  pub there : map.get state.sessions s.0 ≡ Some doing
  pub running : is_over doing.stage ≡ false

-- a session that has taken the next of its keys: with the last of them it comes to read
abbrev pub one_more : Stage → Stage
one_more (Lock places plan taken) = if taken + 1 == length plan then Read places plan else Lock places plan (taken + 1)
one_more stage = stage

-- all of it once a session has taken this key, its next
abbrev pub taken_by : State → SessionId → Session → Key × Mode → State
taken_by old s doing k = record {
  stored = noted old.stored (Took s k.0 k.1);
  locks = map.insert old.locks (s.0, k.0) k.1;
  seats = old.seats;
  sessions = with_session old.sessions s (record doing { stage = one_more doing.stage });
}

-- the session asks for this key next, and nobody keeps it away
pub record CanTake (state : State) (s : SessionId) (doing : Session) (k : Key × Mode) : Type 0 where
  pub there : map.get state.sessions s.0 ≡ Some doing
  pub next : next_key doing.stage ≡ Some k
  pub free : IsFree state.locks s k.0 k.1

-- all of it once a session has met a lock of h on this key
abbrev pub met_by : State → SessionId → Key × Mode → SessionId → State
met_by old s k h = record old { stored = noted old.stored (Met s (Locked k.0 k.1 h)) }

-- the session asks for this key next, and h is the least that keeps it away
pub record CanMeet (state : State) (s : SessionId) (doing : Session) (k : Key × Mode) (h : SessionId) : Type 0 where
  pub there : map.get state.sessions s.0 ≡ Some doing
  pub next : next_key doing.stage ≡ Some k
  pub busy : IsLeastInTheWay state.locks s k.0 k.1 h

-- all of it once a session is this, without a note
abbrev pub moved_by : State → SessionId → Session → State
moved_by old s doing = record old { sessions = with_session old.sessions s doing }

-- the session runs and goes on from stage to stage; what is counted of its reads and told of its resolution is as the stages say;
-- what it has read is as its new stage says; and of what it has found nothing was changed but by another's commit since
pub record CanMove (state : State) (s : SessionId) (old new : Session) : Type 0 where
  pub runs : IsRunning state s old
  pub goes : GoesOn state.stored.inodes old.stage new.stage
  pub same : new ≡ record old { since = since_after old.stage old.since (length state.stored.notes); reads = reads_after old.stage new.stage old.reads; trail = new.trail; stage = new.stage }
  pub trail : IsTrail old.stage new.stage old.trail.items new.trail.items
  pub reading : IsReading state.stored.inodes state.stored.quotas (held state.stored.notes) s new new.stage
  pub found : IsAsFound state.stored.inodes state.stored.notes s new

-- ---- a session gives its locks back

-- the book once a session has given these keys back: with a note, if there are any
abbrev pub given_stored : Stored → SessionId → List (Key × Mode) → Stored
given_stored stored s [] = stored
given_stored stored s (k ∷ keys) = noted stored (Gave s)

-- a session gives back what it holds, and begins an attempt or ends at this stage
pub record Gives (old new : State) (s : SessionId) (doing : Session) (stage : Stage) : Type 0 where
  pub stored : new.stored ≡ given_stored old.stored s (keys_in doing.stage)
  pub locks : IsGivenBack s old.locks new.locks
  pub seats : new.seats ≡ old.seats
  pub sessions : new.sessions ≡ with_session old.sessions s (record doing { is_first = false; used_hints = false; since = length new.stored.notes; stage = stage })

-- a session gives back what it holds, tells that what it had found was changed since its attempt began to read, and begins anew
pub record Changes (old new : State) (s : SessionId) (doing : Session) : Type 0 where
  pub stored : new.stored ≡ noted (given_stored old.stored s (keys_in doing.stage)) (Met s (Changed doing.since))
  pub locks : IsGivenBack s old.locks new.locks
  pub seats : new.seats ≡ old.seats
  pub sessions : new.sessions ≡ with_session old.sessions s (record doing { is_first = false; used_hints = false; since = length new.stored.notes; stage = start })

-- the session runs, and what it reads next isn't as it was found; its attempt may have used hints, or not
pub record CanChange (state : State) (s : SessionId) (doing : Session) (hinted : Bool) : Type 0 where
  pub runs : IsRunning state s doing
  pub differs : IsReadAsFound state.stored doing.stage → ⊥
  pub by_hints : doing.used_hints ≡ hinted

-- ---- a session answers

-- all of it once a session has answered so, with these rows written
pub record Completes (old new : State) (s : SessionId) (doing : Session) (writes : List (Key × Option Row)) (reply : Reply) : Type 0 where
  pub stored : new.stored ≡ committed old.stored writes (Did s doing.client doing.number doing.call doing.reads reply ∷ [])
  pub locks : IsGivenBack s old.locks new.locks
  pub seats : new.seats ≡ slice_set old.seats doing.client.0 (record (seat_of old.seats doing.client) { answered = doing.number })
  pub sessions : new.sessions ≡ with_session old.sessions s (record doing { stage = Answered })

-- a session that answers has come to its Commit, where all that it found is reread; rows and book are consistent with its writes
-- and its answer, and it takes few new ids; a call that only looks writes nothing; it writes what it has locked Exclusive, and keeps
-- the rows that others have read; and it holds the keys of its paths
pub record CanAnswer (state : State) (s : SessionId) (doing : Session) (reads : Reads) (keys : List (Key × Mode)) (writes : List (Key × Option Row)) (reply : Reply) : Type 0 where
  pub there : map.get state.sessions s.0 ≡ Some doing
  pub stage : doing.stage ≡ Commit reads keys
  pub consistent : IsConsistent (committed state.stored writes (Did s doing.client doing.number doing.call doing.reads reply ∷ []))
  pub few : next_after state.stored.next writes ≤ state.stored.next + most_new_ids
  pub looks : changes doing.call ≡ false → writes ≡ []
  pub own : AllByRecursion (MayWrite (locked_by (asked_in doing) reads) state.stored.next) writes
  pub keeps : KeepsRows (locked_by (asked_in doing) reads) state.stored.next None state.stored.inodes (committed state.stored writes []).inodes
  pub held : AnswersHeldAt state.stored.settings.users state.stored.notes (Did s doing.client doing.number doing.call doing.reads reply)
