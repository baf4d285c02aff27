-- The parts of the core's invariant on clients and on the book. This project's own.
use Rattle.std.specs.Prelude.{◌≡◌, ⊤, ℕ, ◌+◌, ◌*◌, ◌<◌, ◌≤◌, Bool, true, false, ◌&&◌, ◌==◌, nat_lt, List, length, Option, Some, None, IfSome, IsSomeAnd, slice_get}
use Rattle.std.specs.List.{list_any, sum_by, AllByRecursion}
use Rattle.std.specs.FinMap as map
use Rattle.hops_base.specs.declared.ids.ClientNo.{ClientNo}
use Rattle.hops_base.specs.declared.ids.SessionId.{SessionId}
use Rattle.hops_base.specs.Path.{most_path_names}
use Rattle.name_space.specs.Call.{is_valid}
use Rattle.name_space.specs.Script.{most_calls}
use Rattle.commit_log.specs.declared.note.Note.{Note}
use Rattle.commit_log.specs.declared.note.Note.TheVariants.{Open, Did, Wrote, Cut, Met, Gone}
use Rattle.commit_log.specs.Along.{Each}
use Rattle.commit_log.specs.Terms.{Terms}
use Rattle.commit_log.specs.Orderly.{OrderlyBy}
use Rattle.commit_log.specs.Locks.{Sound}
use Rattle.commit_log.specs.Licensed.{Licensed}
use Rattle.commit_log.specs.Kept.{answers_after, InOrderAt, AnswersHeld}
use Rattle.db_state.specs.declared.session.Seat.{Seat}
use Rattle.db_state.specs.declared.session.Session.{Session}
use Rattle.db_state.specs.Settings.{Settings}
use Rattle.db_state.specs.Stages.{is_over}
use Rattle.db_state.specs.State.{Sessions}
use Rattle.std.specs.Option.{IsSomeAnd}
use Rattle.commit_log.specs.declared.note.Cause.TheVariants.{Flagged, Lost}

-- the terms of a run with these settings: its clients may make any valid call, at its namenodes
abbrev pub terms_in : Settings → Terms
terms_in settings = record {
  has_call = λ client number. (client.0 < length settings.users) × (1 ≤ number) × (number ≤ most_calls);
  asks = λ client number call. is_valid call ≡ true;
  has_node = λ node. node.0 < settings.namenodes;
}

-- the session sits in its client's seat; where it is open, its number is the one begun last, and wasn't answered
pub record IsSeated (seats : List Seat) (s : SessionId) (session : Session) : Type 0 where
  pub seat : Seat
  pub there : slice_get seats session.client.0 ≡ Some seat
  pub last : seat.last ≡ Some s
  pub number : is_over session.stage ≡ false → seat.begun ≡ session.number
  pub low : is_over session.stage ≡ false → seat.answered < session.number

-- the note opens a session of the client for a call after this number
abbrev pub opens_after : ClientNo → ℕ → Note → Bool
opens_after client number (Open t c q node) = (c.0 == client.0) && nat_lt number q
opens_after client number note = false

-- the note opens a session of the client that isn't this one or one before it
abbrev pub opens_past : ClientNo → Option SessionId → Note → Bool
opens_past client None (Open t c q node) = c.0 == client.0
opens_past client (Some s) (Open t c q node) = (c.0 == client.0) && nat_lt s.0 t.0
opens_past client last note = false

-- the book tells of a client no call after the last that was begun, no answer after the last that was given, and no session after
-- its last one; and that one is there and is this client's
pub record IsSeat (sessions : Sessions) (notes : List Note) (client : ClientNo) (seat : Seat) : Type 0 where
  pub opens : list_any (opens_after client seat.begun) notes ≡ false
  pub answers : list_any (answers_after client seat.answered) notes ≡ false
  pub last : list_any (opens_past client seat.last) notes ≡ false
  pub there : IfSome seat.last (λ s. IsSomeAnd (map.get sessions s.0) (λ doing. doing.client ≡ client))

-- every client has a seat, of which the book tells; no more calls were answered than begun, and no more begun than there may be;
-- and each session sits in a seat
pub record AreSeats (users : List (List ℕ)) (seats : List Seat) (sessions : Sessions) (notes : List Note) : Type 0 where
  pub each : length seats ≡ length users
  pub numbers : AllByRecursion (λ (seat : Seat). (seat.answered ≤ seat.begun) × (seat.begun ≤ most_calls)) seats
  pub told : (client : ClientNo) (seat : Seat) → slice_get seats client.0 ≡ Some seat → IsSeat sessions notes client seat
  pub seated : (s : SessionId) (session : Session) → map.get sessions s.0 ≡ Some session → IsSeated seats s session

-- a call makes no more new inodes than its paths have names, and it has two paths at most
abbrev pub most_new_ids : ℕ
most_new_ids = 2 * most_path_names

-- each answered call took no more ids than one may, so ids don't run out
abbrev pub AreIdsLeft : List Seat → ℕ → Type 0
AreIdsLeft seats next = next ≤ 2 + most_new_ids * sum_by (λ (seat : Seat). seat.answered) seats

-- an Open's number is none before that of an earlier Open of its client
abbrev pub NeverFallsAt : List Note → Note → Type 0
NeverFallsAt before (Open s client number node) = list_any (opens_after client number) before ≡ false
NeverFallsAt before note = ⊤

-- whoever answers is its client's last session
abbrev pub IsLastAt : List Note → Note → Type 0
IsLastAt before (Did s client number call reads reply) = list_any (opens_past client (Some s)) before ≡ false
IsLastAt before note = ⊤

-- the note is of an operation, or of a namenode that is gone: of what isn't built yet
abbrev pub is_beyond : Note → Bool
is_beyond (Wrote s work) = true
is_beyond (Cut op path gone) = true
is_beyond (Met s (Flagged op)) = true
is_beyond (Met s (Lost op)) = true
is_beyond (Gone node ended) = true
is_beyond note = false

-- the book is orderly and explained: what was met was there, locks conflict with none and rise, a client's call numbers never
-- fall, whoever answers is its client's last session, and it holds the keys of its paths; and there is no operation in it, and no
-- namenode that is gone
pub record IsBook (settings : Settings) (notes : List Note) : Type 0 where
  pub orderly : OrderlyBy (terms_in settings) notes
  pub sound : Sound notes
  pub licensed : Licensed notes
  pub in_order : Each InOrderAt notes
  pub never_falls : Each NeverFallsAt notes
  pub last : Each IsLastAt notes
  pub within : list_any is_beyond notes ≡ false
  pub held : AnswersHeld settings.users notes
