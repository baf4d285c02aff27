-- What the core tells of a session. This project's own.
use Rattle.std.specs.Prelude.{◌≡◌, ℕ, ◌+◌, ◌≤◌, List, Some}
use Rattle.std.specs.FinMap as map
use Rattle.hops_base.specs.declared.hint.Hint.{Hint}
use Rattle.hops_base.specs.declared.ids.SessionId.{SessionId}
use Rattle.name_space.specs.Script.{most_calls}
use Rattle.db_state.specs.declared.session.Phase.{Phase}
use Rattle.db_state.specs.declared.session.Seat.{Seat}
use Rattle.db_state.specs.declared.session.Session.{Session}
use Rattle.db_state.specs.Callers.{IsOpen}
use Rattle.db_state.specs.Stages.{phase_of}
use Rattle.db_state.specs.State.{State}

-- this is the phase of the session that is there
abbrev pub IsPhaseOf : State → SessionId → Phase → Type 0
IsPhaseOf state s phase = (doing : Session) → map.get state.sessions s.0 ≡ Some doing → phase ≡ phase_of doing.stage

-- this is the trail of the session that is there
abbrev pub IsTrailOf : State → SessionId → List Hint → Type 0
IsTrailOf state s trail = (doing : Session) → map.get state.sessions s.0 ≡ Some doing → trail ≡ doing.trail.items

-- the last session of this seat is open
abbrev pub HasOpen : State → Seat → Type 0
HasOpen state seat = (s : SessionId) × (seat.last ≡ Some s) × IsOpen state s

-- a client with this seat may begin a call of this number next
abbrev pub IsNext : Seat → ℕ → Type 0
IsNext seat number = (number ≡ seat.begun + 1) × (number ≤ most_calls)
