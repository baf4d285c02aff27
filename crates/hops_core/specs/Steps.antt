-- What a step of a session must find, and what its parts tell. This project's own.
use Rattle.std.specs.Prelude.{◌≡◌, length, Some}
use Rattle.hops_base.specs.declared.ids.Mode.{Mode}
use Rattle.hops_base.specs.declared.key.Key.{Key}
use Rattle.hops_base.specs.declared.ids.SessionId.{SessionId}
use Rattle.db_state.specs.declared.session.Phase.{Phase}
use Rattle.db_state.specs.declared.session.Session.{Session}
use Rattle.db_state.specs.Callers.{asked_key}
use Rattle.db_state.specs.Stages.{phase_of}
use Rattle.db_state.specs.State.{State}
use Rattle.db_state.specs.Steps.{met_by, IsRunning}
use Rattle.hops_core.specs.declared.progress.Progress.{Progress}
use Rattle.hops_core.specs.declared.progress.Progress.TheVariants.{Met, NoMemory}
use Rattle.hops_core.specs.Reading.{MeetsChange}
use Rattle.hops_core.specs.Steady.{IsSteady}

-- the session runs, and is in this phase; and all sessions are steady
pub record IsAt (state : State) (s : SessionId) (phase : Phase) : Type 0 where
  pub doing : Session
  pub runs : IsRunning state s doing
  pub here : phase_of doing.stage ≡ phase
  pub steady : IsSteady state

-- this is the phase of the session that runs
abbrev pub IsPhase : State → SessionId → Phase → Type 0
IsPhase state s phase = (doing : Session) → IsRunning state s doing → phase ≡ phase_of doing.stage

-- the session has met this holder, unless memory ran out
abbrev pub IsMeeting : State → SessionId → SessionId → Progress → State → Type 0
IsMeeting old s holder (Met i) new = ((k : Key × Mode) → asked_key old s ≡ Some k → new ≡ met_by old s k holder) × (i ≡ length old.stored.notes)
IsMeeting old s holder NoMemory new = new ≡ old
IsMeeting old s holder told new = ⊥

-- the session has met a change, unless memory ran out
abbrev pub IsChanging : State → SessionId → Progress → State → Type 0
IsChanging old s (Met i) new = (doing : Session) → IsRunning old s doing → MeetsChange old new s doing i
IsChanging old s NoMemory new = new ≡ old
IsChanging old s told new = ⊥
