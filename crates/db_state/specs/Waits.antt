-- Who waits for whom. This project's own.
use Rattle.std.specs.Prelude.{◌≡◌, ⊤, List, [], ◌∷◌, Some, IsSome}
use Rattle.std.specs.FinMap as map
use Rattle.hops_base.specs.declared.ids.SessionId.{SessionId}
use Rattle.hops_base.specs.declared.ids.Mode.{Mode}
use Rattle.hops_base.specs.declared.key.Key.{Key}
use Rattle.row_locks.specs.Locks.{mode_of}
use Rattle.db_state.specs.declared.session.Session.{Session}
use Rattle.db_state.specs.State.{State}
use Rattle.db_state.specs.Stages.{next_key}

-- the session asks next for a key that the other holds
pub record Waits (state : State) (s t : SessionId) : Type 0 where
  pub doing : Session
  pub next : Key × Mode
  pub there : map.get state.sessions s.0 ≡ Some doing
  pub asks : next_key doing.stage ≡ Some next
  pub holds : IsSome (mode_of state.locks t next.0)

-- each of these sessions waits for the one behind it
abbrev pub WaitInTurn : State → List SessionId → Type 0
WaitInTurn state [] = ⊤
WaitInTurn state (s ∷ []) = ⊤
WaitInTurn state (s ∷ t ∷ others) = Waits state s t × WaitInTurn state (t ∷ others)
