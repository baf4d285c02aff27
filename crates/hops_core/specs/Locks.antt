-- How a session takes the next key of its plan. This project's own.
use Rattle.std.specs.Prelude.{◌≡◌, ℕ, length}
use Rattle.hops_base.specs.declared.ids.Mode.{Mode}
use Rattle.hops_base.specs.declared.ids.SessionId.{SessionId}
use Rattle.hops_base.specs.declared.key.Key.{Key}
use Rattle.db_state.specs.declared.session.Session.{Session}
use Rattle.db_state.specs.State.{State}
use Rattle.db_state.specs.Steps.{CanMeet, CanTake, met_by, taken_by}

-- it has taken the key that it asks for next
pub record TakesNext (old new : State) (s : SessionId) (doing : Session) : Type 0 where
  pub next : Key × Mode
  pub can : CanTake old s doing next
  pub taken : new ≡ taken_by old s doing next

-- another, the least that does, keeps it away from the key that it asks for next, and the note with this number says so
pub record MeetsHolder (old new : State) (s : SessionId) (doing : Session) (i : ℕ) : Type 0 where
  pub next : Key × Mode
  pub holder : SessionId
  pub can : CanMeet old s doing next holder
  pub met : new ≡ met_by old s next holder
  pub note : i ≡ length old.stored.notes
