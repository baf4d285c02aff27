-- How a session reads what it has locked, and finds it changed. This project's own.
use Rattle.std.specs.Prelude.{◌≡◌, ℕ, ◌+◌, false, length}
use Rattle.hops_base.specs.declared.ids.SessionId.{SessionId}
use Rattle.db_state.specs.declared.session.Session.{Session}
use Rattle.db_state.specs.State.{State}
use Rattle.db_state.specs.Steps.{CanChange, CanMove, Changes, moved_by}

-- it has gone on without a note
pub record Moves (old new : State) (s : SessionId) (doing : Session) : Type 0 where
  pub after : Session
  pub can : CanMove old s doing after
  pub moved : new ≡ moved_by old s after

-- what it reads next isn't as it was found: it gives its locks back, says so by the note with this number, the last, and begins anew
pub record MeetsChange (old new : State) (s : SessionId) (doing : Session) (i : ℕ) : Type 0 where
  pub can : CanChange old s doing false
  pub changes : Changes old new s doing
  pub note : i + 1 ≡ length new.stored.notes
