-- What always holds of all that the core keeps. This project's own.
use Rattle.commit_log.specs.Locks.{held}
use Rattle.db_state.specs.State.{State}
use Rattle.db_state.specs.Consistent.{IsConsistent}
use Rattle.db_state.specs.LockParts.{AreOfBook, AreOfSessions}
use Rattle.db_state.specs.SessionParts.{AreReading, AreAsFound, AreOld, AreOpened}
use Rattle.db_state.specs.BookParts.{AreSeats, AreIdsLeft, IsBook}

-- the rows and the book are consistent; the locks are those of the book and of the sessions' plans; what sessions have read
-- stands, was changed by nobody but another's commit, and isn't newer than the rows; the book tells of each session, and each
-- client has its seat; ids don't run out; and the book is orderly and explained
pub record IsCore (state : State) : Type 0 where
  pub stored : IsConsistent state.stored
  pub locks : AreOfBook state.locks state.stored.notes
  pub plans : AreOfSessions state.locks state.sessions
  pub reads : AreReading state.stored.inodes state.stored.quotas (held state.stored.notes) state.sessions
  pub found : AreAsFound state.stored.inodes state.stored.notes state.sessions
  pub old : AreOld state.stored.next state.sessions
  pub opened : AreOpened state.stored.notes state.sessions
  pub seats : AreSeats state.stored.settings.users state.seats state.sessions state.stored.notes
  pub ids : AreIdsLeft state.seats state.stored.next
  pub book : IsBook state.stored.settings state.stored.notes
