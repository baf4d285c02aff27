-- How a session answers its call. This project's own.
use Rattle.std.specs.Prelude.{◌≡◌, ℕ, List, length, map as list_map, Option, Some, slice_get}
use Rattle.std.specs.List.{AllByRecursion}
use Rattle.hops_base.specs.declared.ids.Mode.{Mode}
use Rattle.hops_base.specs.declared.ids.SessionId.{SessionId}
use Rattle.hops_base.specs.declared.key.Key.{Key}
use Rattle.name_space.specs.Calls.{as_read, plain}
use Rattle.name_space.specs.declared.reply.Reply.{Reply}
use Rattle.commit_log.specs.Legal.{space}
use Rattle.commit_log.specs.Locks.{held}
use Rattle.db_state.specs.declared.session.Session.{Session}
use Rattle.db_state.specs.declared.view.Place.{Place}
use Rattle.db_state.specs.declared.writes.Row.{Row}
use Rattle.db_state.specs.Current.{places_of}
use Rattle.db_state.specs.Holding.{HoldsAll}
use Rattle.db_state.specs.Plan.{plan}
use Rattle.db_state.specs.PlaceOf.{IsPlaceOf}
use Rattle.db_state.specs.Reads.{Reads}
use Rattle.db_state.specs.State.{State}
use Rattle.db_state.specs.Steps.{CanAnswer, Completes, IsRunning}
use Rattle.hops_core.specs.declared.progress.Progress.{Progress}
use Rattle.hops_core.specs.declared.progress.Progress.TheVariants.{Done, NoMemory}
use Rattle.hops_core.specs.Built.{IsBuilt}

-- these are the places that the rows have for the paths of the session's call
pub record ArePlacesNow (state : State) (doing : Session) (places : List Place) : Type 0 where
  pub paths : list_map (λ (place : Place). place.path) places ≡ places_of doing.call places
  pub are : AllByRecursion (λ (place : Place). IsPlaceOf state.stored.inodes place.path place) places

-- the session holds each key that its call locks by the rows as they are
pub record HoldsPlanNow (state : State) (s : SessionId) (doing : Session) : Type 0 where
  pub places : List Place
  pub now : ArePlacesNow state doing places
  pub holds : HoldsAll (held state.stored.notes) s (plan doing.client doing.call places)

-- the reply is the plain call's, for the client's user, in the namespace that the book leads to
pub record IsPlainReply (state : State) (doing : Session) (reply : Reply) : Type 0 where
  pub user : List ℕ
  pub acts : slice_get state.stored.settings.users doing.client.0 ≡ Some user
  pub told : as_read reply ≡ (plain (space state.stored.settings.users state.stored.notes) doing.client user doing.call).reply

-- it has answered, by the note with this number, a call that is built, as the plain call does, and held all keys that its call locks
-- by the rows as they were
pub record Answers (old new : State) (s : SessionId) (doing : Session) (i : ℕ) (reply : Reply) : Type 0 where
  pub reads : Reads
  pub keys : List (Key × Mode)
  pub writes : List (Key × Option Row)
  pub can : CanAnswer old s doing reads keys writes reply
  pub completes : Completes old new s doing writes reply
  pub note : i ≡ length old.stored.notes
  pub built : IsBuilt doing.call
  pub plain : IsPlainReply old doing reply
  pub holds : HoldsPlanNow old s doing

-- so it is told; or memory ran out
abbrev pub IsCommitted : State → SessionId → Session → Progress → State → Type 0
IsCommitted old s doing (Done i reply) new = Answers old new s doing i reply
IsCommitted old s doing NoMemory new = new ≡ old
IsCommitted old s doing told new = ⊥

-- of whichever session it is
abbrev pub Commits : State → SessionId → Progress → State → Type 0
Commits old s told new = (doing : Session) → IsRunning old s doing → IsCommitted old s doing told new
