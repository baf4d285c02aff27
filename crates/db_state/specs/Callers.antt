-- What a caller of the whole must show of a session, and what it is told. This project's own.
use Rattle.std.specs.Prelude.{◌≡◌, Bool, List, Option, Some, option_and_then}
use Rattle.std.specs.FinMap as map
use Rattle.hops_base.specs.declared.ids.SessionId.{SessionId}
use Rattle.hops_base.specs.declared.ids.Mode.{Mode}
use Rattle.hops_base.specs.declared.key.Key.{Key}
use Rattle.name_space.specs.declared.reply.Reply.{Reply}
use Rattle.row_locks.specs.Locks.{IsFree, IsLeastInTheWay}
use Rattle.row_locks.specs.declared.ask.Ask.{Ask}
use Rattle.row_locks.specs.declared.ask.Ask.TheVariants.{Held, Busy, NoMemory}
use Rattle.db_state.specs.declared.session.Session.{Session}
use Rattle.db_state.specs.declared.writes.Row.{Row}
use Rattle.db_state.specs.State.{State}
use Rattle.db_state.specs.Reads.{Reads}
use Rattle.db_state.specs.Stages.{next_key}
use Rattle.db_state.specs.Steps.{IsRunning, taken_by, CanMeet, CanChange, CanAnswer}

-- the session is there and hasn't ended
abbrev pub IsOpen : State → SessionId → Type 0
IsOpen state s = (doing : Session) × IsRunning state s doing

-- the key that the session asks for next, if it is there and asks for one
abbrev pub asked_key : State → SessionId → Option (Key × Mode)
asked_key state s = option_and_then (λ (doing : Session). next_key doing.stage) (map.get state.sessions s.0)

-- what a session is told that asks for its next key, and all of it after that
abbrev pub IsTaken : State → SessionId → Session → Key × Mode → Ask → State → Type 0
IsTaken old s doing k Held new = IsFree old.locks s k.0 k.1 × (new ≡ taken_by old s doing k)
IsTaken old s doing k (Busy h) new = IsLeastInTheWay old.locks s k.0 k.1 h × (new ≡ old)
IsTaken old s doing k NoMemory new = new ≡ old

-- so it is of the session that is there and of the key that it asks for
abbrev pub Takes : State → SessionId → Ask → State → Type 0
Takes old s answer new = (doing : Session) (k : Key × Mode) → map.get old.sessions s.0 ≡ Some doing → next_key doing.stage ≡ Some k → IsTaken old s doing k answer new

-- the session asks for a key from which h is the least that keeps it
abbrev pub IsKeptAway : State → SessionId → SessionId → Type 0
IsKeptAway state s h = (doing : Session) × (k : Key × Mode) × CanMeet state s doing k h

-- the session runs, and what it reads next isn't as it was found, in an attempt that has used hints or hasn't
abbrev pub IsBehind : State → SessionId → Bool → Type 0
IsBehind state s hinted = (doing : Session) × CanChange state s doing hinted

-- the session may answer so, with these rows written
abbrev pub IsAnswer : State → SessionId → List (Key × Option Row) → Reply → Type 0
IsAnswer state s writes reply = (doing : Session) × (reads : Reads) × (keys : List (Key × Mode)) × CanAnswer state s doing reads keys writes reply
