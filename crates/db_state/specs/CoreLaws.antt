-- Laws of all that the core keeps: each kind of change keeps it, and no sessions wait for each other in a circle. This
-- project's own.
use Rattle.std.specs.Prelude.{ℕ, List, [], ◌∷◌, ◌++◌, Option, false}
use Rattle.hops_base.specs.declared.ids.ClientNo.{ClientNo}
use Rattle.hops_base.specs.declared.ids.NodeNo.{NodeNo}
use Rattle.hops_base.specs.declared.ids.SessionId.{SessionId}
use Rattle.hops_base.specs.declared.ids.Mode.{Mode}
use Rattle.hops_base.specs.declared.key.Key.{Key}
use Rattle.name_space.specs.declared.call.Call.{Call}
use Rattle.name_space.specs.declared.reply.Reply.{Reply}
use Rattle.db_state.specs.declared.session.Session.{Session}
use Rattle.db_state.specs.declared.session.Stage.TheVariants.{Answered}
use Rattle.db_state.specs.declared.writes.Row.{Row}
use Rattle.db_state.specs.Settings.{Settings}
use Rattle.db_state.specs.State.{State, opening_state}
use Rattle.db_state.specs.Reads.{Reads}
use Rattle.db_state.specs.Core.{IsCore}
use Rattle.db_state.specs.Steps.{start, CanOpen, opened_by, begun_by, CanTake, taken_by, CanMeet, met_by, CanMove, moved_by, IsRunning, Gives, CanChange, Changes, CanAnswer, Completes}
use Rattle.db_state.specs.Waits.{WaitInTurn}

-- it holds before anything happened
abbrev pub OpeningIsACore : Type 0
OpeningIsACore = (settings : Settings) → IsCore (opening_state settings)

-- it holds once a session is opened
abbrev pub OpeningASessionKeepsIt : Type 0
OpeningASessionKeepsIt =
    (old : State) (client : ClientNo) (number : ℕ) (call : Call) (node : NodeNo) → IsCore old → CanOpen old client number call node
    → IsCore (opened_by old client number call node)

-- it holds once a session has taken the next of its keys
abbrev pub TakingAKeyKeepsIt : Type 0
TakingAKeyKeepsIt =
    (old : State) (s : SessionId) (doing : Session) (k : Key × Mode) → IsCore old → CanTake old s doing k → IsCore (taken_by old s doing k)

-- it holds once the client's next call is counted
abbrev pub CountingACallKeepsIt : Type 0
CountingACallKeepsIt =
    (old : State) (client : ClientNo) (number : ℕ) (call : Call) (node : NodeNo) → IsCore old → CanOpen old client number call node
    → IsCore (begun_by old client number)

-- it holds once a session has met a lock that keeps it away
abbrev pub MeetingALockKeepsIt : Type 0
MeetingALockKeepsIt =
    (old : State) (s : SessionId) (doing : Session) (k : Key × Mode) (h : SessionId) → IsCore old → CanMeet old s doing k h → IsCore (met_by old s k h)

-- it holds once a session has gone on without a note
abbrev pub GoingOnKeepsIt : Type 0
GoingOnKeepsIt = (old : State) (s : SessionId) (was new : Session) → IsCore old → CanMove old s was new → IsCore (moved_by old s new)

-- it holds once a session has given its locks back and begins a new attempt
abbrev pub BeginningAnewKeepsIt : Type 0
BeginningAnewKeepsIt =
    (old new : State) (s : SessionId) (doing : Session) → IsCore old → IsRunning old s doing → Gives old new s doing start → IsCore new

-- it holds once a session has given its locks back and ends
abbrev pub EndingKeepsIt : Type 0
EndingKeepsIt =
    (old new : State) (s : SessionId) (doing : Session) → IsCore old → IsRunning old s doing → Gives old new s doing Answered → IsCore new

-- it holds once a session has met a change of what it had found, and begins anew
abbrev pub MeetingAChangeKeepsIt : Type 0
MeetingAChangeKeepsIt = (old new : State) (s : SessionId) (doing : Session) → IsCore old → CanChange old s doing false → Changes old new s doing → IsCore new

-- it holds once a session has answered
abbrev pub AnsweringKeepsIt : Type 0
AnsweringKeepsIt =
    (old new : State) (s : SessionId) (doing : Session) (reads : Reads) (keys : List (Key × Mode)) (writes : List (Key × Option Row)) (reply : Reply)
    → IsCore old → CanAnswer old s doing reads keys writes reply → Completes old new s doing writes reply → IsCore new

-- no session waits for one that waits, in turn, for it
abbrev pub NobodyWaitsInACircle : Type 0
NobodyWaitsInACircle = (state : State) → IsCore state → (s : SessionId) (others : List SessionId) → WaitInTurn state (s ∷ (others ++ s ∷ [])) → ⊥
