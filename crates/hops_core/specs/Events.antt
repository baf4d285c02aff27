-- What each event makes of all that the core keeps, and what is told of it. This project's own.
use Rattle.std.specs.Prelude.{◌≡◌, ◌⊎◌, ℕ, List, [], ◌∷◌, Result, Ok, Err}
use Rattle.hops_base.specs.declared.ids.ClientNo.{ClientNo}
use Rattle.hops_base.specs.declared.ids.NodeNo.{NodeNo}
use Rattle.hops_base.specs.declared.ids.SessionId.{SessionId}
use Rattle.name_space.specs.declared.call.Call.{Call}
use Rattle.name_space.specs.Namespace.{Path}
use Rattle.db_state.specs.declared.session.Session.{Session}
use Rattle.db_state.specs.declared.session.Stage.{Stage}
use Rattle.db_state.specs.declared.session.Stage.TheVariants as stage
use Rattle.db_state.specs.Callers.{IsOpen}
use Rattle.db_state.specs.Core.{IsCore}
use Rattle.db_state.specs.State.{State}
use Rattle.db_state.specs.Steps.{begun_by, next_session, opened_by, CanOpen, Gives, IsRunning}
use Rattle.path_resolver.specs.Resolving.{FindsAll, IsUnresolved, ReadsOne}
use Rattle.chain_check.specs.Rereading.{IsRereadStep}
use Rattle.chain_check.specs.declared.reread.Reread.TheVariants as reread
use Rattle.hops_core.specs.declared.begin_fault.BeginFault.{BeginFault}
use Rattle.hops_core.specs.declared.begin_fault.BeginFault.TheVariants as fault
use Rattle.hops_core.specs.declared.event.Event.{Event}
use Rattle.hops_core.specs.declared.event.Event.TheVariants.{Begin, Advance, Quit}
use Rattle.hops_core.specs.declared.event.EventAnswer.{EventAnswer}
use Rattle.hops_core.specs.declared.event.EventAnswer.TheVariants.{Skipped, Opened, Advanced, Ended, Refused}
use Rattle.hops_core.specs.declared.progress.Progress.{Progress}
use Rattle.hops_core.specs.declared.progress.Progress.TheVariants.{More, Met, Done, Fenced, NoMemory}
use Rattle.hops_core.specs.Built.{IsBuilt}
use Rattle.hops_core.specs.Commits.{Answers}
use Rattle.hops_core.specs.Follows.{LeavesOthers}
use Rattle.hops_core.specs.Locks.{MeetsHolder, TakesNext}
use Rattle.hops_core.specs.Reading.{MeetsChange, Moves}

-- ---- a session begins

-- client and namenode exist, the client has no open session, and it makes a valid call that is built, the next one by number, of
-- no more than a client may make
pub record CanBegin (state : State) (client : ClientNo) (number : ℕ) (call : Call) (node : NodeNo) : Type 0 where
  pub may : CanOpen state client number call node
  pub built : IsBuilt call

-- what is told: the session that was opened; or, with the number counted, that memory ran out. No namenode has stopped yet
abbrev pub Begins : State → ClientNo → ℕ → Call → NodeNo → Result SessionId BeginFault → State → Type 0
Begins old client number call node (Ok s) new = (s ≡ next_session old) × (new ≡ opened_by old client number call node)
Begins old client number call node (Err (fault.NodeGone i)) new = ⊥
Begins old client number call node (Err fault.NoMemory) new = new ≡ begun_by old client number

-- ---- a session makes one step

-- it has more to do: it has read one row of its path, or none for `/`; taken one key; read what it has locked; or read one row again
abbrev pub GoesOn : State → SessionId → Session → Stage → State → Type 0
GoesOn old s doing (stage.Resolve places found) new =
    (path : Path) × IsUnresolved doing path found.items × (ReadsOne old new s doing path found.items ⊎ FindsAll old new s doing path found.items)
GoesOn old s doing (stage.Lock places keys taken) new = TakesNext old new s doing
GoesOn old s doing (stage.Read places keys) new = Moves old new s doing
GoesOn old s doing (stage.Reread reads keys) new = IsRereadStep old s doing reads keys reread.More new ⊎ IsRereadStep old s doing reads keys reread.Current new
GoesOn old s doing (stage.Commit reads keys) new = ⊥
GoesOn old s doing stage.Answered new = ⊥

-- it has met a conflict, which the note with this number tells: the holder of its next key; or that what it read isn't as it was found
abbrev pub Meets : State → SessionId → Session → Stage → ℕ → State → Type 0
Meets old s doing (stage.Resolve places found) i new = ⊥
Meets old s doing (stage.Lock places keys taken) i new = MeetsHolder old new s doing i
Meets old s doing (stage.Read places keys) i new = MeetsChange old new s doing i
Meets old s doing (stage.Reread reads keys) i new = MeetsChange old new s doing i
Meets old s doing (stage.Commit reads keys) i new = ⊥
Meets old s doing stage.Answered i new = ⊥

-- so it is told. No namenode is gone yet
abbrev pub IsAdvance : State → SessionId → Session → Progress → State → Type 0
IsAdvance old s doing More new = GoesOn old s doing doing.stage new
IsAdvance old s doing (Met i) new = Meets old s doing doing.stage i new
IsAdvance old s doing (Done i reply) new = Answers old new s doing i reply
IsAdvance old s doing (Fenced i) new = ⊥
IsAdvance old s doing NoMemory new = new ≡ old

-- of whichever session it is
abbrev pub Advances : State → SessionId → Progress → State → Type 0
Advances old s told new = (doing : Session) → IsRunning old s doing → IsAdvance old s doing told new

-- ---- a session is given up

-- it gives back what it holds, with a note where that is anything, and has ended
abbrev pub Quits : State → SessionId → State → Type 0
Quits old s new = (doing : Session) → IsRunning old s doing → Gives old new s doing stage.Answered

-- ---- any events

-- what comes of an event and is told of it: it is skipped exactly where it can't be made
abbrev pub Happens : State → Event → EventAnswer → State → Type 0
Happens old (Begin client number call node) Skipped new = (CanBegin old client number call node → ⊥) × (new ≡ old)
Happens old (Begin client number call node) (Opened s) new = CanBegin old client number call node × Begins old client number call node (Ok s) new
Happens old (Begin client number call node) (Refused why) new = CanBegin old client number call node × Begins old client number call node (Err why) new
Happens old (Advance s hints) Skipped new = (IsOpen old s → ⊥) × (new ≡ old)
Happens old (Advance s hints) (Advanced progress) new = IsOpen old s × Advances old s progress new × LeavesOthers old new s
Happens old (Quit s) Skipped new = (IsOpen old s → ⊥) × (new ≡ old)
Happens old (Quit s) Ended new = IsOpen old s × Quits old s new × LeavesOthers old new s
Happens old event told new = ⊥

-- what comes of events, one after another, and is told of each; and all is as it always is after each
abbrev pub Runs : State → List Event → List EventAnswer → State → Type 0
Runs old [] [] new = new ≡ old
Runs old [] (told ∷ others) new = ⊥
Runs old (event ∷ events) [] new = ⊥
Runs old (event ∷ events) (told ∷ others) new = (next : State) × Happens old event told next × IsCore next × Runs next events others new
