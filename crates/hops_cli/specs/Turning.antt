-- What a run's calls make of all that the core keeps. This project's own.
use Rattle.std.specs.Prelude.{◌≡◌, ℕ, ◌+◌, ◌≤◌, List, [], ◌∷◌, ◌++◌, map as list_map, length, take}
use Rattle.hops_base.specs.Ids.{client, node}
use Rattle.hops_base.specs.declared.ids.Mode.{Mode}
use Rattle.hops_base.specs.declared.ids.SessionId.{SessionId}
use Rattle.hops_base.specs.declared.key.Key.{Key}
use Rattle.name_space.specs.declared.call.Call.{Call}
use Rattle.name_space.specs.declared.reply.Reply.{Reply}
use Rattle.name_space.specs.Script.{ClientCalls}
use Rattle.commit_log.specs.declared.note.Note.{Note}
use Rattle.commit_log.specs.declared.note.Note.TheVariants.{Open, Took, Did}
use Rattle.commit_log.specs.declared.answer.AnswerLine.{AnswerLine}
use Rattle.commit_log.specs.declared.answer.CallEnd.{CallEnd}
use Rattle.commit_log.specs.declared.answer.CallEnd.TheVariants.{Done}
use Rattle.db_state.specs.declared.session.Phase.{Phase}
use Rattle.db_state.specs.declared.session.Phase.TheVariants as phase
use Rattle.db_state.specs.declared.session.Session.{Session}
use Rattle.db_state.specs.Settings.{Settings}
use Rattle.db_state.specs.Stages.{phase_of}
use Rattle.db_state.specs.State.{State, opening_state}
use Rattle.db_state.specs.Steps.{seat_of, HasNoOpen, IsRunning}

-- ---- the book and the lines of the one client's calls

-- a call: its session, the locks that this took, how many of its steps read to resolve its path, and the reply
pub record Turn : Type 0 where
  pub session : SessionId
  pub keys : List (Key × Mode)
  pub call : Call
  pub reads : ℕ
  pub reply : Reply

-- the calls of these turns
abbrev pub calls_made : List Turn → List Call
calls_made turns = list_map (λ (turn : Turn). turn.call) turns

-- the note that opens a session for the call of this number
abbrev pub opens : SessionId → ℕ → Note
opens s number = Open s (client 0) number (node 0)

-- the notes by which a session takes these locks
abbrev pub takes : SessionId → List (Key × Mode) → List Note
takes s keys = list_map (λ (k : Key × Mode). Took s k.0 k.1) keys

-- the note that answers the call of this number
abbrev pub does : ℕ → Turn → Note
does number turn = Did turn.session (client 0) number turn.call turn.reads turn.reply

-- the notes of the call of this number: its session is opened, takes its locks and answers
abbrev pub turn_notes : ℕ → Turn → List Note
turn_notes number turn = opens turn.session number ∷ takes turn.session turn.keys ++ does number turn ∷ []

-- the notes of these turns, where so many came before
abbrev pub turns_notes : ℕ → List Turn → List Note
turns_notes n [] = []
turns_notes n (turn ∷ turns) = turn_notes (n + 1) turn ++ turns_notes (n + 1) turns

-- the line of the call of this number, where so many notes stand before its own: it names the last of these
abbrev pub turn_line : ℕ → ℕ → Turn → AnswerLine
turn_line before number turn = record { client = client 0; call = number; end = Done (before + 1 + length turn.keys) turn.reply }

-- the lines of these turns, where so many notes and so many turns came before
abbrev pub turns_lines : ℕ → ℕ → List Turn → List AnswerLine
turns_lines before n [] = []
turns_lines before n (turn ∷ turns) = turn_line before (n + 1) turn ∷ turns_lines (before + length (turn_notes (n + 1) turn)) (n + 1) turns

-- ---- a session on its way

-- the place of a phase among those that a session comes through; those of operations aren't built
abbrev pub rank : Phase → ℕ
rank phase.Resolve = 0
rank phase.Lock = 1
rank phase.Read = 2
rank phase.Reread = 3
rank phase.Commit = 4
rank phase.GateLock = 5
rank phase.Flag = 6
rank phase.Quiesce = 7
rank phase.Batch = 8
rank phase.Reclaim = 9
rank phase.Answered = 10

-- what a session starts from: the notes up to its opening, the settings, and the number and the call that it is for
pub record Start : Type 0 where
  pub before : List Note
  pub settings : Settings
  pub number : ℕ
  pub call : Call

-- there is one client, and the session runs for a call of it; since it started it has only taken locks, and come to a phase of
-- this rank at least
pub record IsUnderway (start : Start) (s : SessionId) (least : ℕ) (state : State) : Type 0 where
  pub doing : Session
  pub runs : IsRunning state s doing
  pub one : length start.settings.users ≡ 1
  pub client_is : doing.client ≡ client 0
  pub number_is : doing.number ≡ start.number
  pub call_is : doing.call ≡ start.call
  pub keys : List (Key × Mode)
  pub notes : state.stored.notes ≡ start.before ++ takes s keys
  pub settings : state.stored.settings ≡ start.settings
  pub since : length start.before ≤ doing.since
  pub comes : least ≤ rank (phase_of doing.stage)

-- so it is of whatever it started from
abbrev pub IsOnItsWay : SessionId → ℕ → State → Type 0
IsOnItsWay s least state = (start : Start) × IsUnderway start s least state

-- it has come from a phase of one rank to one of another, and started from where it did
abbrev pub ComesTo : SessionId → ℕ → State → ℕ → State → Type 0
ComesTo s from old to new = (start : Start) → IsUnderway start s from old → IsUnderway start s to new

-- ---- calls

-- the one client has begun so many calls, and has no open session
pub record IsIdle (count : ℕ) (state : State) : Type 0 where
  pub begun : (seat_of state.seats (client 0)).begun ≡ count
  pub none : HasNoOpen state (client 0)

-- a session was opened for the call of this number, has taken locks and answered, as the end tells; the client is idle again
pub record IsTurned (old new : State) (number : ℕ) (call : Call) (end : CallEnd) : Type 0 where
  pub turn : Turn
  pub of : turn.call ≡ call
  pub notes : new.stored.notes ≡ old.stored.notes ++ turn_notes number turn
  pub told : end ≡ Done (length old.stored.notes + 1 + length turn.keys) turn.reply
  pub settings : new.stored.settings ≡ old.stored.settings
  pub idle : IsIdle number new

-- a session that started so has answered, as the end tells
pub record IsAnswered (start : Start) (s : SessionId) (state : State) (end : CallEnd) : Type 0 where
  pub keys : List (Key × Mode)
  pub reads : ℕ
  pub reply : Reply
  pub notes : state.stored.notes ≡ (start.before ++ takes s keys) ++ Did s (client 0) start.number start.call reads reply ∷ []
  pub told : end ≡ Done (length (start.before ++ takes s keys)) reply
  pub settings : state.stored.settings ≡ start.settings
  pub idle : IsIdle start.number state

-- so it is of whatever it started from
abbrev pub Finishes : SessionId → ℕ → State → State → CallEnd → Type 0
Finishes s least old new end = (start : Start) → IsUnderway start s least old → IsAnswered start s new end

-- the session is opened for this call, and starts from what there was
abbrev pub IsBegun : State → SessionId → ℕ → Call → State → Type 0
IsBegun old s number call new =
    IsUnderway (record { before = old.stored.notes ++ opens s number ∷ []; settings = old.stored.settings; number = number; call = call }) s 0 new

-- the users that these clients act for
abbrev pub users_in : List ClientCalls → List (List ℕ)
users_in clients = list_map (λ (c : ClientCalls). c.user) clients

-- nothing has happened yet in a run at one namenode with clients that act for these users
pub record IsNew (users : List (List ℕ)) (state : State) (lines : List AnswerLine) : Type 0 where
  pub opening : state ≡ opening_state state.stored.settings
  pub acting : state.stored.settings.users ≡ users
  pub namenodes : state.stored.settings.namenodes ≡ 1
  pub none : lines ≡ []

-- so many of the calls have been answered, and nothing else was written
pub record AreTurned (settings : Settings) (calls : List Call) (count : ℕ) (state : State) (lines : List AnswerLine) : Type 0 where
  pub turns : List Turn
  pub made : calls_made turns ≡ take count calls
  pub notes : state.stored.notes ≡ turns_notes 0 turns
  pub told : lines ≡ turns_lines 0 0 turns
  pub settings_are : state.stored.settings ≡ settings
  pub idle : IsIdle count state

-- all calls of all clients have been answered: there is at most one
abbrev pub AreAllTurned : Settings → List ClientCalls → State → List AnswerLine → Type 0
AreAllTurned settings [] state lines = (state.stored.notes ≡ []) × (lines ≡ []) × (state.stored.settings ≡ settings)
AreAllTurned settings (one ∷ []) state lines = AreTurned settings one.calls (length one.calls) state lines
AreAllTurned settings (one ∷ other ∷ more) state lines = ⊥
