-- A run of one client without locks: it makes its calls in turn at one namenode, and each is answered at once. This
-- project's own.
use Rattle.std.specs.Prelude.{◌≡◌, ℕ, ◌+◌, ◌*◌, ◌≤◌, List, [], ◌∷◌, map}
use Rattle.hops_base.specs.Ids.{session, client, node}
use Rattle.name_space.specs.declared.call.Call.{Call}
use Rattle.name_space.specs.declared.reply.Reply.{Reply}
use Rattle.name_space.specs.Calls.{as_read}
use Rattle.name_space.specs.Script.{Script, ClientCalls}
use Rattle.commit_log.specs.declared.note.Note.{Note}
use Rattle.commit_log.specs.declared.note.Note.TheVariants.{Open, Did}
use Rattle.commit_log.specs.declared.answer.AnswerLine.{AnswerLine}
use Rattle.commit_log.specs.declared.answer.CallEnd.TheVariants.{Done}

-- a call, how many reads its resolutions made, and its reply
pub record Turn : Type 0 where
  pub call : Call
  pub reads : ℕ
  pub reply : Reply

-- the calls of these turns
abbrev pub calls_made : List Turn → List Call
calls_made turns = map (λ (turn : Turn). turn.call) turns

-- the replies to them, as they read
abbrev pub replies_told : List Turn → List Reply
replies_told turns = map (λ (turn : Turn). as_read turn.reply) turns

-- ---- notes and lines

-- the note that opens the session of the call of this number
abbrev pub opens_turn : ℕ → Note
opens_turn number = Open (session number) (client 0) number (node 0)

-- the note that answers it
abbrev pub does_turn : ℕ → Turn → Note
does_turn number turn = Did (session number) (client 0) number turn.call turn.reads turn.reply

-- the notes of these turns, where so many came before
abbrev pub turns_book : ℕ → List Turn → List Note
turns_book n [] = []
turns_book n (turn ∷ turns) = opens_turn (n + 1) ∷ does_turn (n + 1) turn ∷ turns_book (n + 1) turns

-- the line of a turn before which so many came
abbrev pub turn_line : ℕ → Turn → AnswerLine
turn_line n turn = record { client = client 0; call = n + 1; end = Done (2 * n + 1) turn.reply }

-- the lines of these turns, where so many came before
abbrev pub turns_lines : ℕ → List Turn → List AnswerLine
turns_lines n [] = []
turns_lines n (turn ∷ turns) = turn_line n turn ∷ turns_lines (n + 1) turns

-- ---- scripts

-- the calls of these turns are those of the one client, or there is neither a client nor a turn
abbrev pub MadeBy : List ClientCalls → List Turn → Type 0
MadeBy [] turns = turns ≡ []
MadeBy (one ∷ []) turns = one.calls ≡ calls_made turns
MadeBy (one ∷ other ∷ more) turns = ⊥

-- the turns are those of the script, which stops no namenode
pub record IsSingleRun (script : Script) (turns : List Turn) : Type 0 where
  pub runs : 1 ≤ script.namenodes
  pub stays : script.stops ≡ []
  pub made : MadeBy script.clients turns
