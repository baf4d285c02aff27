-- What a note tells, part by part, and the openings of sessions. This project's own.
use Rattle.std.specs.Prelude.{ℕ, Bool, true, false, ◌&&◌, ◌||◌, ◌==◌, List, slice_get, Option, Some, None, is_some, IfSome, option_and_then}
use Rattle.std.specs.List.{filter, filter_map}
use Rattle.hops_base.specs.declared.ids.SessionId.{SessionId}
use Rattle.hops_base.specs.declared.ids.OpId.{OpId}
use Rattle.hops_base.specs.declared.ids.ClientNo.{ClientNo}
use Rattle.hops_base.specs.declared.ids.NodeNo.{NodeNo}
use Rattle.hops_base.specs.declared.ids.Mode.{Mode}
use Rattle.hops_base.specs.declared.key.Key.{Key}
use Rattle.name_space.specs.declared.call.Call.{Call}
use Rattle.name_space.specs.declared.call.OpKind.{OpKind}
use Rattle.name_space.specs.declared.reply.Reply.{Reply}
use Rattle.name_space.specs.Namespace.{Path}
use Rattle.commit_log.specs.declared.note.Note.{Note}
use Rattle.commit_log.specs.declared.note.Note.TheVariants.{Open, Took, Gave, Wrote, Did, Cut, Met, Gone}
use Rattle.commit_log.specs.declared.note.Work.{Work}
use Rattle.commit_log.specs.declared.note.Work.TheVariants.{Flag, Reclaim}
use Rattle.commit_log.specs.declared.note.Cause.{Cause}
use Rattle.commit_log.specs.declared.note.Cause.TheVariants.{Lost}
use Rattle.commit_log.specs.declared.note.Ended.TheVariants.{Stopped, Evicted}

-- P holds of what is there, if anything is
abbrev pub Where : {A : Type 0} → (A → Type 0) → Option A → Type 0
Where P option = IfSome option P

-- there is something, and it passes the test
abbrev pub passes : {A : Type 0} → (A → Bool) → Option A → Bool
passes test None = false
passes test (Some x) = test x

-- ---- what a note opens

-- a session, for whose call of which number it is, and at which namenode
pub record Opening : Type 0 where
  pub session : SessionId
  pub client : ClientNo
  pub number : ℕ
  pub node : NodeNo

-- the session that the note opens
abbrev pub opened : Note → Option Opening
opened (Open s client number node) = Some (record { session = s; client = client; number = number; node = node })
opened note = None

-- the note opens the session
abbrev pub opens_session : SessionId → Note → Bool
opens_session s note = passes (λ (o : Opening). o.session.0 == s.0) (opened note)

-- the opening of a session
abbrev pub opening_of : List Note → SessionId → Option Opening
opening_of notes s = slice_get (filter_map opened (filter (opens_session s) notes)) 0

-- the session was opened for the client's call of this number
abbrev pub is_for : List Note → ClientNo → ℕ → SessionId → Bool
is_for notes client number s = passes (λ (o : Opening). (o.client.0 == client.0) && (o.number == number)) (opening_of notes s)

-- the session was opened at the namenode
abbrev pub is_at : List Note → NodeNo → SessionId → Bool
is_at notes node s = passes (λ (o : Opening). o.node.0 == node.0) (opening_of notes s)

-- ---- what a note commits

-- a session's answer to a client's call of this number
pub record Answering : Type 0 where
  pub session : SessionId
  pub client : ClientNo
  pub number : ℕ
  pub call : Call
  pub reply : Reply

-- the answer that the note is
abbrev pub did : Note → Option Answering
did (Did s client number call reads reply) = Some (record { session = s; client = client; number = number; call = call; reply = reply })
did note = None

-- the note answers the client's call of this number
abbrev pub answers_call : ClientNo → ℕ → Note → Bool
answers_call client number note = passes (λ (a : Answering). (a.client.0 == client.0) && (a.number == number)) (did note)

-- the note is an answer of the session
abbrev pub is_answer_of : SessionId → Note → Bool
is_answer_of s note = passes (λ (a : Answering). a.session.0 == s.0) (did note)

-- a session's step of a subtree operation
abbrev pub wrote : Note → Option (SessionId × Work)
wrote (Wrote s work) = Some (s, work)
wrote note = None

-- the note is a commit: a Wrote or a Did
abbrev pub is_commit : Note → Bool
is_commit note = is_some (wrote note) || is_some (did note)

-- a flag: the operation that it is of, by which session, of which kind and at which path
pub record Flagging : Type 0 where
  pub op : OpId
  pub session : SessionId
  pub kind : OpKind
  pub path : Path

-- the flag that a session's step sets
abbrev pub flag_in : SessionId → Work → Option Flagging
flag_in s (Flag op kind path) = Some (record { op = op; session = s; kind = kind; path = path })
flag_in s work = None

-- the flag that the note sets
abbrev pub flagged : Note → Option Flagging
flagged note = option_and_then (λ (w : SessionId × Work). flag_in w.0 w.1) (wrote note)

-- the note sets the flag of the operation
abbrev pub flags_op : OpId → Note → Bool
flags_op op note = passes (λ (f : Flagging). f.op.0 == op.0) (flagged note)

-- the flag of an operation
abbrev pub flag_of : List Note → OpId → Option Flagging
flag_of notes op = slice_get (filter_map flagged (filter (flags_op op) notes)) 0

-- the operation that a step ends from outside
abbrev pub reclaimed : Work → Option OpId
reclaimed (Reclaim op) = Some op
reclaimed work = None

-- the note reclaims the operation, by a session that passes the test
abbrev pub reclaims_by : (SessionId → Bool) → OpId → Note → Bool
reclaims_by by op note = passes (λ (w : SessionId × Work). by w.0 && passes (λ (o : OpId). o.0 == op.0) (reclaimed w.1)) (wrote note)

-- ---- the other notes

-- a key that a session took, and how
pub record Taking : Type 0 where
  pub session : SessionId
  pub key : Key
  pub mode : Mode

-- the key that the note takes
abbrev pub took : Note → Option Taking
took (Took s key mode) = Some (record { session = s; key = key; mode = mode })
took note = None

-- the note is a Gave
abbrev pub is_gave : Note → Bool
is_gave (Gave s) = true
is_gave note = false

-- what a session met
abbrev pub met : Note → Option (SessionId × Cause)
met (Met s cause) = Some (s, cause)
met note = None

-- the cause is that the session's operation was reclaimed
abbrev pub is_lost : Cause → Bool
is_lost (Lost op) = true
is_lost cause = false

-- the namenode that is gone, either way
abbrev pub gone_in : Note → Option NodeNo
gone_in (Gone node ended) = Some node
gone_in note = None

-- the one that has stopped
abbrev pub stopped_in : Note → Option NodeNo
stopped_in (Gone node Stopped) = Some node
stopped_in note = None

-- the one that was evicted
abbrev pub evicted_in : Note → Option NodeNo
evicted_in (Gone node Evicted) = Some node
evicted_in note = None

-- the namenode is gone by this note
abbrev pub is_loss_of : NodeNo → Note → Bool
is_loss_of node note = passes (λ (n : NodeNo). n.0 == node.0) (gone_in note)

-- it has stopped by this note
abbrev pub is_stop_of : NodeNo → Note → Bool
is_stop_of node note = passes (λ (n : NodeNo). n.0 == node.0) (stopped_in note)

-- it was evicted by this note
abbrev pub is_eviction_of : NodeNo → Note → Bool
is_eviction_of node note = passes (λ (n : NodeNo). n.0 == node.0) (evicted_in note)

-- the session of a note that takes, gives back, commits or meets something
abbrev pub actor : Note → Option SessionId
actor (Open s client number node) = None
actor (Took s key mode) = Some s
actor (Gave s) = Some s
actor (Wrote s work) = Some s
actor (Did s client number call reads reply) = Some s
actor (Cut op path gone) = None
actor (Met s cause) = Some s
actor (Gone node ended) = None
