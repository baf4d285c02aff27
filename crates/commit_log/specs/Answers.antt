-- The answers that clients were given, against the book. This project's own.
use Rattle.std.specs.Prelude.{◌≡◌, ℕ, Bool, true, false, ◌&&◌, ◌==◌, nat_lt, List, map, length, slice_get, Option, Some, None, IsSomeAnd, is_some, not}
use Rattle.std.specs.List.{filter, range_with_len, filter_map, flat_map, enumerate_from, list_any, list_all, AllByRecursion}
use Rattle.std.specs.List.Sorted.{IsStrictlySortedBy}
use Rattle.std.specs.Ordering.{nat_cmp}
use Rattle.hops_base.specs.declared.ids.SessionId.{SessionId}
use Rattle.hops_base.specs.declared.ids.ClientNo.{ClientNo}
use Rattle.hops_base.specs.Ids.{node}
use Rattle.name_space.specs.Calls.{as_read}
use Rattle.name_space.specs.Script.{Script, ClientCalls}
use Rattle.commit_log.specs.declared.note.Note.{Note}
use Rattle.commit_log.specs.declared.note.Cause.{Cause}
use Rattle.commit_log.specs.declared.answer.AnswerLine.{AnswerLine}
use Rattle.commit_log.specs.declared.answer.CallEnd.{CallEnd}
use Rattle.commit_log.specs.declared.answer.CallEnd.TheVariants.{Done, Again, NoNamenode}
use Rattle.commit_log.specs.Along.{Each}
use Rattle.commit_log.specs.Parts.{Where, passes, is_for, Answering, did, answers_call, met, stopped_in, is_stop_of}

-- the calls of a script, by the number of the client and then their own
abbrev pub calls_of : ℕ × ClientCalls → List (ℕ × ℕ)
calls_of client = map (λ number. (client.0, number)) (range_with_len 1 (length client.1.calls))

-- all of them
abbrev pub calls_in : Script → List (ℕ × ℕ)
calls_in script = flat_map calls_of (enumerate_from 0 script.clients)

-- the note at which a call was done
abbrev pub done_at : CallEnd → Option ℕ
done_at (Done i reply) = Some i
done_at end = None

-- no namenode was left for the call
abbrev pub is_no_namenode : CallEnd → Bool
is_no_namenode (NoNamenode i) = true
is_no_namenode end = false

-- the call gave up
abbrev pub is_again : CallEnd → Bool
is_again (Again i) = true
is_again end = false

-- the line is of this client
abbrev pub is_of_client : ClientNo → AnswerLine → Bool
is_of_client client line = line.client.0 == client.0

-- the line is of this client's call of this number
abbrev pub is_call : ClientNo → ℕ → AnswerLine → Bool
is_call client number line = is_of_client client line && (line.call == number)

-- the notes at which a client's calls were done, in the order of the calls
abbrev pub dones : List AnswerLine → ClientNo → List ℕ
dones lines client = filter_map (λ (line : AnswerLine). done_at line.end) (filter (is_of_client client) lines)

-- no namenode was left for an earlier call of the client
abbrev pub was_left_alone : List AnswerLine → ClientNo → ℕ → Bool
was_left_alone lines client number =
    list_any (λ (line : AnswerLine). is_of_client client line && nat_lt line.call number && is_no_namenode line.end) lines

-- the note is a Met of a session that was opened for the client's call of this number
abbrev pub meets_for : List Note → ClientNo → ℕ → Note → Bool
meets_for notes client number note = passes (λ (m : SessionId × Cause). is_for notes client number m.0) (met note)

-- each namenode of the script has stopped
abbrev pub all_stopped : Script → List Note → Bool
all_stopped script notes = list_all (λ (n : ℕ). list_any (is_stop_of (node n)) notes) (range_with_len 0 script.namenodes)

-- the book bears out the answer to a client's call of this number
abbrev pub BorneOut : Script → List Note → List AnswerLine → ClientNo → ℕ → CallEnd → Type 0
BorneOut script notes lines client number (Done i reply) =
    IsSomeAnd (slice_get notes i) (λ note.
    (answers_call client number note ≡ true) × Where (λ (a : Answering). as_read a.reply ≡ as_read reply) (did note))
BorneOut script notes lines client number (Again i) =
    IsSomeAnd (slice_get notes i) (λ note. meets_for notes client number note ≡ true)
    × (list_any (answers_call client number) notes ≡ false)
BorneOut script notes lines client number (NoNamenode i) =
    IsSomeAnd (slice_get notes i) (λ note. is_some (stopped_in note) ≡ true)
    × (all_stopped script notes ≡ true)
    × (list_any (answers_call client number) notes ≡ true → was_left_alone lines client number ≡ false)

-- a Did is of a call that was answered as done, or that no namenode was left to answer, and no call has two
abbrev pub AccountedAt : List AnswerLine → List Note → Note → Type 0
AccountedAt lines before note = Where (λ (a : Answering).
    (list_any (λ (line : AnswerLine). is_call a.client a.number line && not (is_again line.end)) lines ≡ true)
    × (list_any (answers_call a.client a.number) before ≡ false)) (did note)

-- the client and the call that a line answers, by their numbers
abbrev pub call_answered : AnswerLine → ℕ × ℕ
call_answered line = (line.client.0, line.call)

-- the lines answer the script's calls, each once and in order, as the book has it
pub record Answers (script : Script) (notes : List Note) (lines : List AnswerLine) : Type 0 where
  pub each : map call_answered lines ≡ calls_in script
  pub borne_out : AllByRecursion (λ (line : AnswerLine). BorneOut script notes lines line.client line.call line.end) lines
  pub rise : AllByRecursion (λ (line : AnswerLine). IsStrictlySortedBy nat_cmp (dones lines line.client)) lines
  pub accounted : Each (AccountedAt lines) notes
