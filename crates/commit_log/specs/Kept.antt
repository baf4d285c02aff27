-- What a run keeps beyond what a checker can decide of its report. This project's own.
use Rattle.std.specs.Prelude.{◌≡◌, ℕ, ◌+◌, ◌≤◌, Bool, true, false, not, ◌&&◌, ◌||◌, ◌==◌, List, take, nat_lt, Some, IsSomeAnd, ⊤}
use Rattle.std.specs.List.{list_any, list_all, count_by, AllByRecursion}
use Rattle.hops_base.specs.declared.ids.SessionId.{SessionId}
use Rattle.hops_base.specs.declared.ids.OpId.{OpId}
use Rattle.hops_base.specs.declared.ids.ClientNo.{ClientNo}
use Rattle.hops_base.specs.declared.key.Key.{Key}
use Rattle.hops_base.specs.declared.key.Key.TheVariants as key
use Rattle.hops_base.specs.Key.{same_key}
use Rattle.hops_base.specs.Path.{is_below}
use Rattle.name_space.specs.declared.call.Call.{Call}
use Rattle.name_space.specs.declared.call.Call.TheVariants as call
use Rattle.name_space.specs.declared.entry.Entry.{Entry}
use Rattle.name_space.specs.Call.{paths_of}
use Rattle.name_space.specs.Namespace.{Namespace, Path, exists}
use Rattle.name_space.specs.Script.{Script, call_of, users_of}
use Rattle.commit_log.specs.declared.note.Note.{Note}
use Rattle.commit_log.specs.declared.note.Work.{Work}
use Rattle.commit_log.specs.declared.answer.AnswerLine.{AnswerLine}
use Rattle.commit_log.specs.declared.answer.CallEnd.{CallEnd}
use Rattle.commit_log.specs.declared.answer.CallEnd.TheVariants.{Done, Again, NoNamenode}
use Rattle.commit_log.specs.Along.{Each}
use Rattle.commit_log.specs.Parts.{Where, passes, Opening, opening_of, Answering, did, answers_call, wrote, reclaimed, Flagging, flag_of, Taking}
use Rattle.commit_log.specs.Legal.{space, space_after}
use Rattle.commit_log.specs.Locks.{held, is_of}
use Rattle.commit_log.specs.Flags.{flags, since_flag}
use Rattle.commit_log.specs.Licensed.{is_flag_by}
use Rattle.commit_log.specs.Answers.{is_of_client, is_no_namenode, meets_for}
use Rattle.commit_log.specs.Told.{cut_in, was_lost}
use Rattle.commit_log.specs.Stops.{StopsKept}
use Rattle.commit_log.specs.Members.{EvictsMembersAt, VoidIsSilentAt}
use Rattle.commit_log.specs.Ids.{ids, nearest_path, inode_key}

-- ---- deletes that were cut off

-- the note answers a call of the client before that of this number
abbrev pub answers_before : ClientNo → ℕ → Note → Bool
answers_before client number note = passes (λ (a : Answering). (a.client.0 == client.0) && nat_lt a.number number) (did note)

-- the flag of a cut: its path is the cut's; its session was opened for the recursive delete of that path; the answers to
-- the client's calls with lower numbers stand before the flag, and that to the call itself isn't there yet
pub record CutsDelete (script : Script) (notes before : List Note) (path : Path) (flag : Flagging) (opening : Opening) : Type 0 where
  pub at : flag.path ≡ path
  pub for : call_of script opening.client opening.number ≡ Some (call.Delete path true)
  pub earlier : list_any (answers_before opening.client opening.number) (since_flag notes flag.op) ≡ false
  pub later : list_any (answers_call opening.client opening.number) before ≡ false

-- a cut is of a recursive delete
abbrev pub CutsInTimeAt : Script → List Note → List Note → Note → Type 0
CutsInTimeAt script notes before note = Where (λ (c : OpId × Path).
    IsSomeAnd (flag_of before c.0) (λ flag. IsSomeAnd (opening_of before flag.session) (CutsDelete script notes before c.1 flag))) (cut_in note)

-- every cut is
abbrev pub CutsInTime : Script → List Note → Type 0
CutsInTime script notes = Each (CutsInTimeAt script notes) notes

-- the note is a cut of the operation
abbrev pub cuts_op : OpId → Note → Bool
cuts_op op note = passes (λ (c : OpId × Path). c.0.0 == op.0) (cut_in note)

-- an operation has one cut at most
abbrev pub CutOnceAt : List Note → Note → Type 0
CutOnceAt before note = Where (λ (c : OpId × Path). list_any (cuts_op c.0) before ≡ false) (cut_in note)

-- an operation is reclaimed only after its flag was set and the namenode of its session was gone since
abbrev pub ReclaimsLostAt : List Note → Note → Type 0
ReclaimsLostAt before note = Where (λ (w : SessionId × Work).
    Where (λ (op : OpId). IsSomeAnd (flag_of before op) (λ flag. was_lost before flag ≡ true)) (reclaimed w.1)) (wrote note)

-- ---- the order of answers, and answers that aren't replies

-- the note answers a call of the client after that of this number
abbrev pub answers_after : ClientNo → ℕ → Note → Bool
answers_after client number note = passes (λ (a : Answering). (a.client.0 == client.0) && nat_lt number a.number) (did note)

-- a client's calls are answered in their order
abbrev pub InOrderAt : List Note → Note → Type 0
InOrderAt before note = Where (λ (a : Answering). list_any (answers_after a.client a.number) before ≡ false) (did note)

-- a call gave up where the script lets it, after as many conflicts as the script says; where no namenode was left for a
-- call, none was for the client's later ones
abbrev pub EndKept : Script → List Note → List AnswerLine → ClientNo → ℕ → CallEnd → Type 0
EndKept script notes lines client number (Done i reply) = ⊤
EndKept script notes lines client number (Again i) =
    (script.persist ≡ false) × (script.tries ≤ count_by (meets_for notes client number) (take (i + 1) notes))
EndKept script notes lines client number (NoNamenode i) =
    list_all (λ (line : AnswerLine). not (is_of_client client line && nat_lt number line.call) || is_no_namenode line.end) lines ≡ true

-- every call ended so
abbrev pub EndsKept : Script → List Note → List AnswerLine → Type 0
EndsKept script notes lines = AllByRecursion (λ (line : AnswerLine). EndKept script notes lines line.client line.call line.end) lines

-- ---- what a session holds when it answers

-- the session holds the key
abbrev pub holds : List Note → SessionId → Key → Bool
holds notes s key = list_any (λ (lock : Taking). is_of s lock && same_key key lock.key) (held notes)

-- it holds the inode key of the longest prefix of the path that exists
abbrev pub holds_path : List (List ℕ) → List Note → SessionId → Path → Bool
holds_path users notes s path =
    passes (λ (near : Path). passes (holds notes s) (inode_key (ids users notes) near)) (nearest_path (space users notes) path)

-- a session that answers holds its client's reply key, and a key for each path of its call
abbrev pub IsHeld : List (List ℕ) → List Note → Answering → Type 0
IsHeld users before a =
    (holds before a.session (key.Reply a.client) ≡ true)
    × (list_all (holds_path users before a.session) (paths_of a.call) ≡ true)

-- a Did is of a session that holds them
abbrev pub AnswersHeldAt : List (List ℕ) → List Note → Note → Type 0
AnswersHeldAt users before note = Where (IsHeld users before) (did note)

-- every Did is
abbrev pub AnswersHeld : List (List ℕ) → List Note → Type 0
AnswersHeld users notes = Each (AnswersHeldAt users) notes

-- ---- what only an operation does

-- the path was there and isn't any more
abbrev pub is_gone : Namespace → Namespace → Path → Bool
is_gone old new path = exists old path && not (exists new path)

-- some path went together with one below it
abbrev pub takes_subtree : Namespace → Namespace → Bool
takes_subtree old new =
    list_any (λ (top : Path × Entry). is_gone old new top.0 && list_any (λ (e : Path × Entry). is_below e.0 top.0 && is_gone old new e.0) old) old

-- a session whose call passes the test takes away a subtree only by an operation of its own
abbrev pub SubtreesFlaggedAt : (Call → Bool) → List (List ℕ) → List Note → Note → Type 0
SubtreesFlaggedAt of users before note = Where (λ (a : Answering).
    of a.call ≡ true
    → takes_subtree (space users before) (space_after users (space users before) note) ≡ true
    → list_any (is_flag_by a.session) (flags before) ≡ true) (did note)

-- every session does so
abbrev pub SubtreesFlagged : (Call → Bool) → List (List ℕ) → List Note → Type 0
SubtreesFlagged of users notes = Each (SubtreesFlaggedAt of users) notes

-- ---- all of it

-- what holds before sessions take locks and operations
pub record KeptWithoutLocks (script : Script) (notes : List Note) (lines : List AnswerLine) : Type 0 where
  pub stops : StopsKept script.stops notes
  pub evicts : Each EvictsMembersAt notes
  pub silent : Each VoidIsSilentAt notes
  pub cuts : CutsInTime script notes
  pub cut_once : Each CutOnceAt notes
  pub reclaims : Each ReclaimsLostAt notes
  pub in_order : Each InOrderAt notes
  pub ends : EndsKept script notes lines

-- what holds of every run
pub record Kept (script : Script) (notes : List Note) (lines : List AnswerLine) : Type 0 where
  pub kept : KeptWithoutLocks script notes lines
  pub held : AnswersHeld (users_of script) notes
  pub flagged : SubtreesFlagged (λ c. true) (users_of script) notes
