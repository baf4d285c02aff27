-- Laws of what a book says is held, set, there and numbered, and of the book of a run of one client.
use Rattle.std.specs.Prelude.{◌≡◌, ◌≢◌, ℕ, ◌+◌, ◌*◌, ◌<◌, true, false, not, ◌&&◌, ◌||◌, ◌==◌, if◌then◌else◌, List, [], ◌∷◌, ◌++◌, length, map, slice_get, Some, None, IsSome, is_some}
use Rattle.std.specs.List.{filter, filter_map, list_any, Contains}
use Rattle.std.specs.List.Sorted.{IsStrictlySortedBy}
use Rattle.std.specs.Ordering.{nat_cmp}
use Rattle.hops_base.specs.Ids.{client}
use Rattle.hops_base.specs.declared.ids.ClientNo.{ClientNo}
use Rattle.hops_base.specs.declared.ids.Mode.TheVariants.{Shared}
use Rattle.hops_base.specs.declared.ids.NodeNo.{NodeNo}
use Rattle.hops_base.specs.declared.ids.OpId.{OpId}
use Rattle.hops_base.specs.declared.ids.SessionId.{SessionId}
use Rattle.name_space.specs.Calls as calls
use Rattle.name_space.specs.declared.call.Call.{Call}
use Rattle.name_space.specs.declared.call.OpKind.{OpKind}
use Rattle.name_space.specs.declared.reply.Reply.{Reply}
use Rattle.name_space.specs.Namespace.{Namespace, Path, exists, opening}
use Rattle.name_space.specs.Script.{Script, call_of, users_of}
use Rattle.commit_log.specs.declared.note.Ended.{Ended}
use Rattle.commit_log.specs.declared.note.Note.{Note}
use Rattle.commit_log.specs.declared.note.Note.TheVariants.{Gave, Wrote, Did, Gone}
use Rattle.commit_log.specs.declared.note.Work.TheVariants.{Flag, Reclaim}
use Rattle.commit_log.specs.Along.{Each}
use Rattle.commit_log.specs.Answers.{Answers}
use Rattle.commit_log.specs.Flags.{flags, ends_flag, is_live}
use Rattle.commit_log.specs.Ids.{ids, id_at}
use Rattle.commit_log.specs.Kept.{KeptWithoutLocks}
use Rattle.commit_log.specs.Lasting.{IsTaken}
use Rattle.commit_log.specs.Legal.{applied, Legal, space, space_after}
use Rattle.commit_log.specs.Licensed.{Licensed}
use Rattle.commit_log.specs.Locks.{held, is_of, Sound}
use Rattle.commit_log.specs.Members.{is_void}
use Rattle.commit_log.specs.OneClient.{Turn, calls_made, replies_told, opens_turn, does_turn, turns_book, turn_line, turns_lines, IsSingleRun}
use Rattle.commit_log.specs.Orderly.{NumberedAt, Orderly}
use Rattle.commit_log.specs.Parts.{Opening, opened, opens_session, opening_of, is_at, Answering, did, Flagging, flagged, flags_op, flag_of, Taking, is_loss_of, is_eviction_of}
use Rattle.commit_log.specs.Reads.{tells_history, journal, Lock, lock_of, lock_cmp, op_of, HoldsExactly, FlagsExactly}
use Rattle.commit_log.specs.Stops.{commits_at, commits_of}
use Rattle.commit_log.specs.Told.{Told, cut_in, CutsExplained}

-- ---- locks

-- what is held was taken, and nothing after that gave it back
abbrev pub HeldWasTaken : Type 0
HeldWasTaken = (notes : List Note) (lock : Taking) → Contains (held notes) lock → IsTaken notes lock

-- what was taken is held, where nothing after that gave it back
abbrev pub TakenIsHeld : Type 0
TakenIsHeld = (notes : List Note) (lock : Taking) → IsTaken notes lock → Contains (held notes) lock

-- a session holds nothing once it has given its locks back
abbrev pub GaveHoldsNothing : Type 0
GaveHoldsNothing = (notes : List Note) (s : SessionId) → list_any (is_of s) (held (notes ++ Gave s ∷ [])) ≡ false

-- nor once it has answered
abbrev pub DidHoldsNothing : Type 0
DidHoldsNothing =
    (notes : List Note) (s : SessionId) (client : ClientNo) (number : ℕ) (call : Call) (reads : ℕ) (reply : Reply)
    → list_any (is_of s) (held (notes ++ Did s client number call reads reply ∷ [])) ≡ false

-- nor do the sessions of a namenode once it is gone
abbrev pub GoneHoldsNothing : Type 0
GoneHoldsNothing =
    (notes : List Note) (node : NodeNo) (ended : Ended)
    → list_any (λ (lock : Taking). is_at notes node lock.session) (held (notes ++ Gone node ended ∷ [])) ≡ false

-- in a sound book two sessions hold one key only where both share it
abbrev pub SoundLocksAreShared : Type 0
SoundLocksAreShared =
    (notes : List Note) → Sound notes → (a b : Taking) → Contains (held notes) a → Contains (held notes) b
    → a.session.0 ≢ b.session.0 → a.key ≡ b.key → (a.mode ≡ Shared) × (b.mode ≡ Shared)

-- what is held is listed
abbrev pub HeldIsListed : Type 0
HeldIsListed =
    (notes : List Note) (locks : List Lock) (lock : Taking) → HoldsExactly notes locks → Contains (held notes) lock
    → Contains locks (lock_of lock)

-- what is listed is held
abbrev pub ListedIsHeld : Type 0
ListedIsHeld =
    (notes : List Note) (locks : List Lock) (lock : Taking) → HoldsExactly notes locks → Contains locks (lock_of lock)
    → Contains (held notes) lock

-- in a sound book each is listed once
abbrev pub ListedOnce : Type 0
ListedOnce = (notes : List Note) (locks : List Lock) → Sound notes → HoldsExactly notes locks → IsStrictlySortedBy lock_cmp locks

-- ---- order

-- where sessions are numbered in turn, each is opened once
abbrev pub SessionsAreNew : Type 0
SessionsAreNew =
    (notes : List Note) (note : Note) (o : Opening) → Each NumberedAt notes → NumberedAt notes note → opened note ≡ Some o
    → list_any (opens_session o.session) notes ≡ false

-- so is each operation flagged once
abbrev pub OperationsAreNew : Type 0
OperationsAreNew =
    (notes : List Note) (note : Note) (flag : Flagging) → Each NumberedAt notes → NumberedAt notes note → flagged note ≡ Some flag
    → list_any (flags_op flag.op) notes ≡ false

-- where operations are numbered in turn, those that are listed are those of the flags, in their order
abbrev pub FlagsAreListed : Type 0
FlagsAreListed = (notes : List Note) (ops : List OpId) → Each NumberedAt notes → FlagsExactly notes ops → ops ≡ map op_of (flags notes)

-- each session in the book of a script's run is opened for one of its calls, at one of its namenodes
abbrev pub OpenedForTheScript : Type 0
OpenedForTheScript =
    (script : Script) (notes : List Note) → Orderly script notes
    → (i : ℕ) (note : Note) (o : Opening) → slice_get notes i ≡ Some note → opened note ≡ Some o
    → IsSome (call_of script o.client o.number) × (o.node.0 < script.namenodes)

-- each answer is to the call that the script has there
abbrev pub AnsweredForTheScript : Type 0
AnsweredForTheScript =
    (script : Script) (notes : List Note) → Orderly script notes
    → (i : ℕ) (note : Note) (a : Answering) → slice_get notes i ≡ Some note → did note ≡ Some a
    → call_of script a.client a.number ≡ Some a.call

-- ---- openings and flags

-- openings stay as they were told first
abbrev pub OpeningsStay : Type 0
OpeningsStay = (before after : List Note) (s : SessionId) (o : Opening) → opening_of before s ≡ Some o → opening_of (before ++ after) s ≡ Some o

-- so do flags
abbrev pub FlaggingsStay : Type 0
FlaggingsStay = (before after : List Note) (op : OpId) (flag : Flagging) → flag_of before op ≡ Some flag → flag_of (before ++ after) op ≡ Some flag

-- a new operation's flag is set behind the others
abbrev pub FlagIsSet : Type 0
FlagIsSet =
    (notes : List Note) (s : SessionId) (op : OpId) (kind : OpKind) (path : Path) → list_any (flags_op op) notes ≡ false
    → flags (notes ++ Wrote s (Flag op kind path) ∷ []) ≡ flags notes ++ record { op = op; session = s; kind = kind; path = path } ∷ []

-- an answer ends the flags of its session
abbrev pub AnswerEndsFlags : Type 0
AnswerEndsFlags =
    (notes : List Note) (s : SessionId) (client : ClientNo) (number : ℕ) (call : Call) (reads : ℕ) (reply : Reply)
    → flags (notes ++ Did s client number call reads reply ∷ []) ≡ filter (λ (f : Flagging). not (s.0 == f.session.0)) (flags notes)

-- a reclaim ends that of its operation
abbrev pub ReclaimEndsFlag : Type 0
ReclaimEndsFlag =
    (notes : List Note) (s : SessionId) (op : OpId)
    → flags (notes ++ Wrote s (Reclaim op) ∷ []) ≡ filter (λ (f : Flagging). not (op.0 == f.op.0)) (flags notes)

-- other notes leave the flags
abbrev pub OthersLeaveFlags : Type 0
OthersLeaveFlags =
    (notes : List Note) (note : Note) → flagged note ≡ None → ((f : Flagging) → ends_flag f note ≡ false)
    → flags (notes ++ note ∷ []) ≡ flags notes

-- ---- the history

-- a note that is neither an answer nor a cut leaves the namespace
abbrev pub OthersLeaveSpace : Type 0
OthersLeaveSpace =
    (users : List (List ℕ)) (notes : List Note) (note : Note) → did note ≡ None → cut_in note ≡ None
    → space users (notes ++ note ∷ []) ≡ space users notes

-- a note that leaves the namespace leaves the ids
abbrev pub IdsFollowSpace : Type 0
IdsFollowSpace =
    (users : List (List ℕ)) (notes : List Note) (note : Note) → space_after users (space users notes) note ≡ space users notes
    → ids users (notes ++ note ∷ []) ≡ ids users notes

-- the paths that have an id are those of the namespace
abbrev pub PathsHaveIds : Type 0
PathsHaveIds = (users : List (List ℕ)) (notes : List Note) (path : Path) → is_some (id_at (ids users notes) path) ≡ exists (space users notes) path

-- the journal has the numbers of the notes that tell the history
abbrev pub JournalHasTheHistory : Type 0
JournalHasTheHistory = (notes : List Note) → filter_map (slice_get notes) (journal notes) ≡ filter tells_history notes

-- these numbers rise
abbrev pub JournalRises : Type 0
JournalRises = (notes : List Note) → IsStrictlySortedBy nat_cmp (journal notes)

-- these notes alone are as legal as the book
abbrev pub LegalWithoutOthers : Type 0
LegalWithoutOthers = (users : List (List ℕ)) (notes : List Note) → Legal users notes → Legal users (filter tells_history notes)

-- and no less
abbrev pub LegalByTheHistory : Type 0
LegalByTheHistory = (users : List (List ℕ)) (notes : List Note) → Legal users (filter tells_history notes) → Legal users notes

-- they have its last namespace
abbrev pub SpaceByTheHistory : Type 0
SpaceByTheHistory = (users : List (List ℕ)) (notes : List Note) → space users (filter tells_history notes) ≡ space users notes

-- ---- namenodes

-- commits are counted note by note
abbrev pub CommitsAreCounted : Type 0
CommitsAreCounted =
    (notes : List Note) (note : Note) (node : NodeNo)
    → commits_of (notes ++ note ∷ []) node ≡ commits_of notes node + (if commits_at notes node note then 1 else 0)

-- a session is void once its namenode is gone
abbrev pub GoneVoidsSessions : Type 0
GoneVoidsSessions =
    (notes : List Note) (note : Note) (s : SessionId) (o : Opening) → opening_of notes s ≡ Some o
    → is_void (notes ++ note ∷ []) s ≡ (is_void notes s || is_loss_of o.node note)

-- a flag is live until its namenode is evicted
abbrev pub EvictionEndsLife : Type 0
EvictionEndsLife =
    (notes : List Note) (note : Note) (flag : Flagging) (o : Opening) → opening_of notes flag.session ≡ Some o
    → list_any (flags_op flag.op) notes ≡ true
    → is_live (notes ++ note ∷ []) flag ≡ (is_live notes flag && not (is_eviction_of o.node note))

-- ---- the turns of one client

-- one turn more writes two notes behind those of the turns before
abbrev pub TurnWritesTwoNotes : Type 0
TurnWritesTwoNotes =
    (turns : List Turn) (turn : Turn)
    → turns_book 0 (turns ++ turn ∷ []) ≡ turns_book 0 turns ++ opens_turn (length turns + 1) ∷ does_turn (length turns + 1) turn ∷ []

-- and a line
abbrev pub TurnWritesALine : Type 0
TurnWritesALine = (turns : List Turn) (turn : Turn) → turns_lines 0 (turns ++ turn ∷ []) ≡ turns_lines 0 turns ++ turn_line (length turns) turn ∷ []

-- so each turn has two notes
abbrev pub TurnsHaveTwoNotes : Type 0
TurnsHaveTwoNotes = (n : ℕ) (turns : List Turn) → length (turns_book n turns) ≡ 2 * length turns

-- the book stays legal where the turn's reply is that of its call on the last namespace
abbrev pub TurnStaysLegal : Type 0
TurnStaysLegal =
    (users : List (List ℕ)) (turns : List Turn) (turn : Turn) → Legal users (turns_book 0 turns)
    → calls.as_read turn.reply ≡ (applied users (space users (turns_book 0 turns)) (client 0) turn.call).reply
    → Legal users (turns_book 0 (turns ++ turn ∷ []))

-- the last namespace is then that after its call
abbrev pub TurnGoesOn : Type 0
TurnGoesOn =
    (users : List (List ℕ)) (turns : List Turn) (turn : Turn)
    → space users (turns_book 0 (turns ++ turn ∷ [])) ≡ (applied users (space users (turns_book 0 turns)) (client 0) turn.call).space

-- a legal book of turns has the replies of the plain calls
abbrev pub LegalTurnsArePlain : Type 0
LegalTurnsArePlain =
    (user : List ℕ) (turns : List Turn) → Legal (user ∷ []) (turns_book 0 turns)
    → replies_told turns ≡ calls.replies_of opening (client 0) user (calls_made turns)

-- with these replies it is legal
abbrev pub PlainTurnsAreLegal : Type 0
PlainTurnsAreLegal =
    (user : List ℕ) (turns : List Turn) → replies_told turns ≡ calls.replies_of opening (client 0) user (calls_made turns)
    → Legal (user ∷ []) (turns_book 0 turns)

-- its last namespace is the one after them
abbrev pub SpaceOfTurnsIsPlain : Type 0
SpaceOfTurnsIsPlain =
    (user : List ℕ) (turns : List Turn) → space (user ∷ []) (turns_book 0 turns) ≡ calls.space_after_calls opening (client 0) user (calls_made turns)

-- a single run's book is in order
abbrev pub SingleIsOrderly : Type 0
SingleIsOrderly = (script : Script) (turns : List Turn) → IsSingleRun script turns → Orderly script (turns_book 0 turns)

-- it takes no lock
abbrev pub SingleIsSound : Type 0
SingleIsSound = (turns : List Turn) → Sound (turns_book 0 turns)

-- it answers its script
abbrev pub SingleAnswers : Type 0
SingleAnswers = (script : Script) (turns : List Turn) → IsSingleRun script turns → Answers script (turns_book 0 turns) (turns_lines 0 turns)

-- it meets nothing
abbrev pub SingleIsLicensed : Type 0
SingleIsLicensed = (turns : List Turn) → Licensed (turns_book 0 turns)

-- it cuts nothing
abbrev pub SingleIsExplained : Type 0
SingleIsExplained = (turns : List Turn) → CutsExplained (turns_book 0 turns)

-- where it is legal too, it is told by its book, its lines and its last namespace
abbrev pub SingleIsTold : Type 0
SingleIsTold =
    (script : Script) (turns : List Turn) (tree : Namespace) → IsSingleRun script turns → Legal (users_of script) (turns_book 0 turns)
    → tree ≡ space (users_of script) (turns_book 0 turns) → Told script (turns_book 0 turns) (turns_lines 0 turns) tree

-- it keeps what runs keep before there are locks
abbrev pub SingleIsKept : Type 0
SingleIsKept = (script : Script) (turns : List Turn) → IsSingleRun script turns → KeptWithoutLocks script (turns_book 0 turns) (turns_lines 0 turns)
