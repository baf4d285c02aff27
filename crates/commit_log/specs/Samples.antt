-- Samples: short words for the small books of the worked examples. Nothing else rests on them.
use Rattle.std.specs.Prelude.{◌≡◌, ℕ, ◌<◌, ◌≤◌, true, false, List, [], ◌∷◌, codes}
use Rattle.hops_base.specs.declared.ids.NodeNo.{NodeNo}
use Rattle.hops_base.specs.Ids.{session, operation, client, node}
use Rattle.hops_base.specs.declared.ids.Mode.TheVariants.{Shared, Exclusive}
use Rattle.hops_base.specs.declared.key.Key.{Key}
use Rattle.hops_base.specs.declared.key.Key.TheVariants as key
use Rattle.name_space.specs.declared.call.Call.{Call}
use Rattle.name_space.specs.declared.call.Call.TheVariants as call
use Rattle.name_space.specs.declared.call.OpKind.{OpKind}
use Rattle.name_space.specs.declared.call.OpKind.TheVariants as kind
use Rattle.name_space.specs.declared.entry.FileStatus.TheVariants as status
use Rattle.name_space.specs.declared.reply.Reply.{Reply}
use Rattle.name_space.specs.declared.reply.Reply.TheVariants.{Truth, Status, Entries, Refused}
use Rattle.name_space.specs.declared.reply.Exception.TheVariants.{FileNotFound}
use Rattle.name_space.specs.Call.{is_valid}
use Rattle.name_space.specs.Namespace.{Path}
use Rattle.name_space.specs.Script.{Script, ClientCalls}
pub use Rattle.name_space.specs.Examples.{ann}
use Rattle.commit_log.specs.declared.note.Note.{Note}
use Rattle.commit_log.specs.declared.note.Note.TheVariants.{Open, Took, Gave, Wrote, Did, Cut, Met, Gone}
use Rattle.commit_log.specs.declared.note.Work.TheVariants.{Flag, Batch, Reclaim}
use Rattle.commit_log.specs.declared.note.Cause.TheVariants.{Locked, Flagged, Changed, Lost}
use Rattle.commit_log.specs.declared.note.Ended.TheVariants.{Stopped, Evicted}
use Rattle.commit_log.specs.Parts.{Taking}
use Rattle.commit_log.specs.Terms.{Terms}
use Rattle.commit_log.specs.declared.answer.AnswerLine.{AnswerLine}
use Rattle.commit_log.specs.declared.answer.CallEnd.TheVariants.{Done, Again, NoNamenode}

-- ---- keys and paths

-- the key of the row with this name below the inode of this number
abbrev pub inode : ℕ → List ℕ → Key
inode parent name = key.Inode (record { 0 = parent }) name

-- the root's row
abbrev pub root : Key
root = inode 0 (codes "root")

-- the row of a client's last reply
abbrev pub reply_of : ℕ → Key
reply_of n = key.Reply (client n)

-- the path /d
abbrev pub d : Path
d = codes "d" ∷ []

-- the path /d/e
abbrev pub d_e : Path
d_e = codes "d" ∷ codes "e" ∷ []

-- the path /x
abbrev pub x : Path
x = codes "x" ∷ []

-- the path /d/x
abbrev pub d_x : Path
d_x = codes "d" ∷ codes "x" ∷ []

-- the paths /d/f, /d/e/f and /x/e
abbrev pub d_f : Path
d_f = codes "d" ∷ codes "f" ∷ []

abbrev pub d_e_f : Path
d_e_f = codes "d" ∷ codes "e" ∷ codes "f" ∷ []

abbrev pub x_e : Path
x_e = codes "x" ∷ codes "e" ∷ []

-- the inode keys of /d and of /d/e, where /d has id 2
abbrev pub d_key : Key
d_key = inode 1 (codes "d")

abbrev pub e_key : Key
e_key = inode 2 (codes "e")

-- ---- calls and scripts

-- the user of another client than ann
abbrev pub ben : List ℕ
ben = codes "ben"

-- ann is the only client
abbrev pub ann_alone : List (List ℕ)
ann_alone = ann ∷ []

-- the call makes /d/e
abbrev pub make : Call
make = call.Mkdirs d_e

-- it looks at it
abbrev pub look : Call
look = call.Stat d_e

-- it removes /d with all below
abbrev pub remove : Call
remove = call.Delete d true

-- it moves /d to /x
abbrev pub move_away : Call
move_away = call.Rename d x

-- the reply of a call that was granted
abbrev pub yes : Reply
yes = Truth true

-- the reply that tells of a directory of ann's
abbrev pub seen : Reply
seen = Status (status.Dir 493 ann)

-- the reply that tells that nothing is there
abbrev pub not_found : Reply
not_found = Refused FileNotFound

-- the call that lists the root, and the reply that tells of no child, with room for so many
abbrev pub list_root : Call
list_root = call.List []

abbrev pub none_listed : ℕ → Reply
none_listed room = Entries (record { items = []; room = room })

-- these clients make their calls at so many namenodes, where these stop at these commits, and calls persist
abbrev pub run_of : ℕ → List (NodeNo × ℕ) → List ClientCalls → Script
run_of namenodes stops clients =
    record { namenodes = namenodes; clients = clients; stops = stops; tries = 10000; grace = 64; persist = true }

-- ann makes these calls
abbrev pub run : ℕ → List Call → Script
run namenodes calls = run_of namenodes [] (record { user = ann; calls = calls } ∷ [])

-- ann and ben make these calls
abbrev pub run_at : ℕ → List (NodeNo × ℕ) → List Call → List Call → Script
run_at namenodes stops first second =
    run_of namenodes stops (record { user = ann; calls = first } ∷ record { user = ben; calls = second } ∷ [])

-- ann makes /d/e; she looks at it too; ben makes it too
abbrev pub one_call : Script
one_call = run 1 (make ∷ [])

abbrev pub two_calls : Script
two_calls = run 1 (make ∷ look ∷ [])

abbrev pub two_clients : Script
two_clients = run_at 1 [] (make ∷ []) (make ∷ [])

-- ann removes /d; she made /d/e before
abbrev pub one_delete : Script
one_delete = run 1 (remove ∷ [])

abbrev pub make_and_delete : Script
make_and_delete = run 2 (make ∷ remove ∷ [])

-- ann makes these calls, which give up after so many conflicts
abbrev pub run_giving_up : ℕ → List Call → Script
run_giving_up tries calls = record (run 1 calls) { tries = tries; persist = false }

-- they persist, though as many conflicts would be enough
abbrev pub run_persisting : ℕ → List Call → Script
run_persisting tries calls = record (run 1 calls) { tries = tries }

-- so many clients make any valid calls of any numbers, at so many namenodes
abbrev pub any_valid_calls : ℕ → ℕ → Terms
any_valid_calls clients namenodes = record {
  has_call = λ client number. (client.0 < clients) × (1 ≤ number);
  asks = λ client number call. is_valid call ≡ true;
  has_node = λ node. node.0 < namenodes;
}

-- ---- notes

-- a session of a client's call of this number at a namenode
abbrev pub opens : ℕ → ℕ → ℕ → ℕ → Note
opens s c number n = Open (session s) (client c) number (node n)

-- a session takes a key together with others
abbrev pub shares : ℕ → Key → Note
shares s k = Took (session s) k Shared

-- a session takes a key alone
abbrev pub takes : ℕ → Key → Note
takes s k = Took (session s) k Exclusive

-- a session gives its locks back
abbrev pub gives : ℕ → Note
gives s = Gave (session s)

-- a session sets the flag of an operation
abbrev pub sets_flag : ℕ → ℕ → OpKind → Path → Note
sets_flag s op kind path = Wrote (session s) (Flag (operation op) kind path)

-- a session removes a batch of an operation
abbrev pub batches : ℕ → ℕ → Note
batches s op = Wrote (session s) (Batch (operation op))

-- a session ends an operation
abbrev pub reclaims : ℕ → ℕ → Note
reclaims s op = Wrote (session s) (Reclaim (operation op))

-- a session answers a client's call of this number
abbrev pub does : ℕ → ℕ → ℕ → Call → Reply → Note
does s c number call reply = Did (session s) (client c) number call 1 reply

-- these paths below a path are cut from the history
abbrev pub cuts : ℕ → Path → List Path → Note
cuts op path gone = Cut (operation op) path (record { items = gone; room = 0 })

-- a session asks to share a key that another one holds
abbrev pub wants_shared : ℕ → Key → ℕ → Note
wants_shared s k holder = Met (session s) (Locked k Shared (session holder))

-- it asks for the key alone
abbrev pub wants : ℕ → Key → ℕ → Note
wants s k holder = Met (session s) (Locked k Exclusive (session holder))

-- a session finds the flag of an operation
abbrev pub meets_flag : ℕ → ℕ → Note
meets_flag s op = Met (session s) (Flagged (operation op))

-- a session finds a change since the book had so many notes
abbrev pub meets_change : ℕ → ℕ → Note
meets_change s from = Met (session s) (Changed from)

-- a session finds that its operation was reclaimed
abbrev pub meets_loss : ℕ → ℕ → Note
meets_loss s op = Met (session s) (Lost (operation op))

-- a namenode has stopped
abbrev pub stops : ℕ → Note
stops n = Gone (node n) Stopped

-- a namenode is evicted
abbrev pub evicts : ℕ → Note
evicts n = Gone (node n) Evicted

-- what a session took alone
abbrev pub taking : ℕ → Key → Taking
taking s k = record { session = session s; key = k; mode = Exclusive }

-- ann's session 1 is opened for her first call at namenode 0, and ben's session 2 for his there or at namenode 1
abbrev pub ann_opens : Note
ann_opens = opens 1 0 1 0

abbrev pub ben_opens : Note
ben_opens = opens 2 1 1 0

abbrev pub ben_opens_apart : Note
ben_opens_apart = opens 2 1 1 1

-- ann's session makes /d/e by her first call
abbrev pub ann_makes : Note
ann_makes = does 1 0 1 make yes

-- it holds the locks for that, and then come these notes
abbrev pub made_with_locks : List Note → List Note
made_with_locks notes = takes 1 root ∷ takes 1 (reply_of 0) ∷ ann_makes ∷ notes

-- her second session sees it, and ben's makes it
abbrev pub ann_looks : Note
ann_looks = does 2 0 2 look seen

abbrev pub ben_makes : Note
ben_makes = does 2 1 1 make yes

-- ann's session sets the flag of operation 1, which deletes /d
abbrev pub ann_flags : Note
ann_flags = sets_flag 1 1 kind.Delete d

-- /d/e is cut for operation 1
abbrev pub e_is_cut : Note
e_is_cut = cuts 1 d (d_e ∷ [])

-- ---- answers

-- a client's call of this number was done at a note
abbrev pub done : ℕ → ℕ → ℕ → Reply → AnswerLine
done c number i reply = record { client = client c; call = number; end = Done i reply }

-- it gave up at a note
abbrev pub gave_up : ℕ → ℕ → ℕ → AnswerLine
gave_up c number i = record { client = client c; call = number; end = Again i }

-- no namenode was left for it
abbrev pub left_alone : ℕ → ℕ → ℕ → AnswerLine
left_alone c number i = record { client = client c; call = number; end = NoNamenode i }
