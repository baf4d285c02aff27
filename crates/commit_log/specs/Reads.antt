-- What a book tells of itself at a place: its journal, the locks that are held and the operations whose flags are set. This project's own.
use Rattle.std.specs.Prelude.{◌≡◌, ℕ, Bool, ◌||◌, ◌==◌, List, map, is_some}
use Rattle.std.specs.List.{filter, enumerate_from, list_any}
use Rattle.std.specs.List.Sorted.{IsPermutation, IsSorted, IsStable, IsStrictlySortedBy}
use Rattle.std.specs.declared.cmp.Ordering.{Ordering}
use Rattle.std.specs.Ordering.{nat_cmp, on, then_cmp}
use Rattle.hops_base.specs.declared.ids.SessionId.{SessionId}
use Rattle.hops_base.specs.declared.ids.OpId.{OpId}
use Rattle.hops_base.specs.declared.ids.NodeNo.{NodeNo}
use Rattle.hops_base.specs.declared.ids.Mode.{Mode}
use Rattle.hops_base.specs.declared.key.Key.{Key}
use Rattle.hops_base.specs.Key.{key_cmp}
use Rattle.commit_log.specs.declared.note.Note.{Note}
use Rattle.commit_log.specs.Parts.{Taking, did, Flagging}
use Rattle.commit_log.specs.Told.{cut_in}
use Rattle.commit_log.specs.Locks.{held}
use Rattle.commit_log.specs.Flags.{flags}

-- the note is a Did or a Cut
abbrev pub tells_history : Note → Bool
tells_history note = is_some (did note) || is_some (cut_in note)

-- the numbers of the Did and Cut notes, where the first of these notes has this number
abbrev pub journal_from : ℕ → List Note → List ℕ
journal_from first notes = map (λ (e : ℕ × Note). e.0) (filter (λ (e : ℕ × Note). tells_history e.1) (enumerate_from first notes))

-- the numbers of the Did and Cut notes of a book
abbrev pub journal : List Note → List ℕ
journal notes = journal_from 0 notes

-- a lock as it is handed out
abbrev pub Lock : Type 0
Lock = SessionId × Key × Mode

-- the lock of what a session took
abbrev pub lock_of : Taking → Lock
lock_of t = (t.session, t.key, t.mode)

-- locks are listed by key and then by session
abbrev pub lock_cmp : Lock → Lock → Ordering
lock_cmp = then_cmp (on (λ (l : Lock). l.1) key_cmp) (on (λ (l : Lock). l.0.0) nat_cmp)

-- these are the locks that are held at the end of the notes, by key and then by session. Where a session has taken a key
-- twice, what it took first stands first.
pub record HoldsExactly (notes : List Note) (locks : List Lock) : Type 0 where
  pub all : IsPermutation (map lock_of (held notes)) locks
  pub rise : IsSorted lock_cmp locks
  pub stable : IsStable lock_cmp (map lock_of (held notes)) locks

-- operations rise by their numbers
abbrev pub op_cmp : OpId → OpId → Ordering
op_cmp = on (λ (op : OpId). op.0) nat_cmp

-- the operation of a flag
abbrev pub op_of : Flagging → OpId
op_of f = f.op

-- the flag of the operation is set at the end of the notes
abbrev pub is_flagged : List Note → OpId → Bool
is_flagged notes op = list_any (λ (f : Flagging). f.op.0 == op.0) (flags notes)

-- these are the operations whose flags are set at the end of the notes, rising
pub record FlagsExactly (notes : List Note) (ops : List OpId) : Type 0 where
  pub rise : IsStrictlySortedBy op_cmp ops
  pub members : (op : OpId) → list_any (λ (o : OpId). o.0 == op.0) ops ≡ is_flagged notes op

-- sessions rise by their numbers
abbrev pub session_cmp : SessionId → SessionId → Ordering
session_cmp = on (λ (s : SessionId). s.0) nat_cmp

-- namenodes rise by their numbers
abbrev pub node_cmp : NodeNo → NodeNo → Ordering
node_cmp = on (λ (node : NodeNo). node.0) nat_cmp
