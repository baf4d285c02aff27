-- What tells, of any session, whether a lock that it took is still held. This project's own.
use Rattle.std.specs.Prelude.{◌≡◌, ℕ, suc, Bool, not, ◌||◌, max, List, [], ◌∷◌, ◌++◌, map, Some}
use Rattle.std.specs.BTreeMap.{get}
use Rattle.std.specs.List.{cons_option}
use Rattle.hops_base.specs.declared.ids.SessionId.{SessionId}
use Rattle.hops_base.specs.declared.ids.NodeNo.{NodeNo}
use Rattle.commit_log.specs.declared.note.Note.{Note}
use Rattle.commit_log.specs.declared.held.LockMarks.{LockMarks}
use Rattle.commit_log.specs.declared.held.Taken.{Taken}
use Rattle.commit_log.specs.Parts.{passes, Taking, took, is_loss_of}
use Rattle.commit_log.specs.Places.{last_end, opening_end, is_past, gives_all}
use Rattle.commit_log.specs.Reads.{Lock, lock_of, session_cmp, node_cmp}

-- the maps have what they are to keep of these notes
pub record IsLockMarks (notes : List Note) (marks : LockMarks) : Type 0 where
  pub opening : (s : SessionId) → get session_cmp marks.opened s ≡ opening_end s notes
  pub giving : (s : SessionId) → get session_cmp marks.gave s ≡ last_end (gives_all s) notes
  pub loss : (node : NodeNo) → get node_cmp marks.gone node ≡ last_end (is_loss_of node) notes

-- the namenode, after so many notes
abbrev pub counted_at : ℕ → NodeNo → ℕ × NodeNo
counted_at count node = (count, node)

-- the session's namenode was gone after its opening and after so many notes
abbrev pub is_lost_after : LockMarks → ℕ → ℕ × NodeNo → Bool
is_lost_after marks count e = is_past (Some (max count e.0)) (get node_cmp marks.gone e.1)

-- nothing has given back a lock that the session took by the last of so many notes
abbrev pub stays_on : LockMarks → ℕ → SessionId → Bool
stays_on marks count s =
    not (is_past (Some count) (get session_cmp marks.gave s) || passes (is_lost_after marks count) (get session_cmp marks.opened s))

-- what a session took, the last of so many notes telling so
abbrev pub taken_as : ℕ → Taking → Taken
taken_as count t = record { count = count; lock = lock_of t }

-- what the note takes, the last of so many
abbrev pub taken_at : ℕ → Note → List Taken
taken_at count note = map (taken_as count) (cons_option (took note) [])

-- all that is taken among these notes, where so many stand before them
abbrev pub taken_from : ℕ → List Note → List Taken
taken_from k [] = []
taken_from k (note ∷ notes) = taken_at (suc k) note ++ taken_from (suc k) notes

-- nothing has given it back
abbrev pub is_lasting : LockMarks → Taken → Bool
is_lasting marks taken = stays_on marks taken.count taken.lock.0

-- its lock
abbrev pub lock_in : Taken → Lock
lock_in taken = taken.lock
