-- Namenodes that stop, each right at a commit that was set for it. This project's own.
use Rattle.std.specs.Prelude.{◌≡◌, ℕ, ◌+◌, Bool, true, false, ◌&&◌, ◌||◌, ◌==◌, if◌then◌else◌, List, [], ◌∷◌, ◌++◌, nat_lt, reverse, slice_get, Option}
use Rattle.std.specs.List.{list_any, list_all}
use Rattle.hops_base.specs.declared.ids.NodeNo.{NodeNo}
use Rattle.commit_log.specs.declared.note.Note.{Note}
use Rattle.commit_log.specs.Along.{Each}
use Rattle.commit_log.specs.Parts.{Where, passes, Opening, opened, is_at, is_commit, is_gave, stopped_in, is_stop_of, actor}

-- the note is a commit of a session that was opened at the namenode
abbrev pub commits_at : List Note → NodeNo → Note → Bool
commits_at notes node note = is_commit note && passes (is_at notes node) (actor note)

-- how many of these notes are commits of the namenode's sessions, where others stand before them
abbrev pub commits_from : NodeNo → List Note → List Note → ℕ
commits_from node before [] = 0
commits_from node before (note ∷ notes) = (if commits_at before node note then 1 else 0) + commits_from node (before ++ note ∷ []) notes

-- how many commits of the namenode's sessions stand in these notes
abbrev pub commits_of : List Note → NodeNo → ℕ
commits_of notes node = commits_from node [] notes

-- the note that has so many behind it
abbrev pub from_end : ℕ → List Note → Option Note
from_end k notes = slice_get (reverse notes) k

-- the last of these notes is a commit of the namenode, or a Gave right behind one
abbrev pub has_just_committed : NodeNo → List Note → Bool
has_just_committed node notes =
    passes (commits_at notes node) (from_end 0 notes)
    || passes is_gave (from_end 0 notes) && passes (commits_at notes node) (from_end 1 notes)

-- the namenode is to stop at its commit of this number, where these stops are set
abbrev pub is_set_to_stop : List (NodeNo × ℕ) → NodeNo → ℕ → Bool
is_set_to_stop set node commits = list_any (λ (stop : NodeNo × ℕ). (stop.0.0 == node.0) && (stop.1 == commits)) set

-- a namenode stops right at the commit that was set
abbrev pub StopsInTimeAt : List (NodeNo × ℕ) → List Note → Note → Type 0
StopsInTimeAt set before note = Where (λ (n : NodeNo).
    (is_set_to_stop set n (commits_of before n) ≡ true) × (has_just_committed n before ≡ true)) (stopped_in note)

-- the namenode has stopped, or hasn't come to the commit at which it is to
abbrev pub has_stopped : List Note → NodeNo × ℕ → Bool
has_stopped notes stop = nat_lt (commits_of notes stop.0) stop.1 || list_any (is_stop_of stop.0) notes

-- no session is opened where the namenode has stopped
abbrev pub OpensNoMoreAt : List Note → Note → Type 0
OpensNoMoreAt before note = Where (λ (o : Opening). list_any (is_stop_of o.node) before ≡ false) (opened note)

-- namenodes stop at the commits that were set for them, and only there
pub record StopsKept (set : List (NodeNo × ℕ)) (notes : List Note) : Type 0 where
  pub in_time : Each (StopsInTimeAt set) notes
  pub all : list_all (has_stopped notes) set ≡ true
  pub no_more : Each OpensNoMoreAt notes
