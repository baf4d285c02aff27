-- Namenodes that are members, and the sessions of those that are not any more. This project's own.
use Rattle.std.specs.Prelude.{◌≡◌, Bool, true, not, ◌&&◌, ◌==◌, List, reverse}
use Rattle.std.specs.List.{list_any, after_first, take_while}
use Rattle.hops_base.specs.declared.ids.SessionId.{SessionId}
use Rattle.hops_base.specs.declared.ids.NodeNo.{NodeNo}
use Rattle.commit_log.specs.declared.note.Note.{Note}
use Rattle.commit_log.specs.declared.note.Cause.{Cause}
use Rattle.commit_log.specs.Parts.{Where, passes, Opening, opened, opens_session, opening_of, met, is_lost, is_loss_of, is_stop_of, evicted_in, is_eviction_of, actor}

-- the note opens a session at the namenode
abbrev pub opens_at : NodeNo → Note → Bool
opens_at node note = passes (λ (o : Opening). o.node.0 == node.0) (opened note)

-- the notes behind the last that passes the test, the last one first
abbrev pub since_last : (Note → Bool) → List Note → List Note
since_last test notes = take_while (λ (note : Note). not (test note)) (reverse notes)

-- the namenode is a member: a session was opened there since it was last evicted
abbrev pub is_member : List Note → NodeNo → Bool
is_member notes node = list_any (opens_at node) (since_last (is_eviction_of node) notes)

-- a session was opened at another namenode, which hasn't stopped
abbrev pub has_other : List Note → NodeNo → Bool
has_other notes node =
    list_any (λ (note : Note). passes (λ (o : Opening). not (o.node.0 == node.0) && not (list_any (is_stop_of o.node) notes)) (opened note)) notes

-- only members are evicted, and another namenode is there to do it
abbrev pub EvictsMembersAt : List Note → Note → Type 0
EvictsMembersAt before note = Where (λ (n : NodeNo). (is_member before n ≡ true) × (has_other before n ≡ true)) (evicted_in note)

-- the session's namenode was gone since it was opened
abbrev pub is_void : List Note → SessionId → Bool
is_void notes s = passes (λ (o : Opening). list_any (is_loss_of o.node) (after_first (opens_session s) notes)) (opening_of notes s)

-- a void session does nothing but learn that its operation is lost
abbrev pub VoidIsSilentAt : List Note → Note → Type 0
VoidIsSilentAt before note = Where (λ (s : SessionId).
    is_void before s ≡ true → passes (λ (m : SessionId × Cause). is_lost m.1) (met note) ≡ true) (actor note)
