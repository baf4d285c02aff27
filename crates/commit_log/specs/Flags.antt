-- The subtree flags that a book says are set. This project's own.
use Rattle.std.specs.Prelude.{Bool, true, not, ◌||◌, List}
use Rattle.std.specs.List.{filter, filter_map, list_any, after_first}
use Rattle.hops_base.specs.declared.ids.NodeNo.{NodeNo}
use Rattle.hops_base.specs.declared.ids.OpId.{OpId}
use Rattle.commit_log.specs.declared.note.Note.{Note}
use Rattle.commit_log.specs.Parts.{passes, Opening, opening_of, is_answer_of, Flagging, flagged, flags_op, reclaims_by, is_eviction_of}

-- the notes after the flag of an operation
abbrev pub since_flag : List Note → OpId → List Note
since_flag notes op = after_first (flags_op op) notes

-- the note ends the flag: the operation is reclaimed, or its session answers
abbrev pub ends_flag : Flagging → Note → Bool
ends_flag flag note = reclaims_by (λ s. true) flag.op note || is_answer_of flag.session note

-- the flag is set, and nothing has ended it
abbrev pub is_running : List Note → Flagging → Bool
is_running notes flag = not (list_any (ends_flag flag) (since_flag notes flag.op))

-- the flags that are set at the end of these notes, in their order
abbrev pub flags : List Note → List Flagging
flags notes = filter (is_running notes) (filter_map flagged notes)

-- such a note of the namenode of the flag's session stands after the flag
abbrev pub was_since : (NodeNo → Note → Bool) → List Note → Flagging → Bool
was_since test notes flag = passes (λ (o : Opening). list_any (test o.node) (since_flag notes flag.op)) (opening_of notes flag.session)

-- the namenode of the flag's session wasn't evicted since
abbrev pub is_live : List Note → Flagging → Bool
is_live notes flag = not (was_since is_eviction_of notes flag)
