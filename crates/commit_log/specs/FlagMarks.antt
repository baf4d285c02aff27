-- What tells, of any operation and session, whether its flag is set. This project's own.
use Rattle.std.specs.Prelude.{◌≡◌, Bool, not, ◌||◌, ◌&&◌, ◌==◌, List}
use Rattle.std.specs.BTreeMap.{get}
use Rattle.hops_base.specs.declared.ids.SessionId.{SessionId}
use Rattle.hops_base.specs.declared.ids.OpId.{OpId}
use Rattle.commit_log.specs.declared.note.Note.{Note}
use Rattle.commit_log.specs.declared.flagged.FlagMarks.{FlagMarks}
use Rattle.commit_log.specs.Parts.{is_answer_of, Flagging, flags_op}
use Rattle.commit_log.specs.Places.{first_end, last_end, is_past, reclaims_op}
use Rattle.commit_log.specs.Reads.{op_cmp, session_cmp}

-- the maps have what they are to keep of these notes
pub record IsFlagMarks (notes : List Note) (marks : FlagMarks) : Type 0 where
  pub flag : (op : OpId) → get op_cmp marks.flagged op ≡ first_end (flags_op op) notes
  pub reclaim : (op : OpId) → get op_cmp marks.reclaimed op ≡ last_end (reclaims_op op) notes
  pub answer : (s : SessionId) → get session_cmp marks.answered s ≡ last_end (is_answer_of s) notes

-- nothing has ended the operation of this session since its flag
abbrev pub runs_on : FlagMarks → OpId → SessionId → Bool
runs_on marks op s =
    not (is_past (get op_cmp marks.flagged op) (get op_cmp marks.reclaimed op)
    || is_past (get op_cmp marks.flagged op) (get session_cmp marks.answered s))

-- the operation and the session of a flag
abbrev pub op_and_session : Flagging → OpId × SessionId
op_and_session f = (f.op, f.session)

-- the flag is of the operation, and nothing has ended it
abbrev pub runs_as : FlagMarks → OpId → OpId × SessionId → Bool
runs_as marks op flag = runs_on marks flag.0 flag.1 && (flag.0.0 == op.0)
