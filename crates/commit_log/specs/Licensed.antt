-- Every conflict that a session met was there. This project's own.
use Rattle.std.specs.Prelude.{◌≡◌, ◌<◌, ◌≤◌, Bool, true, not, ◌&&◌, ◌||◌, ◌==◌, List, length, drop, IsSomeAnd}
use Rattle.std.specs.List.{list_any, position}
use Rattle.hops_base.specs.declared.ids.SessionId.{SessionId}
use Rattle.name_space.specs.Call.{changes}
use Rattle.commit_log.specs.declared.note.Note.{Note}
use Rattle.commit_log.specs.declared.note.Work.{Work}
use Rattle.commit_log.specs.declared.note.Cause.{Cause}
use Rattle.commit_log.specs.declared.note.Cause.TheVariants.{Locked, Flagged, Changed, Lost}
use Rattle.commit_log.specs.Along.{Each}
use Rattle.commit_log.specs.Parts.{Where, passes, opens_session, Answering, did, wrote, Flagging, flagged, reclaims_by, Taking, met}
use Rattle.commit_log.specs.Locks.{held, clashes, is_of}
use Rattle.commit_log.specs.Flags.{flags, is_live}

-- the sessions are two
abbrev pub differs : SessionId → SessionId → Bool
differs s t = not (s.0 == t.0)

-- another session commits a step of an operation, or answers a call that isn't one that only looks, granted or not
abbrev pub is_change_beside : SessionId → Note → Bool
is_change_beside s note =
    passes (λ (w : SessionId × Work). differs s w.0) (wrote note)
    || passes (λ (a : Answering). differs s a.session && changes a.call) (did note)

-- the session set the operation's flag
abbrev pub is_flag_by : SessionId → Flagging → Bool
is_flag_by s flag = flag.session.0 == s.0

-- the cause was there for the session, where these notes stand before it
abbrev pub Found : List Note → SessionId → Cause → Type 0
Found before s (Locked key mode holder) = list_any (λ (lock : Taking). clashes s key mode lock && is_of holder lock) (held before) ≡ true
Found before s (Flagged op) =
    list_any (λ (flag : Flagging). (flag.op.0 == op.0) && is_live before flag && not (is_flag_by s flag)) (flags before) ≡ true
Found before s (Changed from) =
    IsSomeAnd (position (opens_session s) before) (λ opening. opening < from)
    × (from ≤ length before)
    × (list_any (is_change_beside s) (drop from before) ≡ true)
Found before s (Lost op) =
    (list_any (λ (note : Note). passes (λ (flag : Flagging). (flag.op.0 == op.0) && is_flag_by s flag) (flagged note)) before ≡ true)
    × (list_any (reclaims_by (differs s) op) before ≡ true)

-- what a session met was there
abbrev pub LicensedAt : List Note → Note → Type 0
LicensedAt before note = Where (λ (m : SessionId × Cause). Found before m.0 m.1) (met note)

-- all that was met was there
abbrev pub Licensed : List Note → Type 0
Licensed notes = Each LicensedAt notes
