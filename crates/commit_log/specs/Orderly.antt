-- The order of a book: sessions and operations by number, each in its time, and each call answered once. This project's
-- own.
use Rattle.std.specs.Prelude.{◌≡◌, ℕ, ◌+◌, ◌⊎◌, Bool, true, false, ◌&&◌, ◌||◌, ◌==◌, List, IsSome, is_some}
use Rattle.std.specs.List.{list_any, count_by}
use Rattle.hops_base.specs.declared.ids.SessionId.{SessionId}
use Rattle.name_space.specs.Script.{Script}
use Rattle.commit_log.specs.declared.note.Note.{Note}
use Rattle.commit_log.specs.declared.note.Work.{Work}
use Rattle.commit_log.specs.declared.note.Cause.{Cause}
use Rattle.commit_log.specs.Along.{Each}
use Rattle.commit_log.specs.Parts.{Where, passes, Opening, opened, opening_of, is_for, Answering, did, answers_call, is_answer_of, wrote, Flagging, flagged, reclaimed, met, is_lost, actor}
use Rattle.commit_log.specs.Terms.{Terms, terms_of}

-- how many sessions the notes open
abbrev pub openings : List Note → ℕ
openings notes = count_by (λ (note : Note). is_some (opened note)) notes

-- how many flags they set
abbrev pub flaggings : List Note → ℕ
flaggings notes = count_by (λ (note : Note). is_some (flagged note)) notes

-- sessions are opened and operations are flagged by number from 1 on
abbrev pub NumberedAt : List Note → Note → Type 0
NumberedAt before note =
    Where (λ (o : Opening). o.session.0 ≡ openings before + 1) (opened note)
    × Where (λ (f : Flagging). f.op.0 ≡ flaggings before + 1) (flagged note)

-- a session is opened for a call and at a namenode of the run
abbrev pub AllowedAt : Terms → List Note → Note → Type 0
AllowedAt terms before note = Where (λ (o : Opening). terms.has_call o.client o.number × terms.has_node o.node) (opened note)

-- the closing sweep reclaims an operation
abbrev pub is_sweep : Note → Bool
is_sweep note = passes (λ (w : SessionId × Work). (w.0.0 == 0) && is_some (reclaimed w.1)) (wrote note)

-- a session was opened before it acts; the closing sweep isn't
abbrev pub OpenedAt : List Note → Note → Type 0
OpenedAt before note = Where (λ (s : SessionId). IsSome (opening_of before s) ⊎ (is_sweep note ≡ true)) (actor note)

-- the note ends the session: it is a Did, or a Met by which its operation is lost
abbrev pub ends : SessionId → Note → Bool
ends s note = is_answer_of s note || passes (λ (m : SessionId × Cause). (m.0.0 == s.0) && is_lost m.1) (met note)

-- a session that has ended acts no more
abbrev pub UnendedAt : List Note → Note → Type 0
UnendedAt before note = Where (λ (s : SessionId). list_any (ends s) before ≡ false) (actor note)

-- a Did is of the call for which its session was opened, the call is one of the run, and no call has two
abbrev pub AnsweredAt : Terms → List Note → Note → Type 0
AnsweredAt terms before note = Where (λ (a : Answering).
    (is_for before a.client a.number a.session ≡ true)
    × terms.asks a.client a.number a.call
    × (list_any (answers_call a.client a.number) before ≡ false)) (did note)

-- the book of a run on these terms is in order
pub record OrderlyBy (terms : Terms) (notes : List Note) : Type 0 where
  pub numbered : Each NumberedAt notes
  pub allowed : Each (AllowedAt terms) notes
  pub opened : Each OpenedAt notes
  pub unended : Each UnendedAt notes
  pub answered : Each (AnsweredAt terms) notes

-- the book of a run of this script is in order
abbrev pub Orderly : Script → List Note → Type 0
Orderly script notes = OrderlyBy (terms_of script) notes
