-- The walk over a book that finds its journal and the operations whose flags are set.
use Rattle.std.specs.Prelude.{◌≡◌, ℕ, ◌+◌, ◌<◌, suc, Bool, true, false, not, ◌||◌, ◌&&◌, ◌==◌, cond, List, [], ◌∷◌, ◌++◌, length, take, map, Option, Some, None, refl}
use Rattle.std.specs.BTreeMap.{get}
use Rattle.std.specs.List.{list_any, filter, filter_map, cons_option}
use Rattle.std.specs.Option.{option_or}
use Rattle.std.proofs.Common.{sym, ap, ◌∙◌, arith, get_or, add-one}
use Rattle.std.specs.Ordering.{is_eq, nat_cmp}
use Rattle.std.proofs.Math.Seq.{take-suc}
use Rattle.std.proofs.lemmas.List.Elements.{filter_map-append}
use Rattle.std.proofs.lemmas.List.Folds.{list_any-append}
use Rattle.std.proofs.lemmas.List.{length-take-le, map-append}
use Rattle.hops_base.specs.declared.ids.SessionId.{SessionId}
use Rattle.hops_base.specs.declared.ids.OpId.{OpId}
use Rattle.commit_log.specs.declared.note.Note.{Note}
use Rattle.commit_log.specs.declared.flagged.FlagMarks.{FlagMarks}
use Rattle.commit_log.specs.Parts.{is_answer_of, Flagging, flagged, flags_op}
use Rattle.commit_log.specs.Flags.{is_running}
use Rattle.commit_log.specs.Places.{first_end, last_end, is_past, reclaims_op}
use Rattle.commit_log.specs.Reads.{tells_history, journal, op_cmp, session_cmp, is_flagged}
use Rattle.commit_log.specs.FlagMarks.{IsFlagMarks, op_and_session, runs_on, runs_as}
use Rattle.commit_log.proofs.PlaceLemmas.{first_end-push, last_end-push, journal_from-push, running_by_place}

-- one note more of a book
pub take-next : (notes : List Note) (i : ℕ) (note : Note) → i < length notes → note ≡ get_or notes i note → take (i + 1) notes ≡ take i notes ++ note ∷ []
take-next notes i note h is = ap (λ (n : ℕ). take n notes) (add-one i) ∙ take-suc notes i note h ∙ ap (λ (n : Note). take i notes ++ n ∷ []) (sym is)

pub taken : (notes : List Note) (i : ℕ) → i < length notes → length (take i notes) ≡ i
taken notes i h = length-take-le i notes (omega arith)

pub counted : (notes : List Note) (i : ℕ) → i < length notes → i + 1 ≡ suc (length (take i notes))
counted notes i h = add-one i ∙ ap (λ (n : ℕ). suc n) (sym (taken notes i h))

from_none : (n : ℕ) → n ≡ 0 + n
from_none n = omega arith

pub journal-next : (notes : List Note) (i : ℕ) (note : Note) (old new : List ℕ) → i < length notes → note ≡ get_or notes i note → old ≡ journal (take i notes) → new ≡ old ++ cond (tells_history note) (i ∷ []) [] → new ≡ journal (take (i + 1) notes)
journal-next notes i note old new h is was now =
    now
    ∙ ap (λ (ns : List ℕ). ns ++ cond (tells_history note) (i ∷ []) []) was
    ∙ ap (λ (n : ℕ). journal (take i notes) ++ cond (tells_history note) (n ∷ []) []) (sym (taken notes i h) ∙ from_none (length (take i notes)))
    ∙ sym (journal_from-push 0 (take i notes) note)
    ∙ ap (λ (ns : List Note). journal ns) (sym (take-next notes i note h is))

pub first_end-next : (test : Note → Bool) (notes : List Note) (i : ℕ) (note : Note) → i < length notes → note ≡ get_or notes i note → option_or (first_end test (take i notes)) (cond (test note) (Some (i + 1)) None) ≡ first_end test (take (i + 1) notes)
first_end-next test notes i note h is =
    ap (λ (n : ℕ). option_or (first_end test (take i notes)) (cond (test note) (Some n) None)) (counted notes i h)
    ∙ sym (first_end-push test (take i notes) note)
    ∙ ap (λ (ns : List Note). first_end test ns) (sym (take-next notes i note h is))

pub last_end-next : (test : Note → Bool) (notes : List Note) (i : ℕ) (note : Note) → i < length notes → note ≡ get_or notes i note → cond (test note) (Some (i + 1)) (last_end test (take i notes)) ≡ last_end test (take (i + 1) notes)
last_end-next test notes i note h is =
    ap (λ (n : ℕ). cond (test note) (Some n) (last_end test (take i notes))) (counted notes i h)
    ∙ sym (last_end-push test (take i notes) note)
    ∙ ap (λ (ns : List Note). last_end test ns) (sym (take-next notes i note h is))

pub flag_marks-next : (notes : List Note) (i : ℕ) (note : Note) (old new : FlagMarks) → i < length notes → note ≡ get_or notes i note → IsFlagMarks (take i notes) old
    → ((op : OpId) → get op_cmp new.flagged op ≡ option_or (get op_cmp old.flagged op) (cond (flags_op op note) (Some (i + 1)) None))
    → ((op : OpId) → get op_cmp new.reclaimed op ≡ cond (reclaims_op op note) (Some (i + 1)) (get op_cmp old.reclaimed op))
    → ((s : SessionId) → get session_cmp new.answered s ≡ cond (is_answer_of s note) (Some (i + 1)) (get session_cmp old.answered s))
    → IsFlagMarks (take (i + 1) notes) new
flag_marks-next notes i note old new h is was flag reclaim answer = record {
  flag = λ op. flag op ∙ ap (λ (t : Option ℕ). option_or t (cond (flags_op op note) (Some (i + 1)) None)) (was.flag op) ∙ first_end-next (flags_op op) notes i note h is;
  reclaim = λ op. reclaim op ∙ ap (λ (t : Option ℕ). cond (reclaims_op op note) (Some (i + 1)) t) (was.reclaim op) ∙ last_end-next (reclaims_op op) notes i note h is;
  answer = λ s. answer s ∙ ap (λ (t : Option ℕ). cond (is_answer_of s note) (Some (i + 1)) t) (was.answer s) ∙ last_end-next (is_answer_of s) notes i note h is;
}

-- the maps tell which flags are set
pub running_by_marks : (notes : List Note) (marks : FlagMarks) (flag : Flagging) → IsFlagMarks notes marks → is_running notes flag ≡ runs_on marks flag.op flag.session
running_by_marks notes marks flag is =
    running_by_place notes flag
    ∙ sym (ap (λ (t : Option ℕ). not (is_past t (get op_cmp marks.reclaimed flag.op) || is_past t (get session_cmp marks.answered flag.session))) (is.flag flag.op)
    ∙ ap (λ (t : Option ℕ). not (is_past (first_end (flags_op flag.op) notes) t || is_past (first_end (flags_op flag.op) notes) (get session_cmp marks.answered flag.session))) (is.reclaim flag.op)
    ∙ ap (λ (t : Option ℕ). not (is_past (first_end (flags_op flag.op) notes) (last_end (reclaims_op flag.op) notes) || is_past (first_end (flags_op flag.op) notes) t)) (is.answer flag.session))

eq_by_nat : (m n : ℕ) → is_eq (nat_cmp m n) ≡ (m == n)
eq_by_nat m n = grind arith

-- the operation of a flag is added where nothing has ended it
pub added : (marks : FlagMarks) (o op : OpId) (s : SessionId) (old new : Bool) → runs_on marks o s ≡ true → new ≡ cond (is_eq (nat_cmp o.0 op.0)) true old → new ≡ (old || runs_as marks op (o, s))
added marks o op s old new on now =
    now
    ∙ ap (λ b. cond b true old) (eq_by_nat o.0 op.0)
    ∙ two old (o.0 == op.0)
    ∙ ap (λ b. old || (b && (o.0 == op.0))) (sym on)
  where
    two : (a b : Bool) → cond b true a ≡ (a || b)
    two true true = refl
    two true false = refl
    two false true = refl
    two false false = refl

pub passed_over : (marks : FlagMarks) (o op : OpId) (s : SessionId) (old : Bool) → runs_on marks o s ≡ false → old ≡ (old || runs_as marks op (o, s))
passed_over marks o op s old off = or_false old ∙ ap (λ b. old || (b && (o.0 == op.0))) (sym off)
  where
    or_false : (b : Bool) → b ≡ (b || false)
    or_false true = refl
    or_false false = refl

pub running-next : (marks : FlagMarks) (flags : List (OpId × SessionId)) (i : ℕ) (none : OpId × SessionId) (op : OpId) (old new : Bool) → i < length flags → old ≡ list_any (runs_as marks op) (take i flags)
    → new ≡ (old || runs_as marks op (get_or flags i none)) → new ≡ list_any (runs_as marks op) (take (i + 1) flags)
running-next marks flags i none op old new h was now =
    now
    ∙ ap (λ b. b || runs_as marks op (get_or flags i none)) was
    ∙ ap (λ b. list_any (runs_as marks op) (take i flags) || b) (or_false (runs_as marks op (get_or flags i none)))
    ∙ sym (list_any-append (runs_as marks op) (take i flags) (get_or flags i none ∷ []))
    ∙ ap (list_any (runs_as marks op)) (sym (ap (λ (n : ℕ). take n flags) (add-one i) ∙ take-suc flags i none h))
  where
    or_false : (b : Bool) → b ≡ (b || false)
    or_false true = refl
    or_false false = refl

pub flags-next : (notes : List Note) (i : ℕ) (note : Note) (old new : List (OpId × SessionId)) → i < length notes → note ≡ get_or notes i note
    → old ≡ map op_and_session (filter_map flagged (take i notes)) → new ≡ old ++ map op_and_session (cons_option (flagged note) []) → new ≡ map op_and_session (filter_map flagged (take (i + 1) notes))
flags-next notes i note old new h is was now =
    now
    ∙ ap (λ (fs : List (OpId × SessionId)). fs ++ map op_and_session (cons_option (flagged note) [])) was
    ∙ sym (map-append op_and_session (filter_map flagged (take i notes)) (filter_map flagged (note ∷ [])))
    ∙ ap (map op_and_session) (sym (filter_map-append flagged (take i notes) (note ∷ [])))
    ∙ ap (λ (ns : List Note). map op_and_session (filter_map flagged ns)) (sym (take-next notes i note h is))

-- the flags that are sifted from all flags are those that are set
sifted : (notes : List Note) (marks : FlagMarks) (op : OpId) → IsFlagMarks notes marks → (fs : List Flagging) → list_any (runs_as marks op) (map op_and_session fs) ≡ list_any (λ (f : Flagging). f.op.0 == op.0) (filter (is_running notes) fs)
sifted notes marks op is [] = refl
sifted notes marks op is (f ∷ fs) =
    ap (λ b. runs_as marks op (op_and_session f) || b) (sifted notes marks op is fs)
    ∙ (elim (runs_on marks f.op f.session) as (λ b. ((b && (f.op.0 == op.0)) || rest) ≡ list_any (λ (g : Flagging). g.op.0 == op.0) (cond b (f ∷ filter (is_running notes) fs) (filter (is_running notes) fs))) [
      | true ↦ refl
      | false ↦ refl
    ])
    ∙ ap (λ b. list_any (λ (g : Flagging). g.op.0 == op.0) (cond b (f ∷ filter (is_running notes) fs) (filter (is_running notes) fs))) (sym (running_by_marks notes marks f is))
  where
    rest : Bool
    rest = list_any (λ (g : Flagging). g.op.0 == op.0) (filter (is_running notes) fs)

pub flagged_by_sifting : (notes : List Note) (marks : FlagMarks) (flags : List (OpId × SessionId)) (op : OpId) → IsFlagMarks notes marks → flags ≡ map op_and_session (filter_map flagged notes) → list_any (runs_as marks op) flags ≡ is_flagged notes op
flagged_by_sifting notes marks flags op is all = ap (list_any (runs_as marks op)) all ∙ sifted notes marks op is (filter_map flagged notes)
