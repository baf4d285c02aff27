-- What holds of each note, note by note.
use Rattle.std.specs.Prelude.{◌≡◌, ℕ, zero, suc, List, [], ◌∷◌, ◌++◌, take, slice_get, Option, Some, None, option_map}
use Rattle.std.specs.List.{cons_option, AllByRecursion}
use Rattle.std.proofs.Common.{sym, subst, append_assoc, append-nil}
use Rattle.commit_log.specs.declared.note.Note.{Note}
use Rattle.commit_log.specs.Along.{EachAfter, Each}
use Rattle.commit_log.specs.Parts.{Where}

EachAfter-push : (P : List Note → Note → Type 0) (before notes : List Note) (note : Note) → EachAfter P before notes → P (before ++ notes) note → EachAfter P before (notes ++ note ∷ [])
EachAfter-push P before [] note each here = (subst (λ (b : List Note). P b note) (append-nil before) here, tt)
EachAfter-push P before (n ∷ notes) note each here = (each.0, EachAfter-push P (before ++ n ∷ []) notes note each.1 (subst (λ (b : List Note). P b note) (sym (append_assoc before (n ∷ []) notes)) here))

-- one note more
pub Each-push : (P : List Note → Note → Type 0) (notes : List Note) (note : Note) → Each P notes → P notes note → Each P (notes ++ note ∷ [])
unfolding Each
Each-push P notes note each here = EachAfter-push P [] notes note each here

-- no notes
pub Each-none : (P : List Note → Note → Type 0) → Each P []
unfolding Each
Each-none P = tt

EachAfter-at : (P : List Note → Note → Type 0) (before notes : List Note) → EachAfter P before notes → (i : ℕ) (note : Note) → slice_get notes i ≡ Some note → P (before ++ take i notes) note
EachAfter-at P before [] each i note e = cc
EachAfter-at P before (n ∷ notes) each zero note e = let same : n ≡ note = cc in subst (λ (b : List Note). P b note) (sym (append-nil before)) (subst (λ (m : Note). P before m) same each.0)
EachAfter-at P before (n ∷ notes) each (suc i) note e = subst (λ (b : List Note). P b note) (append_assoc before (n ∷ []) (take i notes)) (EachAfter-at P (before ++ n ∷ []) notes each.1 i note e)

-- the note of a number
pub Each-at : (P : List Note → Note → Type 0) (notes : List Note) → Each P notes → (i : ℕ) (note : Note) → slice_get notes i ≡ Some note → P (take i notes) note
unfolding Each
Each-at P notes each i note e = EachAfter-at P [] notes each i note e

EachAfter-map : (P Q : List Note → Note → Type 0) → ((before : List Note) (note : Note) → P before note → Q before note) → (before notes : List Note) → EachAfter P before notes → EachAfter Q before notes
EachAfter-map P Q gives before [] each = tt
EachAfter-map P Q gives before (n ∷ notes) each = (gives before n each.0, EachAfter-map P Q gives (before ++ n ∷ []) notes each.1)

-- what follows from P
pub Each-map : (P Q : List Note → Note → Type 0) → ((before : List Note) (note : Note) → P before note → Q before note) → (notes : List Note) → Each P notes → Each Q notes
unfolding Each
Each-map P Q gives notes each = EachAfter-map P Q gives [] notes each

EachAfter-front : (P : List Note → Note → Type 0) (before notes more : List Note) → EachAfter P before (notes ++ more) → EachAfter P before notes
EachAfter-front P before [] more each = tt
EachAfter-front P before (n ∷ notes) more each = (each.0, EachAfter-front P (before ++ n ∷ []) notes more each.1)

-- the notes without those at their end
pub Each-front : (P : List Note → Note → Type 0) (notes more : List Note) → Each P (notes ++ more) → Each P notes
unfolding Each
Each-front P notes more each = EachAfter-front P [] notes more each

-- ---- by what the notes tell

-- each thing that the notes tell, with the notes before it
abbrev pub told_along : {A : Type 0} → (Note → Option A) → List Note → List Note → List (List Note × A)
told_along tell before [] = []
told_along tell before (n ∷ notes) = cons_option (option_map (λ x. (before, x)) (tell n)) (told_along tell (before ++ n ∷ []) notes)

EachAfter-told : {A : Type 0} (tell : Note → Option A) (P : List Note → A → Type 0) (before notes : List Note)
    → AllByRecursion (λ (e : List Note × A). P e.0 e.1) (told_along tell before notes) → EachAfter (λ b n. Where (P b) (tell n)) before notes
EachAfter-told tell P before [] all = tt
EachAfter-told {A} tell P before (n ∷ notes) all = both (tell n) (EachAfter-told tell P (before ++ n ∷ []) notes) all
  where
    rest : List (List Note × A)
    rest = told_along tell (before ++ n ∷ []) notes

    both : (t : Option A) → (AllByRecursion (λ (e : List Note × A). P e.0 e.1) rest → EachAfter (λ b n. Where (P b) (tell n)) (before ++ n ∷ []) notes)
        → AllByRecursion (λ (e : List Note × A). P e.0 e.1) (cons_option (option_map (λ x. (before, x)) t) rest) → Where (P before) t × EachAfter (λ b n. Where (P b) (tell n)) (before ++ n ∷ []) notes
    both None go h = (tt, go h)
    both (Some x) go h = (h.0, go h.1)

-- what holds of each thing that is told holds along the notes
pub Each-told : {A : Type 0} (tell : Note → Option A) (P : List Note → A → Type 0) (notes : List Note)
    → AllByRecursion (λ (e : List Note × A). P e.0 e.1) (told_along tell [] notes) → Each (λ b n. Where (P b) (tell n)) notes
unfolding Each
Each-told tell P notes all = EachAfter-told tell P [] notes all
