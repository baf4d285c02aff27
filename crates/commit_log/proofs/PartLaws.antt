-- The openings and flags of a book with more notes.
use Rattle.std.specs.Prelude.{◌≡◌, ℕ, Bool, true, false, ◌||◌, ◌==◌, cond, List, [], ◌∷◌, ◌++◌, slice_get, Option, Some, None, refl}
use Rattle.std.specs.List.{filter, filter_map, list_any, cons_option}
use Rattle.std.specs.Option.{option_or}
use Rattle.std.proofs.Common.{ap, subst, ◌∙◌}
use Rattle.std.proofs.lemmas.Bool.{eqb-true, eq-eqb}
use Rattle.std.proofs.lemmas.List.Elements.{filter-append, filter_map-append}
use Rattle.hops_base.specs.declared.ids.SessionId.{SessionId}
use Rattle.hops_base.specs.declared.ids.OpId.{OpId}
use Rattle.hops_base.specs.declared.ids.ClientNo.{ClientNo}
use Rattle.hops_base.specs.declared.ids.NodeNo.{NodeNo}
use Rattle.name_space.specs.declared.call.OpKind.{OpKind}
use Rattle.name_space.specs.Namespace.{Path}
use Rattle.commit_log.specs.declared.note.Note.{Note}
use Rattle.commit_log.specs.declared.note.Note.TheVariants.{Open, Wrote}
use Rattle.commit_log.specs.declared.note.Work.TheVariants.{Flag}
use Rattle.commit_log.specs.Parts.{passes, Opening, opened, opens_session, opening_of, Flagging, flagged, flags_op, flag_of}

-- ---- the first of what the notes tell

first-append : {A : Type 0} (xs ys : List A) → slice_get (xs ++ ys) 0 ≡ option_or (slice_get xs 0) (slice_get ys 0)
first-append [] ys = refl
first-append (x ∷ xs) ys = refl

told-append : {A : Type 0} (tell : Note → Option A) (is : Note → Bool) (before after : List Note)
    → slice_get (filter_map tell (filter is (before ++ after))) 0 ≡ option_or (slice_get (filter_map tell (filter is before)) 0) (slice_get (filter_map tell (filter is after)) 0)
told-append tell is before after =
    ap (λ (ns : List Note). slice_get (filter_map tell ns) 0) (filter-append is before after)
    ∙ ap (λ xs. slice_get xs 0) (filter_map-append tell (filter is before) (filter is after))
    ∙ first-append (filter_map tell (filter is before)) (filter_map tell (filter is after))

told_first : {A : Type 0} (test : A → Bool) (t : Option A) (rest : List A) (x : A) → passes test t ≡ true → slice_get (cons_option t rest) 0 ≡ Some x → test x ≡ true
told_first test None rest x p e = cc
told_first test (Some y) rest x p e = let same : y ≡ x = cc in subst (λ z. test z ≡ true) same p

told_passes : {A : Type 0} (tell : Note → Option A) (test : A → Bool) (notes : List Note) (x : A) → slice_get (filter_map tell (filter (λ (n : Note). passes test (tell n)) notes)) 0 ≡ Some x → test x ≡ true
told_passes tell test [] x e = cc
told_passes tell test (n ∷ notes) x e =
    elim (passes test (tell n)) as (λ b. passes test (tell n) ≡ b → slice_get (filter_map tell (cond b (n ∷ filter (λ (n : Note). passes test (tell n)) notes) (filter (λ (n : Note). passes test (tell n)) notes))) 0 ≡ Some x → test x ≡ true) [
      | true ↦ λ p. told_first test (tell n) _ x p
      | false ↦ λ p. told_passes tell test notes x
    ] refl e

told_none : {A : Type 0} (tell : Note → Option A) (is : Note → Bool) (notes : List Note) → list_any is notes ≡ false → slice_get (filter_map tell (filter is notes)) 0 ≡ None
told_none tell is [] e = refl
told_none tell is (n ∷ notes) e =
    elim (is n) as (λ b. (b || list_any is notes) ≡ false → slice_get (filter_map tell (cond b (n ∷ filter is notes) (filter is notes))) 0 ≡ None) [
      | true ↦ λ h. cc
      | false ↦ told_none tell is notes
    ] e

told-other : {A : Type 0} (tell : Note → Option A) (is : Note → Bool) (notes : List Note) (note : Note) → is note ≡ false
    → slice_get (filter_map tell (filter is (notes ++ note ∷ []))) 0 ≡ slice_get (filter_map tell (filter is notes)) 0
told-other {A = A} tell is notes note e =
    told-append tell is notes (note ∷ [])
    ∙ ap (option_or (slice_get (filter_map tell (filter is notes)) 0)) (told_none tell is (note ∷ []) (rw e refl))
    ∙ or_none (slice_get (filter_map tell (filter is notes)) 0)
  where
    or_none : (t : Option A) → option_or t None ≡ t
    or_none None = refl
    or_none (Some x) = refl

told_one : {A : Type 0} (tell : Note → Option A) (is : Note → Bool) (note : Note) (x : A) → is note ≡ true → tell note ≡ Some x → slice_get (filter_map tell (filter is (note ∷ []))) 0 ≡ Some x
told_one tell is note x h e = rw (h, e) refl

-- ---- openings

-- more notes: the old opening where there is one, else that in the new notes
pub opening_of-append : (before after : List Note) (s : SessionId) → opening_of (before ++ after) s ≡ option_or (opening_of before s) (opening_of after s)
opening_of-append before after s = told-append opened (opens_session s) before after

-- an opening stays
pub opening_of-kept : (before after : List Note) (s : SessionId) (o : Opening) → opening_of before s ≡ Some o → opening_of (before ++ after) s ≡ Some o
opening_of-kept before after s o e = opening_of-append before after s ∙ ap (λ (t : Option Opening). option_or t (opening_of after s)) e

-- a note that doesn't open the session leaves its opening
pub opening_of-other : (notes : List Note) (note : Note) (s : SessionId) → opens_session s note ≡ false → opening_of (notes ++ note ∷ []) s ≡ opening_of notes s
opening_of-other notes note s e = told-other opened (opens_session s) notes note e

-- a new session's opening is that of the note which opens it
pub opening_of-new : (notes : List Note) (s : SessionId) (client : ClientNo) (number : ℕ) (node : NodeNo) → opening_of notes s ≡ None
    → opening_of (notes ++ Open s client number node ∷ []) s ≡ Some (record { session = s; client = client; number = number; node = node })
opening_of-new notes s client number node e =
    opening_of-append notes (Open s client number node ∷ []) s
    ∙ ap (λ (t : Option Opening). option_or t (opening_of (Open s client number node ∷ []) s)) e
    ∙ told_one opened (opens_session s) (Open s client number node) _ (eq-eqb s.0 s.0 refl) refl

-- a session that no note opens has no opening
pub opening_of-none : (notes : List Note) (s : SessionId) → list_any (opens_session s) notes ≡ false → opening_of notes s ≡ None
opening_of-none notes s e = told_none opened (opens_session s) notes e

-- the opening of a session is of this session
pub opening_of-session : (notes : List Note) (s : SessionId) (o : Opening) → opening_of notes s ≡ Some o → o.session ≡ s
opening_of-session notes s o e = ap (λ (n : ℕ). record { 0 = n }) (eqb-true o.session.0 s.0 (told_passes opened (λ (p : Opening). p.session.0 == s.0) notes o e))

-- ---- flags

-- more notes: the old flag where there is one, else that in the new notes
pub flag_of-append : (before after : List Note) (op : OpId) → flag_of (before ++ after) op ≡ option_or (flag_of before op) (flag_of after op)
flag_of-append before after op = told-append flagged (flags_op op) before after

-- a flag stays
pub flag_of-kept : (before after : List Note) (op : OpId) (flag : Flagging) → flag_of before op ≡ Some flag → flag_of (before ++ after) op ≡ Some flag
flag_of-kept before after op flag e = flag_of-append before after op ∙ ap (λ (t : Option Flagging). option_or t (flag_of after op)) e

-- a note that doesn't set the operation's flag leaves it
pub flag_of-other : (notes : List Note) (note : Note) (op : OpId) → flags_op op note ≡ false → flag_of (notes ++ note ∷ []) op ≡ flag_of notes op
flag_of-other notes note op e = told-other flagged (flags_op op) notes note e

-- a new operation's flag is that of the note which sets it
pub flag_of-new : (notes : List Note) (s : SessionId) (op : OpId) (kind : OpKind) (path : Path) → flag_of notes op ≡ None
    → flag_of (notes ++ Wrote s (Flag op kind path) ∷ []) op ≡ Some (record { op = op; session = s; kind = kind; path = path })
flag_of-new notes s op kind path e =
    flag_of-append notes (Wrote s (Flag op kind path) ∷ []) op
    ∙ ap (λ (t : Option Flagging). option_or t (flag_of (Wrote s (Flag op kind path) ∷ []) op)) e
    ∙ told_one flagged (flags_op op) (Wrote s (Flag op kind path)) _ (eq-eqb op.0 op.0 refl) refl

-- an operation that no note flags has no flag
pub flag_of-none : (notes : List Note) (op : OpId) → list_any (flags_op op) notes ≡ false → flag_of notes op ≡ None
flag_of-none notes op e = told_none flagged (flags_op op) notes e

-- the flag of an operation is of this operation
pub flag_of-op : (notes : List Note) (op : OpId) (flag : Flagging) → flag_of notes op ≡ Some flag → flag.op ≡ op
flag_of-op notes op flag e = ap (λ (n : ℕ). record { 0 = n }) (eqb-true flag.op.0 op.0 (told_passes flagged (λ (f : Flagging). f.op.0 == op.0) notes flag e))
