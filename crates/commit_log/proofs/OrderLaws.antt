-- What the numbers of an orderly book say.
use Rattle.std.specs.Prelude.{◌≡◌, ◌≢◌, ℕ, ◌+◌, ◌<◌, true, false, ◌||◌, ◌==◌, cond, if◌then◌else◌, List, [], ◌∷◌, ◌++◌, take, slice_get, Option, Some, None, IsSome, is_some, refl}
use Rattle.std.specs.List.{list_any, count_by}
use Rattle.std.proofs.Common.{sym, ap, subst, ◌∙◌, arith, append_assoc, ⊎_elim}
use Rattle.std.proofs.lemmas.Bool.Decides.{eqb_tells}
use Rattle.std.proofs.lemmas.List.Sums.{sum_by-append, sum_by-cons, sum_by_push}
use Rattle.name_space.specs.Script.{Script, call_of}
use Rattle.commit_log.specs.declared.note.Note.{Note}
use Rattle.commit_log.specs.Along.{EachAfter, Each}
use Rattle.commit_log.proofs.AlongLaws.{Each-none, Each-push, Each-map, Each-at}
use Rattle.commit_log.specs.Parts.{Where, passes, Opening, opened, opens_session, is_for, Answering, did, answers_call, Flagging, flagged, flags_op}
use Rattle.commit_log.specs.Terms.{Terms, terms_of}
use Rattle.commit_log.specs.Orderly.{openings, flaggings, NumberedAt, AllowedAt, OpenedAt, UnendedAt, AnsweredAt, OrderlyBy, Orderly}

-- how many of the notes tell something
abbrev tellings : {A : Type 0} → (Note → Option A) → List Note → ℕ
tellings tell notes = count_by (λ (note : Note). is_some (tell note)) notes

-- what a note tells has the number of those before it and one
abbrev CountedAt : {A : Type 0} → (Note → Option A) → (A → ℕ) → List Note → Note → Type 0
CountedAt tell number before note = Where (λ x. number x ≡ tellings tell before + 1) (tell note)

differs : (a b : ℕ) → a ≢ b → (a == b) ≡ false
differs a b apart = ⊎_elim (λ h. absurd (apart h.1)) (λ h. h.0) (eqb_tells a b)

not_here : {A : Type 0} (number : A → ℕ) (t : Option A) (n k : ℕ) → Where (λ x. number x ≡ n + 1) t → n + cond (is_some t) 1 0 < k → passes (λ x. number x == k) t ≡ false
not_here number None n k is below = refl
not_here number (Some x) n k is below = differs (number x) k (λ same. omega arith)

none_above : {A : Type 0} (tell : Note → Option A) (number : A → ℕ) (before notes : List Note) → EachAfter (CountedAt tell number) before notes
    → (k : ℕ) → tellings tell (before ++ notes) < k → list_any (λ (n : Note). passes (λ x. number x == k) (tell n)) notes ≡ false
none_above tell number before [] each k below = refl
none_above tell number before (n ∷ notes) each k below =
    let f : Note → ℕ = λ (m : Note). cond (is_some (tell m)) 1 0 in
    let split : tellings tell (before ++ n ∷ notes) ≡ tellings tell before + tellings tell (n ∷ notes) = sum_by-append f before (n ∷ notes) in
    let first : tellings tell (n ∷ notes) ≡ f n + tellings tell notes = sum_by-cons f n notes in
    let here : passes (λ x. number x == k) (tell n) ≡ false = not_here number (tell n) (tellings tell before) k each.0 (omega arith) in
    let there : list_any (λ (m : Note). passes (λ x. number x == k) (tell m)) notes ≡ false =
    none_above tell number (before ++ n ∷ []) notes each.1 k (subst (λ (ns : List Note). tellings tell ns < k) (sym (append_assoc before (n ∷ []) notes)) below) in
    ap (λ b. b || list_any (λ (m : Note). passes (λ x. number x == k) (tell m)) notes) here ∙ there

none_at : {A : Type 0} (tell : Note → Option A) (number : A → ℕ) (notes : List Note) (note : Note) (x : A) → Each (CountedAt tell number) notes → CountedAt tell number notes note
    → tell note ≡ Some x → list_any (λ (n : Note). passes (λ y. number y == number x) (tell n)) notes ≡ false
unfolding Each
none_at tell number notes note x each here e =
    let counted : number x ≡ tellings tell notes + 1 = subst (λ t. Where (λ y. number y ≡ tellings tell notes + 1) t) e here in
    none_above tell number [] notes each (number x) (omega arith)

opens_counted : (before : List Note) (note : Note) → NumberedAt before note → CountedAt opened (λ (o : Opening). o.session.0) before note
opens_counted before note numbered = numbered.0

flags_counted : (before : List Note) (note : Note) → NumberedAt before note → CountedAt flagged (λ (f : Flagging). f.op.0) before note
flags_counted before note numbered = numbered.1

-- a session is opened once
pub session_is_new : (notes : List Note) (note : Note) (o : Opening) → Each NumberedAt notes → NumberedAt notes note → opened note ≡ Some o → list_any (opens_session o.session) notes ≡ false
session_is_new notes note o each here e =
    none_at opened (λ (p : Opening). p.session.0) notes note o (Each-map NumberedAt (CountedAt opened (λ (p : Opening). p.session.0)) opens_counted notes each) here.0 e

-- an operation is flagged once
pub op_is_new : (notes : List Note) (note : Note) (flag : Flagging) → Each NumberedAt notes → NumberedAt notes note → flagged note ≡ Some flag → list_any (flags_op flag.op) notes ≡ false
op_is_new notes note flag each here e =
    none_at flagged (λ (f : Flagging). f.op.0) notes note flag (Each-map NumberedAt (CountedAt flagged (λ (f : Flagging). f.op.0)) flags_counted notes each) here.1 e

-- ---- one note more

-- how many sessions are opened then
pub openings-push : (notes : List Note) (note : Note) → openings (notes ++ note ∷ []) ≡ openings notes + (if is_some (opened note) then 1 else 0)
openings-push notes note = sum_by_push (λ (n : Note). cond (is_some (opened n)) 1 0) notes note

-- how many flags are set
pub flaggings-push : (notes : List Note) (note : Note) → flaggings (notes ++ note ∷ []) ≡ flaggings notes + (if is_some (flagged note) then 1 else 0)
flaggings-push notes note = sum_by_push (λ (n : Note). cond (is_some (flagged n)) 1 0) notes note

-- a book stays in order by a note that is in order there
pub orderly-push : (terms : Terms) (notes : List Note) (note : Note) → OrderlyBy terms notes
    → NumberedAt notes note → AllowedAt terms notes note → OpenedAt notes note → UnendedAt notes note → AnsweredAt terms notes note → OrderlyBy terms (notes ++ note ∷ [])
orderly-push terms notes note orderly numbered allowed opened unended answered = record {
  numbered = Each-push NumberedAt notes note orderly.numbered numbered;
  allowed = Each-push (AllowedAt terms) notes note orderly.allowed allowed;
  opened = Each-push OpenedAt notes note orderly.opened opened;
  unended = Each-push UnendedAt notes note orderly.unended unended;
  answered = Each-push (AnsweredAt terms) notes note orderly.answered answered;
}

-- the empty book is in order
pub orderly-none : (terms : Terms) → OrderlyBy terms []
orderly-none terms = record {
  numbered = Each-none NumberedAt;
  allowed = Each-none (AllowedAt terms);
  opened = Each-none OpenedAt;
  unended = Each-none UnendedAt;
  answered = Each-none (AnsweredAt terms);
}

-- ---- a script's book

is_opened : (terms : Terms) (t : Option Opening) (o : Opening) → t ≡ Some o → Where (λ (p : Opening). terms.has_call p.client p.number × terms.has_node p.node) t → terms.has_call o.client o.number × terms.has_node o.node
is_opened terms t o e h = subst (Where (λ (p : Opening). terms.has_call p.client p.number × terms.has_node p.node)) e h

is_asked : (terms : Terms) (before : List Note) (t : Option Answering) (a : Answering) → t ≡ Some a
    → Where (λ (b : Answering). (is_for before b.client b.number b.session ≡ true) × terms.asks b.client b.number b.call × (list_any (answers_call b.client b.number) before ≡ false)) t
    → terms.asks a.client a.number a.call
is_asked terms before t a e h =
    (subst (Where (λ (b : Answering). (is_for before b.client b.number b.session ≡ true) × terms.asks b.client b.number b.call × (list_any (answers_call b.client b.number) before ≡ false))) e h).1

-- a session of it is opened for a call of the script, at a namenode of the script
pub opened-from_orderly : (script : Script) (notes : List Note) → Orderly script notes → (i : ℕ) (note : Note) (o : Opening) → slice_get notes i ≡ Some note → opened note ≡ Some o
    → IsSome (call_of script o.client o.number) × (o.node.0 < script.namenodes)
opened-from_orderly script notes orderly i note o at e = is_opened (terms_of script) (opened note) o e (Each-at (AllowedAt (terms_of script)) notes orderly.allowed i note at)

-- an answer of it is to the call that the script has there
pub answered-from_orderly : (script : Script) (notes : List Note) → Orderly script notes → (i : ℕ) (note : Note) (a : Answering) → slice_get notes i ≡ Some note → did note ≡ Some a
    → call_of script a.client a.number ≡ Some a.call
answered-from_orderly script notes orderly i note a at e = is_asked (terms_of script) (take i notes) (did note) a e (Each-at (AnsweredAt (terms_of script)) notes orderly.answered i note at)
