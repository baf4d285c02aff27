-- A run of one client without locks is told and kept, and its replies are those of the plain calls.
use Rattle.std.specs.Prelude.{◌≡◌, ℕ, ◌+◌, ◌*◌, ◌<◌, ◌≤◌, zero, suc, Bool, true, false, not, ◌&&◌, ◌||◌, ◌==◌, cond, List, [], ◌∷◌, ◌++◌, map, length, drop, slice_get, Option, Some, None, IsSome, IsSomeAnd, is_some, option_and_then, option_map, refl}
use Rattle.std.specs.List.{filter, filter_map, list_any, list_all, after_first, range_with_len, flat_map, enumerate_from, AllByRecursion}
use Rattle.std.specs.List.Sorted.{IsStrictlySortedBy}
use Rattle.std.specs.Ordering.{nat_cmp}
use Rattle.std.specs.declared.cmp.Ordering.TheVariants.{Less}
use Rattle.std.specs.Cmp.{nat_cmp_is}
use Rattle.std.proofs.Common.{sym, ap, subst, ◌∙◌, arith, append_assoc, append-nil, inl}
use Rattle.std.proofs.lemmas.Bool.{eq-eqb, ne_eqb, le-ltb, or_left, or_right}
use Rattle.std.proofs.lemmas.List.{length-append, length-map}
use Rattle.std.proofs.lemmas.List.Folds.{list_any-append}
use Rattle.std.proofs.lemmas.List.Sums.{sum_by-cons}
use Rattle.std.proofs.lemmas.Option.{slice_get-map}
use Rattle.hops_base.specs.Ids.{session, client, node}
use Rattle.hops_base.specs.declared.ids.SessionId.{SessionId}
use Rattle.hops_base.specs.declared.ids.NodeNo.{NodeNo}
use Rattle.name_space.specs.declared.call.Call.{Call}
use Rattle.name_space.specs.declared.reply.Reply.{Reply}
use Rattle.name_space.specs.Namespace.{Namespace, opening}
use Rattle.name_space.specs.Calls.{plain, as_read, replies_of, space_after_calls}
use Rattle.name_space.specs.Script.{Script, ClientCalls, users_of, numbered, call_of}
use Rattle.commit_log.specs.declared.note.Note.{Note}
use Rattle.commit_log.specs.declared.answer.AnswerLine.{AnswerLine}
use Rattle.commit_log.specs.declared.answer.CallEnd.TheVariants.{Done}
use Rattle.commit_log.specs.Along.{EachAfter, Each}
use Rattle.commit_log.proofs.AlongLaws.{Each-push}
use Rattle.commit_log.specs.Parts.{Where, passes, Opening, opened, opens_session, opening_of, is_for, Answering, answers_call, is_loss_of, is_stop_of, did}
use Rattle.commit_log.specs.Terms.{terms_of}
use Rattle.commit_log.proofs.PartLaws.{opening_of-none, opening_of-new}
use Rattle.commit_log.specs.Orderly.{openings, NumberedAt, AllowedAt, OpenedAt, ends, UnendedAt, AnsweredAt, Orderly}
use Rattle.commit_log.specs.Legal.{applied, LegalAt, Legal, space, space_from}
use Rattle.commit_log.proofs.SpaceLaws.{space-push, space-none}
use Rattle.commit_log.specs.Locks.{SoundAt, Sound}
use Rattle.commit_log.specs.Licensed.{LicensedAt, Licensed}
use Rattle.commit_log.specs.Answers.{calls_of, done_at, is_of_client, is_call, is_again, dones, BorneOut, AccountedAt, Answers}
use Rattle.commit_log.specs.Told.{Told, ExplainedAt, CutsExplained}
use Rattle.commit_log.specs.Stops.{has_stopped, StopsInTimeAt, OpensNoMoreAt}
use Rattle.commit_log.specs.Members.{EvictsMembersAt, is_void, VoidIsSilentAt}
use Rattle.commit_log.specs.Kept.{KeptWithoutLocks, CutsInTimeAt, CutOnceAt, ReclaimsLostAt, answers_after, InOrderAt, EndKept}
use Rattle.commit_log.specs.OneClient.{Turn, calls_made, replies_told, opens_turn, does_turn, turns_book, turn_line, turns_lines, MadeBy, IsSingleRun}

-- ---- more turns

none_more : (n : ℕ) → n ≡ n + 0
none_more n = omega arith

one_more : (n m : ℕ) → n + 1 + m ≡ n + suc m
one_more n m = omega arith

-- the notes of more turns stand after those of the first
pub turns_book-append : (n : ℕ) (turns more : List Turn) → turns_book n (turns ++ more) ≡ turns_book n turns ++ turns_book (n + length turns) more
turns_book-append n [] more = ap (λ k. turns_book k more) (none_more n)
turns_book-append n (turn ∷ turns) more =
    ap (λ (notes : List Note). opens_turn (n + 1) ∷ does_turn (n + 1) turn ∷ notes)
    (turns_book-append (n + 1) turns more ∙ ap (λ k. turns_book (n + 1) turns ++ turns_book k more) (one_more n (length turns)))

-- so do their lines
pub turns_lines-append : (n : ℕ) (turns more : List Turn) → turns_lines n (turns ++ more) ≡ turns_lines n turns ++ turns_lines (n + length turns) more
turns_lines-append n [] more = ap (λ k. turns_lines k more) (none_more n)
turns_lines-append n (turn ∷ turns) more =
    ap (λ (lines : List AnswerLine). turn_line n turn ∷ lines)
    (turns_lines-append (n + 1) turns more ∙ ap (λ k. turns_lines (n + 1) turns ++ turns_lines k more) (one_more n (length turns)))

from_none : (n : ℕ) → 0 + n ≡ n
from_none n = omega arith

-- the notes of one turn more
pub turns_book-push : (turns : List Turn) (turn : Turn) → turns_book 0 (turns ++ turn ∷ []) ≡ turns_book 0 turns ++ opens_turn (length turns + 1) ∷ does_turn (length turns + 1) turn ∷ []
turns_book-push turns turn = turns_book-append 0 turns (turn ∷ []) ∙ ap (λ k. turns_book 0 turns ++ turns_book k (turn ∷ [])) (from_none (length turns))

-- its line
pub turns_lines-push : (turns : List Turn) (turn : Turn) → turns_lines 0 (turns ++ turn ∷ []) ≡ turns_lines 0 turns ++ turn_line (length turns) turn ∷ []
turns_lines-push turns turn = turns_lines-append 0 turns (turn ∷ []) ∙ ap (λ k. turns_lines 0 turns ++ turns_lines k (turn ∷ [])) (from_none (length turns))

-- its call
pub calls_made-push : (turns : List Turn) (turn : Turn) → calls_made (turns ++ turn ∷ []) ≡ calls_made turns ++ turn.call ∷ []
calls_made-push [] turn = refl
calls_made-push (first ∷ turns) turn = ap (λ (calls : List Call). first.call ∷ calls) (calls_made-push turns turn)

-- each turn has two notes
pub length-turns_book : (n : ℕ) (turns : List Turn) → length (turns_book n turns) ≡ 2 * length turns
length-turns_book n [] = refl
length-turns_book n (turn ∷ turns) = let rest = length-turns_book (n + 1) turns in omega arith

-- and one line
pub length-turns_lines : (n : ℕ) (turns : List Turn) → length (turns_lines n turns) ≡ length turns
length-turns_lines n [] = refl
length-turns_lines n (turn ∷ turns) = let rest = length-turns_lines (n + 1) turns in omega arith

-- ---- what no turn does

or_both : (a b : Bool) → a ≡ false → b ≡ false → (a || b) ≡ false
or_both true b e f = cc
or_both false b e f = f

-- what no note of the turns passes, where their numbers go up to a last one
none_passes : (p : Note → Bool) (n : ℕ) (turns : List Turn) → ((k : ℕ) → k ≤ n + length turns → p (opens_turn k) ≡ false) → ((k : ℕ) (turn : Turn) → k ≤ n + length turns → p (does_turn k turn) ≡ false)
    → list_any p (turns_book n turns) ≡ false
none_passes p n [] no_open no_did = refl
none_passes p n (turn ∷ turns) no_open no_did =
    or_both (p (opens_turn (n + 1))) _ (no_open (n + 1) (omega arith))
    (or_both (p (does_turn (n + 1) turn)) _ (no_did (n + 1) turn (omega arith))
    (none_passes p (n + 1) turns (λ k below. no_open k (omega arith)) (λ k other below. no_did k other (omega arith))))

-- the same with the next turn's opening
none_passes_then : (p : Note → Bool) (turns : List Turn) → ((k : ℕ) → k ≤ length turns + 1 → p (opens_turn k) ≡ false) → ((k : ℕ) (turn : Turn) → k ≤ length turns → p (does_turn k turn) ≡ false)
    → list_any p (turns_book 0 turns ++ opens_turn (length turns + 1) ∷ []) ≡ false
none_passes_then p turns no_open no_did =
    list_any-append p (turns_book 0 turns) (opens_turn (length turns + 1) ∷ [])
    ∙ or_both (list_any p (turns_book 0 turns)) _
    (none_passes p 0 turns (λ k below. no_open k (omega arith)) (λ k turn below. no_did k turn (omega arith)))
    (or_both (p (opens_turn (length turns + 1))) false (no_open (length turns + 1) (omega arith)) refl)

none_dropped : (p : Note → Bool) (k : ℕ) (notes : List Note) → list_any p notes ≡ false → list_any p (drop k notes) ≡ false
none_dropped p zero notes e = e
none_dropped p (suc k) [] e = refl
none_dropped p (suc k) (note ∷ notes) e = none_dropped p k notes (rest (p note) e)
  where
    rest : (b : Bool) → (b || list_any p notes) ≡ false → list_any p notes ≡ false
    rest true h = cc
    rest false h = h

-- ---- along the book

length-push : (turns : List Turn) (turn : Turn) → length (turns ++ turn ∷ []) ≡ length turns + 1
length-push turns turn = length-append turns (turn ∷ [])

-- what holds at both notes of each turn
each_turn : (P : List Note → Note → Type 0) (earlier turns : List Turn)
    → ((front : List Turn) (turn : Turn) (back : List Turn) → earlier ++ turns ≡ front ++ turn ∷ back
    → P (turns_book 0 front) (opens_turn (length front + 1)) × P (turns_book 0 front ++ opens_turn (length front + 1) ∷ []) (does_turn (length front + 1) turn))
    → EachAfter P (turns_book 0 earlier) (turns_book (length earlier) turns)
each_turn P earlier [] at = tt
each_turn P earlier (turn ∷ turns) at =
    let here = at earlier turn turns refl in
    let next : EachAfter P (turns_book 0 (earlier ++ turn ∷ [])) (turns_book (length (earlier ++ turn ∷ [])) turns) =
    each_turn P (earlier ++ turn ∷ []) turns (λ front other back e. at front other back (sym (append_assoc earlier (turn ∷ []) turns) ∙ e)) in
    let moved : EachAfter P (turns_book 0 (earlier ++ turn ∷ [])) (turns_book (length earlier + 1) turns) =
    subst (λ (k : ℕ). EachAfter P (turns_book 0 (earlier ++ turn ∷ [])) (turns_book k turns)) (length-push earlier turn) next in
    let told : EachAfter P ((turns_book 0 earlier ++ opens_turn (length earlier + 1) ∷ []) ++ does_turn (length earlier + 1) turn ∷ []) (turns_book (length earlier + 1) turns) =
    subst (λ (b : List Note). EachAfter P b (turns_book (length earlier + 1) turns))
    (turns_book-push earlier turn ∙ sym (append_assoc (turns_book 0 earlier) (opens_turn (length earlier + 1) ∷ []) (does_turn (length earlier + 1) turn ∷ []))) moved in
    (here.0, (here.1, told))

along : (P : List Note → Note → Type 0) (turns : List Turn)
    → ((front : List Turn) (turn : Turn) (back : List Turn) → turns ≡ front ++ turn ∷ back
    → P (turns_book 0 front) (opens_turn (length front + 1)) × P (turns_book 0 front ++ opens_turn (length front + 1) ∷ []) (does_turn (length front + 1) turn))
    → Each P (turns_book 0 turns)
unfolding Each
along P turns at = each_turn P [] turns at

-- what holds at the line of each turn
each_line : (P : AnswerLine → Type 0) (earlier turns : List Turn)
    → ((front : List Turn) (turn : Turn) (back : List Turn) → earlier ++ turns ≡ front ++ turn ∷ back → P (turn_line (length front) turn))
    → AllByRecursion P (turns_lines (length earlier) turns)
each_line P earlier [] at = tt
each_line P earlier (turn ∷ turns) at =
    let next : AllByRecursion P (turns_lines (length (earlier ++ turn ∷ [])) turns) =
    each_line P (earlier ++ turn ∷ []) turns (λ front other back e. at front other back (sym (append_assoc earlier (turn ∷ []) turns) ∙ e)) in
    (at earlier turn turns refl, subst (λ (k : ℕ). AllByRecursion P (turns_lines k turns)) (length-push earlier turn) next)

-- ---- the calls of the script

at_seam : {X : Type 0} (xs : List X) (x : X) (ys : List X) → slice_get (xs ++ x ∷ ys) (length xs) ≡ Some x
at_seam [] x ys = refl
at_seam (y ∷ xs) x ys = at_seam xs x ys

not_none : (front : List Turn) (turn : Turn) (back : List Turn) → front ++ turn ∷ back ≡ [] → ⊥
not_none [] turn back e = cc
not_none (first ∷ front) turn back e = cc

call_made : (clients : List ClientCalls) (front : List Turn) (turn : Turn) (back : List Turn) → MadeBy clients (front ++ turn ∷ back)
    → option_and_then (λ (c : ClientCalls). numbered c.calls (suc (length front))) (slice_get clients 0) ≡ Some turn.call
call_made [] front turn back made = absurd (not_none front turn back made)
call_made (one ∷ []) front turn back made =
    ap (λ (calls : List Call). slice_get calls (length front)) made
    ∙ slice_get-map (λ (t : Turn). t.call) (front ++ turn ∷ back) (length front)
    ∙ ap (option_map (λ (t : Turn). t.call)) (at_seam front turn back)
call_made (one ∷ other ∷ more) front turn back made = absurd made

-- the call of a turn is that of its number in the script
call_of_turn : (script : Script) (turns : List Turn) → IsSingleRun script turns → (front : List Turn) (turn : Turn) (back : List Turn) → turns ≡ front ++ turn ∷ back
    → call_of script (client 0) (length front + 1) ≡ Some turn.call
call_of_turn script turns single front turn back e =
    ap (λ (k : ℕ). call_of script (client 0) k) (count (length front)) ∙ call_made script.clients front turn back (subst (MadeBy script.clients) e single.made)
  where
    count : (n : ℕ) → n + 1 ≡ suc n
    count n = omega arith

-- ---- order

openings_of_turns : (n : ℕ) (turns : List Turn) → openings (turns_book n turns) ≡ length turns
openings_of_turns n [] = refl
openings_of_turns n (turn ∷ turns) =
    let f : Note → ℕ = λ (note : Note). cond (is_some (opened note)) 1 0 in
    let first : openings (turns_book n (turn ∷ turns)) ≡ 1 + openings (does_turn (n + 1) turn ∷ turns_book (n + 1) turns) = sum_by-cons f (opens_turn (n + 1)) (does_turn (n + 1) turn ∷ turns_book (n + 1) turns) in
    let second : openings (does_turn (n + 1) turn ∷ turns_book (n + 1) turns) ≡ 0 + openings (turns_book (n + 1) turns) = sum_by-cons f (does_turn (n + 1) turn) (turns_book (n + 1) turns) in
    let rest : openings (turns_book (n + 1) turns) ≡ length turns = openings_of_turns (n + 1) turns in
    omega arith

-- the session of the next turn is opened for its call
opening_of_turn : (turns : List Turn) → opening_of (turns_book 0 turns ++ opens_turn (length turns + 1) ∷ []) (session (length turns + 1))
    ≡ Some (record { session = session (length turns + 1); client = client 0; number = length turns + 1; node = node 0 })
opening_of_turn turns =
    opening_of-new (turns_book 0 turns) (session (length turns + 1)) (client 0) (length turns + 1) (node 0)
    (opening_of-none (turns_book 0 turns) (session (length turns + 1))
    (none_passes (opens_session (session (length turns + 1))) 0 turns (λ k below. ne_eqb k (length turns + 1) (λ same. omega arith)) (λ k turn below. refl)))

for_turn : (turns : List Turn) → is_for (turns_book 0 turns ++ opens_turn (length turns + 1) ∷ []) (client 0) (length turns + 1) (session (length turns + 1)) ≡ true
for_turn turns = ap (passes (λ (o : Opening). (o.client.0 == 0) && (o.number == length turns + 1))) (opening_of_turn turns) ∙ eq-eqb (length turns + 1) (length turns + 1) refl

-- no earlier turn answered the call of the next one
unanswered : (turns : List Turn) → list_any (answers_call (client 0) (length turns + 1)) (turns_book 0 turns ++ opens_turn (length turns + 1) ∷ []) ≡ false
unanswered turns = none_passes_then (answers_call (client 0) (length turns + 1)) turns (λ k below. refl) (λ k turn below. ne_eqb k (length turns + 1) (λ same. omega arith))

is_there : {X : Type 0} (o : Option X) (x : X) → o ≡ Some x → IsSome o
is_there o x e = subst IsSome (sym e) refl

-- the book is in order
pub single_orderly : (script : Script) (turns : List Turn) → IsSingleRun script turns → Orderly script (turns_book 0 turns)
single_orderly script turns single = record {
  numbered = along NumberedAt turns (λ front turn back e. ((ap (λ k. k + 1) (sym (openings_of_turns 0 front)), tt), (tt, tt)));
  allowed = along (AllowedAt (terms_of script)) turns (λ front turn back e.
      ((is_there _ turn.call (call_of_turn script turns single front turn back e), above script.namenodes single.runs), tt));
  opened = along OpenedAt turns (λ front turn back e. (tt, inl (is_there _ _ (opening_of_turn front))));
  unended = along UnendedAt turns (λ front turn back e.
      (tt, none_passes_then (ends (session (length front + 1))) front (λ k below. refl) (λ k other below. or_both (k == length front + 1) false (ne_eqb k (length front + 1) (λ same. omega arith)) refl)));
  answered = along (AnsweredAt (terms_of script)) turns (λ front turn back e.
      (tt, (for_turn front, call_of_turn script turns single front turn back e, unanswered front)));
}
  where
    above : (n : ℕ) → 1 ≤ n → 0 < n
    above n h = omega arith

-- ---- nothing is locked, met or cut

-- no lock is taken
pub single_sound : (turns : List Turn) → Sound (turns_book 0 turns)
single_sound turns = along SoundAt turns (λ front turn back e. (tt, tt))

-- no conflict is met
pub single_licensed : (turns : List Turn) → Licensed (turns_book 0 turns)
single_licensed turns = along LicensedAt turns (λ front turn back e. (tt, tt))

-- nothing is cut
pub single_explained : (turns : List Turn) → CutsExplained (turns_book 0 turns)
single_explained turns = along ExplainedAt turns (λ front turn back e. (tt, tt))

-- ---- answers

-- the client and the call of a line
abbrev told_of : AnswerLine → ℕ × ℕ
told_of line = (line.client.0, line.call)

-- the call of this number of the first client
abbrev of_first : ℕ → ℕ × ℕ
of_first number = (0, number)

lines_numbered : (n : ℕ) (turns : List Turn) → map told_of (turns_lines n turns) ≡ map of_first (range_with_len (n + 1) (length turns))
lines_numbered n [] = refl
lines_numbered n (turn ∷ turns) = ap (λ (pairs : List (ℕ × ℕ)). of_first (n + 1) ∷ pairs) (lines_numbered (n + 1) turns)

each_call : (clients : List ClientCalls) (turns : List Turn) → MadeBy clients turns → map told_of (turns_lines 0 turns) ≡ flat_map calls_of (enumerate_from 0 clients)
each_call [] turns made = ap (λ (ts : List Turn). map told_of (turns_lines 0 ts)) made
each_call (one ∷ []) turns made =
    lines_numbered 0 turns
    ∙ ap (λ k. map of_first (range_with_len 1 k)) (sym (ap (λ (calls : List Call). length calls) made ∙ length-map turns (λ (t : Turn). t.call)))
    ∙ sym (append-nil (map of_first (range_with_len 1 (length one.calls))))
each_call (one ∷ other ∷ more) turns made = absurd made

-- the answering note of a turn stands at twice its number less one
did_at : (n : ℕ) (front : List Turn) (turn : Turn) (back : List Turn) → slice_get (turns_book n (front ++ turn ∷ back)) (2 * length front + 1) ≡ Some (does_turn (n + length front + 1) turn)
did_at n [] turn back = ap (λ k. Some (does_turn k turn)) (count n)
  where
    count : (n : ℕ) → n + 1 ≡ n + 0 + 1
    count n = omega arith
did_at n (first ∷ front) turn back =
    ap (λ k. slice_get (turns_book n (first ∷ front ++ turn ∷ back)) k) (place (length front))
    ∙ did_at (n + 1) front turn back
    ∙ ap (λ k. Some (does_turn k turn)) (count n (length front))
  where
    place : (m : ℕ) → 2 * suc m + 1 ≡ suc (suc (2 * m + 1))
    place m = omega arith

    count : (n m : ℕ) → n + 1 + m + 1 ≡ n + suc m + 1
    count n m = omega arith

done_there : (script : Script) (turns front : List Turn) (turn : Turn) (back : List Turn) → turns ≡ front ++ turn ∷ back
    → BorneOut script (turns_book 0 turns) (turns_lines 0 turns) (client 0) (length front + 1) (Done (2 * length front + 1) turn.reply)
done_there script turns front turn back e =
    subst (λ (o : Option Note). IsSomeAnd o (λ note. (answers_call (client 0) (length front + 1) note ≡ true) × Where (λ (a : Answering). as_read a.reply ≡ as_read turn.reply) (did note)))
    (sym (ap (λ (ts : List Turn). slice_get (turns_book 0 ts) (2 * length front + 1)) e ∙ did_at 0 front turn back))
    (eq-eqb (0 + length front + 1) (length front + 1) (omega arith), refl)

-- the notes at which calls were done rise
places_above : (m n : ℕ) (turns : List Turn) → m < 2 * n + 1 → AllByRecursion (λ place. nat_cmp m place ≡ Less) (filter_map (λ (line : AnswerLine). done_at line.end) (turns_lines n turns))
places_above m n [] below = tt
places_above m n (turn ∷ turns) below = (sym (nat_cmp_is m (2 * n + 1) Less below), places_above m (n + 1) turns (omega arith))

places_rise : (n : ℕ) (turns : List Turn) → IsStrictlySortedBy nat_cmp (filter_map (λ (line : AnswerLine). done_at line.end) (turns_lines n turns))
unfolding IsStrictlySortedBy
places_rise n [] = tt
places_rise n (turn ∷ turns) = (places_above (2 * n + 1) (n + 1) turns (omega arith), places_rise (n + 1) turns)

first_lines : (n : ℕ) (turns : List Turn) → filter (is_of_client (client 0)) (turns_lines n turns) ≡ turns_lines n turns
first_lines n [] = refl
first_lines n (turn ∷ turns) = ap (λ (lines : List AnswerLine). turn_line n turn ∷ lines) (first_lines (n + 1) turns)

lines_rise : (turns : List Turn) → IsStrictlySortedBy nat_cmp (dones (turns_lines 0 turns) (client 0))
lines_rise turns = subst (λ (lines : List AnswerLine). IsStrictlySortedBy nat_cmp (filter_map (λ (line : AnswerLine). done_at line.end) lines)) (sym (first_lines 0 turns)) (places_rise 0 turns)

-- each answer has its line
line_there : (turns front : List Turn) (turn : Turn) (back : List Turn) → turns ≡ front ++ turn ∷ back
    → list_any (λ (line : AnswerLine). is_call (client 0) (length front + 1) line && not (is_again line.end)) (turns_lines 0 turns) ≡ true
line_there turns front turn back e =
    let here : AnswerLine → Bool = λ (line : AnswerLine). is_call (client 0) (length front + 1) line && not (is_again line.end) in
    ap (λ (ts : List Turn). list_any here (turns_lines 0 ts)) e
    ∙ ap (list_any here) (turns_lines-append 0 front (turn ∷ back))
    ∙ list_any-append here (turns_lines 0 front) (turns_lines (0 + length front) (turn ∷ back))
    ∙ or_right (list_any here (turns_lines 0 front)) _ (or_left (here (turn_line (0 + length front) turn)) _ (ap (λ b. b && true) (eq-eqb (0 + length front + 1) (length front + 1) (omega arith))))

-- the lines answer the calls, as the book has it
pub single_answers : (script : Script) (turns : List Turn) → IsSingleRun script turns → Answers script (turns_book 0 turns) (turns_lines 0 turns)
single_answers script turns single = record {
  each = each_call script.clients turns single.made;
  borne_out = each_line (λ (line : AnswerLine). BorneOut script (turns_book 0 turns) (turns_lines 0 turns) line.client line.call line.end) [] turns (λ front turn back e. done_there script turns front turn back e);
  rise = each_line (λ (line : AnswerLine). IsStrictlySortedBy nat_cmp (dones (turns_lines 0 turns) line.client)) [] turns (λ front turn back e. lines_rise turns);
  accounted = along (AccountedAt (turns_lines 0 turns)) turns (λ front turn back e. (tt, (line_there turns front turn back e, unanswered front)));
}

-- ---- what the run keeps

-- no namenode is gone
none_gone : (at : NodeNo) (turns : List Turn) → list_any (is_loss_of at) (turns_book 0 turns ++ opens_turn (length turns + 1) ∷ []) ≡ false
none_gone at turns = none_passes_then (is_loss_of at) turns (λ k below. refl) (λ k turn below. refl)

not_void : (turns : List Turn) (s : SessionId) → is_void (turns_book 0 turns ++ opens_turn (length turns + 1) ∷ []) s ≡ false
not_void turns s = fails (opening_of (turns_book 0 turns ++ opens_turn (length turns + 1) ∷ []) s)
  where
    fails : (o : Option Opening) → passes (λ (p : Opening). list_any (is_loss_of p.node) (after_first (opens_session s) (turns_book 0 turns ++ opens_turn (length turns + 1) ∷ []))) o ≡ false
    fails None = refl
    fails (Some p) = none_dropped (is_loss_of p.node) _ (turns_book 0 turns ++ opens_turn (length turns + 1) ∷ []) (none_gone p.node turns)

-- what a run without locks keeps
pub single_kept : (script : Script) (turns : List Turn) → IsSingleRun script turns → KeptWithoutLocks script (turns_book 0 turns) (turns_lines 0 turns)
single_kept script turns single = record {
  stops = record {
    in_time = along (StopsInTimeAt script.stops) turns (λ front turn back e. (tt, tt));
    all = ap (list_all (has_stopped (turns_book 0 turns))) single.stays;
    no_more = along OpensNoMoreAt turns (λ front turn back e. (none_passes (is_stop_of (node 0)) 0 front (λ k below. refl) (λ k other below. refl), tt));
  };
  evicts = along EvictsMembersAt turns (λ front turn back e. (tt, tt));
  silent = along VoidIsSilentAt turns (λ front turn back e. (tt, λ void. let not = not_void front (session (length front + 1)) in cc));
  cuts = along (CutsInTimeAt script (turns_book 0 turns)) turns (λ front turn back e. (tt, tt));
  cut_once = along CutOnceAt turns (λ front turn back e. (tt, tt));
  reclaims = along ReclaimsLostAt turns (λ front turn back e. (tt, tt));
  in_order = along InOrderAt turns (λ front turn back e.
      (tt, none_passes_then (answers_after (client 0) (length front + 1)) front (λ k below. refl) (λ k other below. le-ltb (length front + 1) k (omega arith))));
  ends = each_line (λ (line : AnswerLine). EndKept script (turns_book 0 turns) (turns_lines 0 turns) line.client line.call line.end) [] turns (λ front turn back e. tt);
}

-- ---- the history

legal_from : (user : List ℕ) (before : List Note) (n : ℕ) (turns : List Turn) → EachAfter (LegalAt (user ∷ [])) before (turns_book n turns)
    → replies_told turns ≡ replies_of (space (user ∷ []) before) (client 0) user (calls_made turns)
legal_from user before n [] each = refl
legal_from user before n (turn ∷ turns) each =
    let opened_to : List Note = before ++ opens_turn (n + 1) ∷ [] in
    let same : space (user ∷ []) opened_to ≡ space (user ∷ []) before = space-push (user ∷ []) before (opens_turn (n + 1)) in
    let next : space (user ∷ []) (opened_to ++ does_turn (n + 1) turn ∷ []) ≡ (plain (space (user ∷ []) before) (client 0) user turn.call).space =
    space-push (user ∷ []) opened_to (does_turn (n + 1) turn) ∙ ap (λ (old : Namespace). (plain old (client 0) user turn.call).space) same in
    let reply : as_read turn.reply ≡ (plain (space (user ∷ []) before) (client 0) user turn.call).reply = each.1.0 ∙ ap (λ (old : Namespace). (plain old (client 0) user turn.call).reply) same in
    let rest : replies_told turns ≡ replies_of (space (user ∷ []) (opened_to ++ does_turn (n + 1) turn ∷ [])) (client 0) user (calls_made turns) =
    legal_from user (opened_to ++ does_turn (n + 1) turn ∷ []) (n + 1) turns each.1.1 in
    ap (λ (r : Reply). r ∷ replies_told turns) reply
    ∙ ap (λ (rs : List Reply). (plain (space (user ∷ []) before) (client 0) user turn.call).reply ∷ rs) (rest ∙ ap (λ (old : Namespace). replies_of old (client 0) user (calls_made turns)) next)

-- a legal book has the replies of the plain calls one after another
pub replies-from_legal : (user : List ℕ) (turns : List Turn) → Legal (user ∷ []) (turns_book 0 turns) → replies_told turns ≡ replies_of opening (client 0) user (calls_made turns)
unfolding Each
replies-from_legal user turns legal =
    legal_from user [] 0 turns legal ∙ ap (λ (old : Namespace). replies_of old (client 0) user (calls_made turns)) (space-none (user ∷ []))

replies_from : (user : List ℕ) (before : List Note) (n : ℕ) (turns : List Turn) → replies_told turns ≡ replies_of (space (user ∷ []) before) (client 0) user (calls_made turns)
    → EachAfter (LegalAt (user ∷ [])) before (turns_book n turns)
replies_from user before n [] told = tt
replies_from user before n (turn ∷ turns) told =
    let opened_to : List Note = before ++ opens_turn (n + 1) ∷ [] in
    let same : space (user ∷ []) opened_to ≡ space (user ∷ []) before = space-push (user ∷ []) before (opens_turn (n + 1)) in
    let next : space (user ∷ []) (opened_to ++ does_turn (n + 1) turn ∷ []) ≡ (plain (space (user ∷ []) before) (client 0) user turn.call).space =
    space-push (user ∷ []) opened_to (does_turn (n + 1) turn) ∙ ap (λ (old : Namespace). (plain old (client 0) user turn.call).space) same in
    let reply : as_read turn.reply ≡ (plain (space (user ∷ []) before) (client 0) user turn.call).reply = cc in
    let rest : replies_told turns ≡ replies_of (plain (space (user ∷ []) before) (client 0) user turn.call).space (client 0) user (calls_made turns) = cc in
    let here : as_read turn.reply ≡ (plain (space (user ∷ []) opened_to) (client 0) user turn.call).reply = reply ∙ ap (λ (old : Namespace). (plain old (client 0) user turn.call).reply) (sym same) in
    let told_after : replies_told turns ≡ replies_of (space (user ∷ []) (opened_to ++ does_turn (n + 1) turn ∷ [])) (client 0) user (calls_made turns) =
    rest ∙ ap (λ (old : Namespace). replies_of old (client 0) user (calls_made turns)) (sym next) in
    (tt, (here, replies_from user (opened_to ++ does_turn (n + 1) turn ∷ []) (n + 1) turns told_after))

-- a book with these replies is legal
pub legal-from_replies : (user : List ℕ) (turns : List Turn) → replies_told turns ≡ replies_of opening (client 0) user (calls_made turns) → Legal (user ∷ []) (turns_book 0 turns)
unfolding Each
legal-from_replies user turns told = replies_from user [] 0 turns (told ∙ ap (λ (old : Namespace). replies_of old (client 0) user (calls_made turns)) (sym (space-none (user ∷ []))))

spaces : (user : List ℕ) (old : Namespace) (n : ℕ) (turns : List Turn) → space_from (user ∷ []) old (turns_book n turns) ≡ space_after_calls old (client 0) user (calls_made turns)
spaces user old n [] = refl
spaces user old n (turn ∷ turns) = spaces user (plain old (client 0) user turn.call).space (n + 1) turns

-- its last namespace is that after the plain calls
pub space-turns_book : (user : List ℕ) (turns : List Turn) → space (user ∷ []) (turns_book 0 turns) ≡ space_after_calls opening (client 0) user (calls_made turns)
unfolding space
space-turns_book user turns = spaces user opening 0 turns

-- the last namespace of one turn more is that after its call
pub space-turns_push : (users : List (List ℕ)) (turns : List Turn) (turn : Turn) → space users (turns_book 0 (turns ++ turn ∷ [])) ≡ (applied users (space users (turns_book 0 turns)) (client 0) turn.call).space
space-turns_push users turns turn =
    let opened_to : List Note = turns_book 0 turns ++ opens_turn (length turns + 1) ∷ [] in
    ap (space users) (turns_book-push turns turn ∙ sym (append_assoc (turns_book 0 turns) (opens_turn (length turns + 1) ∷ []) (does_turn (length turns + 1) turn ∷ [])))
    ∙ space-push users opened_to (does_turn (length turns + 1) turn)
    ∙ ap (λ (old : Namespace). (applied users old (client 0) turn.call).space) (space-push users (turns_book 0 turns) (opens_turn (length turns + 1)))

-- a legal book stays so by a turn with the reply of its call
pub legal-turns_push : (users : List (List ℕ)) (turns : List Turn) (turn : Turn) → Legal users (turns_book 0 turns)
    → as_read turn.reply ≡ (applied users (space users (turns_book 0 turns)) (client 0) turn.call).reply → Legal users (turns_book 0 (turns ++ turn ∷ []))
legal-turns_push users turns turn legal reply =
    let opened_to : List Note = turns_book 0 turns ++ opens_turn (length turns + 1) ∷ [] in
    subst (Legal users) (append_assoc (turns_book 0 turns) (opens_turn (length turns + 1) ∷ []) (does_turn (length turns + 1) turn ∷ []) ∙ sym (turns_book-push turns turn))
    (Each-push (LegalAt users) opened_to (does_turn (length turns + 1) turn)
    (Each-push (LegalAt users) (turns_book 0 turns) (opens_turn (length turns + 1)) legal tt)
    (reply ∙ ap (λ (old : Namespace). (applied users old (client 0) turn.call).reply) (sym (space-push users (turns_book 0 turns) (opens_turn (length turns + 1))))))

-- ---- all of it

-- the run is told by its book, its lines and its last namespace
pub single_told : (script : Script) (turns : List Turn) (tree : Namespace) → IsSingleRun script turns → Legal (users_of script) (turns_book 0 turns) → tree ≡ space (users_of script) (turns_book 0 turns)
    → Told script (turns_book 0 turns) (turns_lines 0 turns) tree
single_told script turns tree single legal shown = record {
  orderly = single_orderly script turns single;
  legal = legal;
  sound = single_sound turns;
  answers = single_answers script turns single;
  licensed = single_licensed turns;
  explained = single_explained turns;
  tree = shown;
}

-- the run of one client whose replies and last namespace are those of the plain calls
pub single_told-from_replies : (script : Script) (turns : List Turn) (tree : Namespace) (user : List ℕ) → IsSingleRun script turns → users_of script ≡ user ∷ []
    → replies_told turns ≡ replies_of opening (client 0) user (calls_made turns) → tree ≡ space_after_calls opening (client 0) user (calls_made turns)
    → Told script (turns_book 0 turns) (turns_lines 0 turns) tree
single_told-from_replies script turns tree user single users told shown =
    single_told script turns tree single
    (subst (λ (us : List (List ℕ)). Legal us (turns_book 0 turns)) (sym users) (legal-from_replies user turns told))
    (shown ∙ sym (space-turns_book user turns) ∙ ap (λ (us : List (List ℕ)). space us (turns_book 0 turns)) (sym users))

-- ---- whose turns they are

-- where there is no client, there is no turn
pub made-none : (clients : List ClientCalls) (turns : List Turn) → clients ≡ [] → turns ≡ [] → MadeBy clients turns
made-none clients turns is none = subst (λ (cs : List ClientCalls). MadeBy cs turns) (sym is) none

-- where there is one, the turns are its calls
pub made-one : (clients : List ClientCalls) (one : ClientCalls) (turns : List Turn) → clients ≡ one ∷ [] → one.calls ≡ calls_made turns → MadeBy clients turns
made-one clients one turns is calls = subst (λ (cs : List ClientCalls). MadeBy cs turns) (sym is) calls
