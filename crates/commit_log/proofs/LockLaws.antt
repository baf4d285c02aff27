-- The locks that are held, note by note: each was taken, and nothing gave it back.
use Rattle.std.specs.Prelude.{◌≡◌, ◌≢◌, ℕ, ◌<◌, ◌==◌, zero, suc, ◌⊎◌, Bool, true, false, not, ◌&&◌, ◌||◌, cond, List, [], ◌∷◌, ◌++◌, length, slice_index_or, refl}
use Rattle.std.specs.List.{filter, list_any, Contains}
use Rattle.std.proofs.Common.{sym, ap, subst, ◌∙◌, arith, append_assoc, append-nil, ⊎_elim, inl, inr}
use Rattle.std.proofs.lemmas.Bool.{eq-eqb}
use Rattle.std.proofs.lemmas.Bool.Decides.{eqb_tells}
use Rattle.std.proofs.lemmas.Cmp.{eq_by_cmp_equiv}
use Rattle.std.specs.Cmp.{nat_eq_equiv}
use Rattle.hops_base.specs.declared.key.Key.{Key}
use Rattle.hops_base.specs.Key.{key_cmp_total, same_key}
use Rattle.hops_base.specs.declared.ids.Mode.{Mode}
use Rattle.hops_base.specs.declared.ids.Mode.TheVariants.{Shared, Exclusive}
use Rattle.hops_base.specs.declared.ids.SessionId.{SessionId}
use Rattle.hops_base.specs.declared.ids.ClientNo.{ClientNo}
use Rattle.hops_base.specs.declared.ids.NodeNo.{NodeNo}
use Rattle.name_space.specs.declared.call.Call.{Call}
use Rattle.name_space.specs.declared.reply.Reply.{Reply}
use Rattle.commit_log.specs.declared.note.Note.{Note}
use Rattle.commit_log.specs.declared.note.Note.TheVariants.{Open, Took, Gave, Wrote, Did, Cut, Met, Gone}
use Rattle.commit_log.specs.declared.note.Ended.{Ended}
use Rattle.commit_log.specs.Along.{EachAfter, Each}
use Rattle.commit_log.specs.Parts.{is_at, Taking}
use Rattle.hops_base.specs.Mode.{conflict}
use Rattle.commit_log.specs.Locks.{is_of, held_after, held_from, held, clashes, SoundAt, Sound}
use Rattle.commit_log.proofs.HeldLaws.{held-push, held-none}
use Rattle.commit_log.specs.Lasting.{StaysAt, IsTaken}

-- ---- nothing is left of what was given back

none_left : {X : Type 0} (p : X → Bool) (xs : List X) → list_any p (filter (λ x. not (p x)) xs) ≡ false
none_left p [] = refl
none_left p (x ∷ xs) =
    elim (p x) as (λ b. p x ≡ b → list_any p (cond (not b) (x ∷ filter (λ y. not (p y)) xs) (filter (λ y. not (p y)) xs)) ≡ false) [
      | true ↦ λ e. none_left p xs
      | false ↦ λ e. ap (λ b. b || list_any p (filter (λ y. not (p y)) xs)) e ∙ none_left p xs
    ] refl

-- a session that gave its locks back holds none
pub held-gave : (notes : List Note) (s : SessionId) → list_any (is_of s) (held (notes ++ Gave s ∷ [])) ≡ false
held-gave notes s = ap (list_any (is_of s)) (held-push notes (Gave s)) ∙ none_left (is_of s) (held notes)

-- nor does one that has answered
pub held-did : (notes : List Note) (s : SessionId) (client : ClientNo) (number : ℕ) (call : Call) (reads : ℕ) (reply : Reply)
    → list_any (is_of s) (held (notes ++ Did s client number call reads reply ∷ [])) ≡ false
held-did notes s client number call reads reply = ap (list_any (is_of s)) (held-push notes (Did s client number call reads reply)) ∙ none_left (is_of s) (held notes)

-- nor one that was opened at a namenode that is gone
pub held-gone : (notes : List Note) (node : NodeNo) (ended : Ended) → list_any (λ (lock : Taking). is_at notes node lock.session) (held (notes ++ Gone node ended ∷ [])) ≡ false
held-gone notes node ended =
    ap (list_any (λ (lock : Taking). is_at notes node lock.session)) (held-push notes (Gone node ended)) ∙ none_left (λ (lock : Taking). is_at notes node lock.session) (held notes)

-- ---- elements of lists

abbrev Among : {X : Type 0} → X → List X → Type 0
Among x [] = ⊥
Among x (y ∷ ys) = (y ≡ x) ⊎ Among x ys

among_of : {X : Type 0} (xs : List X) (x : X) (k : ℕ) → k < length xs → slice_index_or xs k x ≡ x → Among x xs
among_of [] x k below is = absurd (omega arith)
among_of (y ∷ ys) x zero below is = inl is
among_of (y ∷ ys) x (suc k) below is = inr (among_of ys x k (omega arith) is)

contains_of : {X : Type 0} (xs : List X) (x : X) → Among x xs → Contains xs x
contains_of [] x h = absurd h
contains_of (y ∷ ys) x h = ⊎_elim (λ is. (zero, omega arith, is)) (λ rest. let at = contains_of ys x rest in (suc at.0, omega arith, at.2)) h

not_false : (b : Bool) → not b ≡ true → b ≡ false
not_false true e = cc
not_false false e = refl

among_filter : {X : Type 0} (p : X → Bool) (xs : List X) (x : X) → Among x (filter (λ y. not (p y)) xs) → Among x xs × (p x ≡ false)
among_filter p [] x h = absurd h
among_filter p (y ∷ ys) x h =
    elim (p y) as (λ b. p y ≡ b → Among x (cond (not b) (y ∷ filter (λ z. not (p z)) ys) (filter (λ z. not (p z)) ys)) → Among x (y ∷ ys) × (p x ≡ false)) [
      | true ↦ λ e h. let rest = among_filter p ys x h in (inr rest.0, rest.1)
      | false ↦ λ e h. ⊎_elim (λ same. (inl same, subst (λ z. p z ≡ false) same e)) (λ more. let rest = among_filter p ys x more in (inr rest.0, rest.1)) h
    ] refl h

filter_among : {X : Type 0} (p : X → Bool) (xs : List X) (x : X) → Among x xs → p x ≡ false → Among x (filter (λ y. not (p y)) xs)
filter_among p [] x h is = absurd h
filter_among p (y ∷ ys) x h is =
    elim (p y) as (λ b. p y ≡ b → Among x (cond (not b) (y ∷ filter (λ z. not (p z)) ys) (filter (λ z. not (p z)) ys))) [
      | true ↦ λ e. ⊎_elim (λ same. absurd (differ (p y) e (subst (λ z. p z ≡ false) (sym same) is))) (λ rest. filter_among p ys x rest is) h
      | false ↦ λ e. ⊎_elim (λ same. inl same) (λ rest. inr (filter_among p ys x rest is)) h
    ] refl
  where
    differ : (b : Bool) → b ≡ true → b ≡ false → ⊥
    differ b is_true is_false = cc

among_last : {X : Type 0} (xs : List X) (y x : X) → Among x (xs ++ y ∷ []) → Among x xs ⊎ (y ≡ x)
among_last [] y x h = ⊎_elim (λ same. inr same) (λ none. absurd none) h
among_last (z ∷ zs) y x h = ⊎_elim (λ same. inl (inl same)) (λ rest. ⊎_elim (λ m. inl (inr m)) (λ same. inr same) (among_last zs y x rest)) h

last_among : {X : Type 0} (xs : List X) (y x : X) → Among x xs ⊎ (y ≡ x) → Among x (xs ++ y ∷ [])
last_among [] y x h = ⊎_elim (λ none. absurd none) (λ same. inl same) h
last_among (z ∷ zs) y x h = ⊎_elim (λ there. ⊎_elim (λ same. inl same) (λ rest. inr (last_among zs y x (inl rest))) there) (λ same. inr (last_among zs y x (inr same))) h

-- ---- one note

-- what is held after a note was held before it and stays, or is taken by it
step : (before : List Note) (locks : List Taking) (note : Note) (lock : Taking) → Among lock (held_after before locks note)
    → (Among lock locks × StaysAt lock before note) ⊎ (note ≡ Took lock.session lock.key lock.mode)
step before locks (Open s client number node) lock h = inl (h, refl)
step before locks (Took s key mode) lock h =
    ⊎_elim (λ there. inl (there, refl)) (λ same. inr (ap (λ (l : Taking). Took l.session l.key l.mode) same)) (among_last locks (record { session = s; key = key; mode = mode }) lock h)
step before locks (Gave s) lock h = inl (among_filter (is_of s) locks lock h)
step before locks (Wrote s work) lock h = inl (h, refl)
step before locks (Did s client number call reads reply) lock h = inl (among_filter (is_of s) locks lock h)
step before locks (Cut op path gone) lock h = inl (h, refl)
step before locks (Met s cause) lock h = inl (h, refl)
step before locks (Gone node ended) lock h = inl (among_filter (λ (l : Taking). is_at before node l.session) locks lock h)

stays : (before : List Note) (locks : List Taking) (note : Note) (lock : Taking) → Among lock locks → StaysAt lock before note → Among lock (held_after before locks note)
stays before locks (Open s client number node) lock h is = h
stays before locks (Took s key mode) lock h is = last_among locks (record { session = s; key = key; mode = mode }) lock (inl h)
stays before locks (Gave s) lock h is = filter_among (is_of s) locks lock h is
stays before locks (Wrote s work) lock h is = h
stays before locks (Did s client number call reads reply) lock h is = filter_among (is_of s) locks lock h is
stays before locks (Cut op path gone) lock h is = h
stays before locks (Met s cause) lock h is = h
stays before locks (Gone node ended) lock h is = filter_among (λ (l : Taking). is_at before node l.session) locks lock h is

-- ---- all notes

-- the lock is taken among these notes and stays, where others stand before them
record IsTakenAfter (before notes : List Note) (lock : Taking) : Type 0 where
  earlier : List Note
  later : List Note
  is : notes ≡ earlier ++ Took lock.session lock.key lock.mode ∷ later
  stays : EachAfter (StaysAt lock) ((before ++ earlier) ++ Took lock.session lock.key lock.mode ∷ []) later

taken_here : (before notes : List Note) (n : Note) (lock : Taking) → n ≡ Took lock.session lock.key lock.mode → EachAfter (StaysAt lock) (before ++ n ∷ []) notes → IsTakenAfter before (n ∷ notes) lock
taken_here before notes n lock is each = record {
  earlier = [];
  later = notes;
  is = ap (λ (m : Note). m ∷ notes) is;
  stays = subst (λ (b : List Note). EachAfter (StaysAt lock) (b ++ Took lock.session lock.key lock.mode ∷ []) notes) (sym (append-nil before)) (subst (λ (m : Note). EachAfter (StaysAt lock) (before ++ m ∷ []) notes) is each);
}

taken_later : (before notes : List Note) (n : Note) (lock : Taking) → IsTakenAfter (before ++ n ∷ []) notes lock → IsTakenAfter before (n ∷ notes) lock
taken_later before notes n lock t = record {
  earlier = n ∷ t.earlier;
  later = t.later;
  is = ap (λ (ms : List Note). n ∷ ms) t.is;
  stays = subst (λ (b : List Note). EachAfter (StaysAt lock) (b ++ Took lock.session lock.key lock.mode ∷ []) t.later) (append_assoc before (n ∷ []) t.earlier) t.stays;
}

taken_of : (before : List Note) (locks : List Taking) (notes : List Note) (lock : Taking) → Among lock (held_from before locks notes) → (Among lock locks × EachAfter (StaysAt lock) before notes) ⊎ IsTakenAfter before notes lock
taken_of before locks [] lock h = inl (h, tt)
taken_of before locks (n ∷ notes) lock h =
    ⊎_elim
    (λ old. ⊎_elim (λ there. inl (there.0, (there.1, old.1))) (λ here. inr (taken_here before notes n lock here old.1)) (step before locks n lock old.0))
    (λ taken. inr (taken_later before notes n lock taken))
    (taken_of (before ++ n ∷ []) (held_after before locks n) notes lock h)

still : (before : List Note) (locks : List Taking) (notes : List Note) (lock : Taking) → Among lock locks → EachAfter (StaysAt lock) before notes → Among lock (held_from before locks notes)
still before locks [] lock h each = h
still before locks (n ∷ notes) lock h each = still (before ++ n ∷ []) (held_after before locks n) notes lock (stays before locks n lock h each.0) each.1

held_of : (before : List Note) (locks : List Taking) (earlier later : List Note) (lock : Taking) → EachAfter (StaysAt lock) ((before ++ earlier) ++ Took lock.session lock.key lock.mode ∷ []) later
    → Among lock (held_from before locks (earlier ++ Took lock.session lock.key lock.mode ∷ later))
held_of before locks [] later lock each =
    still (before ++ Took lock.session lock.key lock.mode ∷ []) (locks ++ lock ∷ []) later lock (last_among locks lock lock (inr refl))
    (subst (λ (b : List Note). EachAfter (StaysAt lock) (b ++ Took lock.session lock.key lock.mode ∷ []) later) (append-nil before) each)
held_of before locks (n ∷ earlier) later lock each =
    held_of (before ++ n ∷ []) (held_after before locks n) earlier later lock
    (subst (λ (b : List Note). EachAfter (StaysAt lock) (b ++ Took lock.session lock.key lock.mode ∷ []) later) (sym (append_assoc before (n ∷ []) earlier)) each)

-- what is held was taken, and nothing gave it back
pub taken-from_held : (notes : List Note) (lock : Taking) → Contains (held notes) lock → IsTaken notes lock
unfolding held
taken-from_held notes lock h =
    ⊎_elim (λ old. absurd old.0) (λ t. record { earlier = t.earlier; later = t.later; is = t.is; stays = t.stays }) (taken_of [] [] notes lock (among_of (held notes) lock h.0 h.1 h.2))

-- what was taken and not given back is held
pub held-from_taken : (notes : List Note) (lock : Taking) → IsTaken notes lock → Contains (held notes) lock
unfolding held
held-from_taken notes lock t =
    contains_of (held notes) lock (subst (λ (ns : List Note). Among lock (held_from [] [] ns)) (sym t.is) (held_of [] [] t.earlier t.later lock t.stays))

-- ---- sound books

-- no two of the locks conflict
abbrev Agree : List Taking → Type 0
Agree locks = (a b : Taking) → Among a locks → Among b locks → clashes a.session a.key a.mode b ≡ false

turned : (m n : ℕ) → (m == n) ≡ (n == m)
turned m n = nat_eq_equiv.symm m n

turned_key : (k l : Key) → same_key k l ≡ same_key l k
turned_key k l = (eq_by_cmp_equiv key_cmp_total).symm k l

turned_mode : (m n : Mode) → conflict m n ≡ conflict n m
turned_mode Shared Shared = refl
turned_mode Shared Exclusive = refl
turned_mode Exclusive Shared = refl
turned_mode Exclusive Exclusive = refl

clashes_turned : (a b : Taking) → clashes a.session a.key a.mode b ≡ clashes b.session b.key b.mode a
clashes_turned a b i = not (turned b.session.0 a.session.0 i) && turned_key a.key b.key i && turned_mode a.mode b.mode i

none_of : {X : Type 0} (p : X → Bool) (xs : List X) (x : X) → list_any p xs ≡ false → Among x xs → p x ≡ false
none_of p [] x none h = absurd h
none_of p (y ∷ ys) x none h =
    elim (p y) as (λ b. p y ≡ b → (b || list_any p ys) ≡ false → p x ≡ false) [
      | true ↦ λ e n. cc
      | false ↦ λ e n. ⊎_elim (λ same. subst (λ z. p z ≡ false) same e) (λ rest. none_of p ys x n rest) h
    ] refl none

-- a lock that the note takes conflicts with none
taken_agrees : (before : List Note) (note : Note) (a b : Taking) → SoundAt before note → note ≡ Took a.session a.key a.mode → Among b (held before) → clashes a.session a.key a.mode b ≡ false
taken_agrees before note a b sound is there = none_of (clashes a.session a.key a.mode) (held before) b (subst (SoundAt before) is sound).0 there

one_taken : (a b : Taking) → Took a.session a.key a.mode ≡ Took b.session b.key b.mode → clashes a.session a.key a.mode b ≡ false
one_taken a b same =
    let one : b.session ≡ a.session = cc in
    ap (λ t. not t && same_key a.key b.key && conflict a.mode b.mode) (eq-eqb b.session.0 a.session.0 (ap (λ (s : SessionId). s.0) one))

agree_step : (before : List Note) (note : Note) → SoundAt before note → Agree (held before) → Agree (held_after before (held before) note)
agree_step before note sound agree a b in_a in_b =
    ⊎_elim
    (λ old_a. ⊎_elim
    (λ old_b. agree a b old_a.0 old_b.0)
    (λ new_b. clashes_turned a b ∙ taken_agrees before note b a sound new_b old_a.0)
    (step before (held before) note b in_b))
    (λ new_a. ⊎_elim
    (λ old_b. taken_agrees before note a b sound new_a old_b.0)
    (λ new_b. one_taken a b (sym new_a ∙ new_b))
    (step before (held before) note b in_b))
    (step before (held before) note a in_a)

agree_after : (before notes : List Note) → Agree (held before) → EachAfter SoundAt before notes → Agree (held (before ++ notes))
agree_after before [] agree each = subst (λ (ns : List Note). Agree (held ns)) (sym (append-nil before)) agree
agree_after before (n ∷ notes) agree each =
    subst (λ (ns : List Note). Agree (held ns)) (append_assoc before (n ∷ []) notes)
    (agree_after (before ++ n ∷ []) notes (subst Agree (sym (held-push before n)) (agree_step before n each.0 agree)) each.1)

both_shared : (m n : Mode) → conflict m n ≡ false → (m ≡ Shared) × (n ≡ Shared)
both_shared Shared Shared e = (refl, refl)
both_shared Shared Exclusive e = cc
both_shared Exclusive Shared e = cc
both_shared Exclusive Exclusive e = cc

-- where a book is sound, two sessions hold one key only where both share it
pub held-shared : (notes : List Note) → Sound notes → (a b : Taking) → Contains (held notes) a → Contains (held notes) b → a.session.0 ≢ b.session.0 → a.key ≡ b.key → (a.mode ≡ Shared) × (b.mode ≡ Shared)
unfolding Each
held-shared notes sound a b in_a in_b apart one =
    let none : Agree (held []) = subst Agree (sym held-none) (λ x y h g. absurd h) in
    let agree : clashes a.session a.key a.mode b ≡ false = agree_after [] notes none sound a b (among_of (held notes) a in_a.0 in_a.1 in_a.2) (among_of (held notes) b in_b.0 in_b.1 in_b.2) in
    both_shared a.mode b.mode (shown agree)
  where
    others : not (b.session.0 == a.session.0) ≡ true
    others = ⊎_elim (λ h. absurd (apart (sym h.1))) (λ h. ap not h.0) (eqb_tells b.session.0 a.session.0)

    same : same_key a.key b.key ≡ true
    same = subst (λ (k : Key). same_key a.key k ≡ true) one ((eq_by_cmp_equiv key_cmp_total).refl a.key)

    last : (s k c : Bool) → s ≡ true → k ≡ true → (s && k && c) ≡ false → c ≡ false
    last true true c p q e = e
    last true false c p q e = cc
    last false k c p q e = cc

    shown : clashes a.session a.key a.mode b ≡ false → conflict a.mode b.mode ≡ false
    shown e = last (not (b.session.0 == a.session.0)) (same_key a.key b.key) (conflict a.mode b.mode) others same e
