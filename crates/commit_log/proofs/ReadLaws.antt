-- What a book's journal, its listed locks and its listed flags tell.
use Rattle.std.specs.Prelude.{◌≡◌, ℕ, ◌+◌, ◌<◌, ◌≤◌, if◌then◌else◌, is_some, Bool, true, false, not, ◌&&◌, ◌||◌, ◌==◌, cond, List, [], ◌∷◌, ◌++◌, length, map, slice_get, Option, Some, None, refl}
use Rattle.std.specs.List.{filter, filter_map, cons_option, enumerate_from, list_any, list_all, Contains, IsDistinct, AllByRecursion, dedup, dedup_from}
use Rattle.std.specs.List.Sorted.{IsStrictlySortedBy}
use Rattle.std.specs.declared.cmp.Ordering.{Ordering}
use Rattle.std.specs.declared.cmp.Ordering.TheVariants.{Less, Equal, Greater}
use Rattle.std.specs.Ordering.{nat_cmp, is_eq, is_lt, eq_by_cmp, ordering_then}
use Rattle.std.specs.Cmp.{IsTotalOrder, nat_eq_equiv, on_total, then_total, nat_cmp_total}
use Rattle.std.proofs.Common.{sym, ap, subst, ◌∙◌, arith, append_assoc, append-nil, length-append}
use Rattle.std.proofs.lemmas.Cmp.{eq_by_cmp_equiv}
use Rattle.std.proofs.lemmas.List.{map-append, get_or-map, length-map}
use Rattle.std.proofs.lemmas.List.Kept.{IsStrictlySortedBy-dedup, IsStrictlySortedBy-filter}
use Rattle.std.proofs.lemmas.List.Sorted.{IsPermutation-sym, Contains-permutation}
use Rattle.std.proofs.lemmas.Map.Keys.{IsDistinct-push, IsDistinct-IsPermutation, IsDistinct-head, IsDistinct-tail, IsDistinct-cons}
use Rattle.std.proofs.lemmas.Map.Lookups.{CmpEqualImpliesEq, exact_unsigned, btree_set_from_contains}
use Rattle.hops_base.specs.declared.ids.OpId.{OpId}
use Rattle.hops_base.specs.Key.{key_cmp, key_cmp_total}
use Rattle.name_space.specs.Namespace.{Namespace, opening}
use Rattle.commit_log.specs.declared.note.Note.{Note}
use Rattle.commit_log.specs.declared.note.Note.TheVariants.{Open, Took, Gave, Wrote, Did, Cut, Met, Gone}
use Rattle.commit_log.specs.Along.{EachAfter, Each}
use Rattle.commit_log.specs.Parts.{Where, is_at, Taking, Flagging, flagged}
use Rattle.commit_log.specs.Flags.{is_running, flags}
use Rattle.commit_log.specs.Orderly.{flaggings, NumberedAt}
use Rattle.commit_log.proofs.OrderLaws.{flaggings-push}
use Rattle.commit_log.specs.Legal.{LegalIn, LegalAt, Legal, space_after, space_from, space}
use Rattle.commit_log.proofs.SpaceLaws.{space-push}
use Rattle.commit_log.specs.Locks.{is_of, held_after, held, is_above, SoundAt, Sound}
use Rattle.commit_log.proofs.HeldLaws.{held-push, held-none}
use Rattle.commit_log.specs.Reads.{tells_history, journal, journal_from, Lock, lock_of, lock_cmp, HoldsExactly, op_cmp, op_of, FlagsExactly}

-- ---- the journal

at_seam : (before notes : List Note) (n : Note) → slice_get (before ++ n ∷ notes) (length before) ≡ Some n
at_seam [] notes n = refl
at_seam (b ∷ before) notes n = at_seam before notes n

one_more : (before : List Note) (n : Note) → length (before ++ n ∷ []) ≡ length before + 1
one_more before n = length-append before (n ∷ [])

numbered_step : (before notes : List Note) (n : Note) → filter_map (slice_get ((before ++ n ∷ []) ++ notes)) (journal_from (length (before ++ n ∷ [])) notes) ≡ filter tells_history notes → filter_map (slice_get (before ++ n ∷ notes)) (journal_from (length before) (n ∷ notes)) ≡ filter tells_history (n ∷ notes)
numbered_step before notes n rest = elim (tells_history n) as (λ b. filter_map (slice_get (before ++ n ∷ notes)) (map (λ (e : ℕ × Note). e.0) (cond b ((length before, n) ∷ others) others)) ≡ cond b (n ∷ filter tells_history notes) (filter tells_history notes)) [
  | true ↦ ap (λ (t : Option Note). cons_option t (filter_map (slice_get (before ++ n ∷ notes)) (journal_from (length before + 1) notes))) (at_seam before notes n) ∙ ap (λ (ns : List Note). n ∷ ns) more
  | false ↦ more
]
  where
    others : List (ℕ × Note)
    others = filter (λ (e : ℕ × Note). tells_history e.1) (enumerate_from (length before + 1) notes)

    more : filter_map (slice_get (before ++ n ∷ notes)) (journal_from (length before + 1) notes) ≡ filter tells_history notes
    more =
        sym (ap (λ (ns : List Note). filter_map (slice_get ns) (journal_from (length before + 1) notes)) (append_assoc before (n ∷ []) notes))
        ∙ sym (ap (λ (k : ℕ). filter_map (slice_get ((before ++ n ∷ []) ++ notes)) (journal_from k notes)) (one_more before n))
        ∙ rest

numbered_notes : (before notes : List Note) → filter_map (slice_get (before ++ notes)) (journal_from (length before) notes) ≡ filter tells_history notes
numbered_notes before [] = refl
numbered_notes before (n ∷ notes) = numbered_step before notes n (numbered_notes (before ++ n ∷ []) notes)

-- the journal has the numbers of the Did and Cut notes
pub journal-notes : (notes : List Note) → filter_map (slice_get notes) (journal notes) ≡ filter tells_history notes
journal-notes notes = numbered_notes [] notes

below : (k m : ℕ) → k < m → nat_cmp k m ≡ Less
below k m h = grind arith

all_above : (k first : ℕ) (notes : List Note) → k < first → AllByRecursion (λ y. nat_cmp k y ≡ Less) (journal_from first notes)
all_above k first [] h = tt
all_above k first (n ∷ notes) h = (elim (tells_history n) as (λ b. AllByRecursion (λ y. nat_cmp k y ≡ Less) (map (λ (e : ℕ × Note). e.0) (cond b ((first, n) ∷ filter (λ (e : ℕ × Note). tells_history e.1) (enumerate_from (first + 1) notes)) (filter (λ (e : ℕ × Note). tells_history e.1) (enumerate_from (first + 1) notes))))) [
  | true ↦ (below k first h, all_above k (first + 1) notes (omega arith))
  | false ↦ all_above k (first + 1) notes (omega arith)
])

rises_from : (first : ℕ) (notes : List Note) → IsStrictlySortedBy nat_cmp (journal_from first notes)
unfolding IsStrictlySortedBy
rises_from first [] = tt
rises_from first (n ∷ notes) = (elim (tells_history n) as (λ b. IsStrictlySortedBy nat_cmp (map (λ (e : ℕ × Note). e.0) (cond b ((first, n) ∷ filter (λ (e : ℕ × Note). tells_history e.1) (enumerate_from (first + 1) notes)) (filter (λ (e : ℕ × Note). tells_history e.1) (enumerate_from (first + 1) notes))))) [
  | true ↦ (all_above first (first + 1) notes (omega arith), rises_from (first + 1) notes)
  | false ↦ rises_from (first + 1) notes
])

-- they rise
pub journal-rises : (notes : List Note) → IsStrictlySortedBy nat_cmp (journal notes)
journal-rises notes = rises_from 0 notes

history_from : (users : List (List ℕ)) (old : Namespace) (notes : List Note) → space_from users old (filter tells_history notes) ≡ space_from users old notes
history_from users old [] = refl
history_from users old (Open s client number node ∷ notes) = history_from users old notes
history_from users old (Took s key mode ∷ notes) = history_from users old notes
history_from users old (Gave s ∷ notes) = history_from users old notes
history_from users old (Wrote s work ∷ notes) = history_from users old notes
history_from users old (Did s client number call reads reply ∷ notes) = history_from users (space_after users old (Did s client number call reads reply)) notes
history_from users old (Cut op path gone ∷ notes) = history_from users (space_after users old (Cut op path gone)) notes
history_from users old (Met s cause ∷ notes) = history_from users old notes
history_from users old (Gone node ended ∷ notes) = history_from users old notes

-- these notes alone make the namespace
pub journal-space : (users : List (List ℕ)) (notes : List Note) → space users (filter tells_history notes) ≡ space users notes
unfolding space
journal-space users notes = history_from users opening notes

along : (users : List (List ℕ)) (before others : List Note) (n : Note) → space users before ≡ space users others → space users (before ++ n ∷ []) ≡ space users (others ++ n ∷ [])
along users before others n e = space-push users before n ∙ ap (λ (s : Namespace). space_after users s n) e ∙ sym (space-push users others n)

legal_to : (users : List (List ℕ)) (before others notes : List Note) → space users before ≡ space users others → EachAfter (LegalAt users) before notes → EachAfter (LegalAt users) others (filter tells_history notes)
legal_to users before others [] e each = tt
legal_to users before others (Open s client number node ∷ notes) e each = legal_to users (before ++ Open s client number node ∷ []) others notes (space-push users before _ ∙ e) each.1
legal_to users before others (Took s key mode ∷ notes) e each = legal_to users (before ++ Took s key mode ∷ []) others notes (space-push users before _ ∙ e) each.1
legal_to users before others (Gave s ∷ notes) e each = legal_to users (before ++ Gave s ∷ []) others notes (space-push users before _ ∙ e) each.1
legal_to users before others (Wrote s work ∷ notes) e each = legal_to users (before ++ Wrote s work ∷ []) others notes (space-push users before _ ∙ e) each.1
legal_to users before others (Did s client number call reads reply ∷ notes) e each =
    (subst (λ (x : Namespace). LegalIn users x (Did s client number call reads reply)) e each.0, legal_to users (before ++ Did s client number call reads reply ∷ []) (others ++ Did s client number call reads reply ∷ []) notes (along users before others _ e) each.1)
legal_to users before others (Cut op path gone ∷ notes) e each =
    (subst (λ (x : Namespace). LegalIn users x (Cut op path gone)) e each.0, legal_to users (before ++ Cut op path gone ∷ []) (others ++ Cut op path gone ∷ []) notes (along users before others _ e) each.1)
legal_to users before others (Met s cause ∷ notes) e each = legal_to users (before ++ Met s cause ∷ []) others notes (space-push users before _ ∙ e) each.1
legal_to users before others (Gone node ended ∷ notes) e each = legal_to users (before ++ Gone node ended ∷ []) others notes (space-push users before _ ∙ e) each.1

legal_back : (users : List (List ℕ)) (before others notes : List Note) → space users before ≡ space users others → EachAfter (LegalAt users) others (filter tells_history notes) → EachAfter (LegalAt users) before notes
legal_back users before others [] e each = tt
legal_back users before others (Open s client number node ∷ notes) e each = (tt, legal_back users (before ++ Open s client number node ∷ []) others notes (space-push users before _ ∙ e) each)
legal_back users before others (Took s key mode ∷ notes) e each = (tt, legal_back users (before ++ Took s key mode ∷ []) others notes (space-push users before _ ∙ e) each)
legal_back users before others (Gave s ∷ notes) e each = (tt, legal_back users (before ++ Gave s ∷ []) others notes (space-push users before _ ∙ e) each)
legal_back users before others (Wrote s work ∷ notes) e each = (tt, legal_back users (before ++ Wrote s work ∷ []) others notes (space-push users before _ ∙ e) each)
legal_back users before others (Did s client number call reads reply ∷ notes) e each =
    (subst (λ (x : Namespace). LegalIn users x (Did s client number call reads reply)) (sym e) each.0, legal_back users (before ++ Did s client number call reads reply ∷ []) (others ++ Did s client number call reads reply ∷ []) notes (along users before others _ e) each.1)
legal_back users before others (Cut op path gone ∷ notes) e each =
    (subst (λ (x : Namespace). LegalIn users x (Cut op path gone)) (sym e) each.0, legal_back users (before ++ Cut op path gone ∷ []) (others ++ Cut op path gone ∷ []) notes (along users before others _ e) each.1)
legal_back users before others (Met s cause ∷ notes) e each = (tt, legal_back users (before ++ Met s cause ∷ []) others notes (space-push users before _ ∙ e) each)
legal_back users before others (Gone node ended ∷ notes) e each = (tt, legal_back users (before ++ Gone node ended ∷ []) others notes (space-push users before _ ∙ e) each)

-- and are as legal as the book
pub journal-legal : (users : List (List ℕ)) (notes : List Note) → Legal users notes → Legal users (filter tells_history notes)
unfolding Each
journal-legal users notes each = legal_to users [] [] notes refl each

pub legal-journal : (users : List (List ℕ)) (notes : List Note) → Legal users (filter tells_history notes) → Legal users notes
unfolding Each
legal-journal users notes each = legal_back users [] [] notes refl each

-- ---- listed locks

-- the lock that was handed out so
abbrev taking_of : Lock → Taking
taking_of l = record { session = l.0; key = l.1; mode = l.2 }

same_takings : (ts : List Taking) → map taking_of (map lock_of ts) ≡ ts
same_takings [] = refl
same_takings (t ∷ ts) = ap (λ (us : List Taking). t ∷ us) (same_takings ts)

contains_map : {X Y : Type 0} (f : X → Y) (xs : List X) (x : X) → Contains xs x → Contains (map f xs) (f x)
contains_map f xs x h = (h.0, subst (λ (m : ℕ). h.0 < m) (sym (length-map xs f)) h.1, get_or-map f xs h.0 x (f x) h.1 ∙ ap f h.2)

-- a lock that is held is listed
pub held-listed : (notes : List Note) (locks : List Lock) (t : Taking) → HoldsExactly notes locks → Contains (held notes) t → Contains locks (lock_of t)
held-listed notes locks t is h = Contains-permutation (map lock_of (held notes)) locks (lock_of t) is.all (contains_map lock_of (held notes) t h)

-- and no other is
pub listed-held : (notes : List Note) (locks : List Lock) (t : Taking) → HoldsExactly notes locks → Contains locks (lock_of t) → Contains (held notes) t
listed-held notes locks t is h =
    subst (λ (ts : List Taking). Contains ts t) (same_takings (held notes))
    (contains_map taking_of (map lock_of (held notes)) (lock_of t) (Contains-permutation locks (map lock_of (held notes)) (lock_of t) (IsPermutation-sym (map lock_of (held notes)) locks is.all) h))

lock_total : IsTotalOrder lock_cmp
lock_total = then_total (on_total (λ (l : Lock). l.1) key_cmp_total) (on_total (λ (l : Lock). l.0.0) nat_cmp_total)

abbrev same_lock : Lock → Lock → Bool
same_lock = eq_by_cmp lock_cmp

distinct_filter : (p : Taking → Bool) (ts : List Taking) → IsDistinct same_lock (map lock_of ts) → IsDistinct same_lock (map lock_of (filter p ts))
distinct_filter p [] h = h
distinct_filter p (t ∷ ts) h = elim (p t) as (λ b. IsDistinct same_lock (map lock_of (cond b (t ∷ filter p ts) (filter p ts)))) [
  | true ↦ IsDistinct-cons same_lock (lock_of t) (map lock_of (filter p ts)) (fewer ts (IsDistinct-head same_lock (lock_of t) (map lock_of ts) h)) (distinct_filter p ts (IsDistinct-tail same_lock (lock_of t) (map lock_of ts) h))
  | false ↦ distinct_filter p ts (IsDistinct-tail same_lock (lock_of t) (map lock_of ts) h)
]
  where
    fewer : (us : List Taking) → AllByRecursion (λ y. same_lock (lock_of t) y ≡ false) (map lock_of us) → AllByRecursion (λ y. same_lock (lock_of t) y ≡ false) (map lock_of (filter p us))
    fewer [] all = tt
    fewer (u ∷ us) all = elim (p u) as (λ b. AllByRecursion (λ y. same_lock (lock_of t) y ≡ false) (map lock_of (cond b (u ∷ filter p us) (filter p us)))) [
      | true ↦ (all.0, fewer us all.1)
      | false ↦ fewer us all.1
    ]

-- what is taken is above all that its session holds, and so no lock that is held
eq_by_nat : (m n : ℕ) → is_eq (nat_cmp m n) ≡ (m == n)
eq_by_nat m n = grind arith

apart_one : (o : Ordering) (m n : ℕ) → (not (m == n) || is_lt o) ≡ true → is_eq (ordering_then o (nat_cmp m n)) ≡ false
apart_one Less m n h = refl
apart_one Equal m n h = eq_by_nat m n ∙ two (m == n) h
  where
    two : (b : Bool) → (not b || false) ≡ true → b ≡ false
    two true e = cc
    two false e = refl
apart_one Greater m n h = refl

left : (a b : Bool) → (a && b) ≡ true → a ≡ true
left true b h = refl
left false b h = h

right : (a b : Bool) → (a && b) ≡ true → b ≡ true
right true b h = h
right false b h = cc

new_apart : (t : Taking) (ts : List Taking) → list_all (is_above t.session t.key) ts ≡ true → list_any (same_lock (lock_of t)) (map lock_of ts) ≡ false
new_apart t [] h = refl
new_apart t (u ∷ us) h =
    ap (λ b. b || list_any (same_lock (lock_of t)) (map lock_of us)) ((eq_by_cmp_equiv lock_total).symm (lock_of t) (lock_of u) ∙ apart_one (key_cmp u.key t.key) u.session.0 t.session.0 (left _ _ h))
    ∙ new_apart t us (right (is_above t.session t.key u) _ h)

distinct_step : (before : List Note) (note : Note) → SoundAt before note → IsDistinct same_lock (map lock_of (held before)) → IsDistinct same_lock (map lock_of (held_after before (held before) note))
distinct_step before (Open s client number node) sound h = h
distinct_step before (Took s key mode) sound h =
    subst (IsDistinct same_lock) (sym (map-append lock_of (held before) (record { session = s; key = key; mode = mode } ∷ [])))
    (IsDistinct-push (eq_by_cmp_equiv lock_total) (map lock_of (held before)) (s, key, mode) h (new_apart (record { session = s; key = key; mode = mode }) (held before) sound.1))
distinct_step before (Gave s) sound h = distinct_filter (λ (lock : Taking). not (is_of s lock)) (held before) h
distinct_step before (Wrote s work) sound h = h
distinct_step before (Did s client number call reads reply) sound h = distinct_filter (λ (lock : Taking). not (is_of s lock)) (held before) h
distinct_step before (Cut op path gone) sound h = h
distinct_step before (Met s cause) sound h = h
distinct_step before (Gone node ended) sound h = distinct_filter (λ (lock : Taking). not (is_at before node lock.session)) (held before) h

distinct_after : (before notes : List Note) → IsDistinct same_lock (map lock_of (held before)) → EachAfter SoundAt before notes → IsDistinct same_lock (map lock_of (held (before ++ notes)))
distinct_after before [] h each = subst (λ (ns : List Note). IsDistinct same_lock (map lock_of (held ns))) (sym (append-nil before)) h
distinct_after before (n ∷ notes) h each =
    subst (λ (ns : List Note). IsDistinct same_lock (map lock_of (held ns))) (append_assoc before (n ∷ []) notes)
    (distinct_after (before ++ n ∷ []) notes (subst (λ (ts : List Taking). IsDistinct same_lock (map lock_of ts)) (sym (held-push before n)) (distinct_step before n each.0 h)) each.1)

dedup_distinct : (k : Lock) (ks : List Lock) → IsDistinct same_lock (k ∷ ks) → dedup_from same_lock k ks ≡ k ∷ ks
dedup_distinct k [] h = refl
dedup_distinct k (x ∷ xs) h =
    ap (λ b. cond b (dedup_from same_lock k xs) (k ∷ dedup_from same_lock x xs)) ((eq_by_cmp_equiv lock_total).symm x k ∙ (IsDistinct-head same_lock k (x ∷ xs) h).0)
    ∙ ap (λ (us : List Lock). k ∷ us) (dedup_distinct x xs (IsDistinct-tail same_lock k (x ∷ xs) h))

dedup_all : (ks : List Lock) → IsDistinct same_lock ks → dedup same_lock ks ≡ ks
dedup_all [] h = refl
dedup_all (k ∷ ks) h = dedup_distinct k ks h

none_distinct : IsDistinct same_lock []
unfolding IsDistinct
none_distinct = tt

-- in a sound book each lock is listed once
pub listed-once : (notes : List Note) (locks : List Lock) → Sound notes → HoldsExactly notes locks → IsStrictlySortedBy lock_cmp locks
unfolding Each
listed-once notes locks sound is =
    let start : IsDistinct same_lock (map lock_of (held [])) = subst (λ (ts : List Taking). IsDistinct same_lock (map lock_of ts)) (sym held-none) none_distinct in
    let moved : IsDistinct same_lock locks = IsDistinct-IsPermutation same_lock (eq_by_cmp_equiv lock_total).symm (map lock_of (held notes)) locks is.all (distinct_after [] notes start sound) in
    subst (IsStrictlySortedBy lock_cmp) (dedup_all locks moved) (IsStrictlySortedBy-dedup lock_total (λ x y. refl) locks is.rise)

-- ---- listed flags

-- flags rise by their operations
abbrev flag_cmp : Flagging → Flagging → Ordering
flag_cmp f g = nat_cmp f.op.0 g.op.0

flaggings_grow : (before : List Note) (n : Note) → flaggings before ≤ flaggings (before ++ n ∷ [])
flaggings_grow before n = let grown = flaggings-push before n in omega arith

one_above : (k : ℕ) (t : Option Flagging) (rest : List Flagging) → Where (λ (f : Flagging). k < f.op.0) t → AllByRecursion (λ (f : Flagging). k < f.op.0) rest → AllByRecursion (λ (f : Flagging). k < f.op.0) (cons_option t rest)
one_above k None rest here all = all
one_above k (Some f) rest here all = (here, all)

next_op : (k : ℕ) (before : List Note) (t : Option Flagging) → k ≤ flaggings before → Where (λ (f : Flagging). f.op.0 ≡ flaggings before + 1) t → Where (λ (f : Flagging). k < f.op.0) t
next_op k before None low is = tt
next_op k before (Some f) low is = omega arith

ops_above : (k : ℕ) (before notes : List Note) → k ≤ flaggings before → EachAfter NumberedAt before notes → AllByRecursion (λ (f : Flagging). k < f.op.0) (filter_map flagged notes)
ops_above k before [] low each = tt
ops_above k before (n ∷ notes) low each =
    let grown = flaggings_grow before n in
    one_above k (flagged n) (filter_map flagged notes) (next_op k before (flagged n) low each.0.1) (ops_above k (before ++ n ∷ []) notes (omega arith) each.1)

none_rise : IsStrictlySortedBy flag_cmp []
unfolding IsStrictlySortedBy
none_rise = tt

less_than : (f : Flagging) (fs : List Flagging) → AllByRecursion (λ (g : Flagging). f.op.0 < g.op.0) fs → AllByRecursion (λ (g : Flagging). flag_cmp f g ≡ Less) fs
less_than f [] all = tt
less_than f (g ∷ fs) all = (below f.op.0 g.op.0 all.0, less_than f fs all.1)

one_first : (t : Option Flagging) (rest : List Flagging) → Where (λ (f : Flagging). AllByRecursion (λ (g : Flagging). f.op.0 < g.op.0) rest) t → IsStrictlySortedBy flag_cmp rest → IsStrictlySortedBy flag_cmp (cons_option t rest)
unfolding IsStrictlySortedBy
one_first None rest here rise = rise
one_first (Some f) rest here rise = (less_than f rest here, rise)

later_ops : (before notes : List Note) (n : Note) (t : Option Flagging) → flagged n ≡ t → Where (λ (f : Flagging). f.op.0 ≡ flaggings before + 1) t → EachAfter NumberedAt (before ++ n ∷ []) notes → Where (λ (f : Flagging). AllByRecursion (λ (g : Flagging). f.op.0 < g.op.0) (filter_map flagged notes)) t
later_ops before notes n None is here each = tt
later_ops before notes n (Some f) is here each =
    let grown : flaggings (before ++ n ∷ []) ≡ flaggings before + 1 = flaggings-push before n ∙ ap (λ (t : Option Flagging). flaggings before + (if is_some t then 1 else 0)) is in
    ops_above f.op.0 (before ++ n ∷ []) notes (omega arith) each

flags_rise : (before notes : List Note) → EachAfter NumberedAt before notes → IsStrictlySortedBy flag_cmp (filter_map flagged notes)
flags_rise before [] each = none_rise
flags_rise before (n ∷ notes) each = one_first (flagged n) (filter_map flagged notes) (later_ops before notes n (flagged n) refl each.0.1 each.1) (flags_rise (before ++ n ∷ []) notes each.1)

ops_rise : (fs : List Flagging) → IsStrictlySortedBy flag_cmp fs → IsStrictlySortedBy op_cmp (map op_of fs)
unfolding IsStrictlySortedBy
ops_rise [] rise = tt
ops_rise (f ∷ fs) rise = (each fs rise.0, ops_rise fs rise.1)
  where
    each : (gs : List Flagging) → AllByRecursion (λ (g : Flagging). flag_cmp f g ≡ Less) gs → AllByRecursion (λ (o : OpId). op_cmp f.op o ≡ Less) (map op_of gs)
    each [] all = tt
    each (g ∷ gs) all = (all.0, each gs all.1)

turned : (q : OpId) (o : OpId) → is_eq (nat_cmp q.0 o.0) ≡ (o.0 == q.0)
turned q o = eq_by_nat q.0 o.0 ∙ nat_eq_equiv.symm q.0 o.0

any_op : (q : OpId) (fs : List Flagging) → list_any (λ (o : OpId). o.0 == q.0) (map op_of fs) ≡ list_any (λ (f : Flagging). f.op.0 == q.0) fs
any_op q [] = refl
any_op q (f ∷ fs) = ap (λ b. (f.op.0 == q.0) || b) (any_op q fs)

any_at : (q : OpId) (os : List OpId) → list_any (λ (o : OpId). is_eq (op_cmp q o)) os ≡ list_any (λ (o : OpId). o.0 == q.0) os
any_at q os = ap (λ (p : OpId → Bool). list_any p os) (λ i o. turned q o i)

exact_ops : CmpEqualImpliesEq op_cmp
exact_ops a b h = ap (λ (n : ℕ). record { 0 = n }) (exact_unsigned a.0 b.0 h)

-- where operations are numbered in turn, those listed are those of the flags, in their order
pub flags-listed : (notes : List Note) (ops : List OpId) → Each NumberedAt notes → FlagsExactly notes ops → ops ≡ map op_of (flags notes)
unfolding Each
flags-listed notes ops each is =
    btree_set_from_contains (on_total (λ (o : OpId). o.0) nat_cmp_total) (record { keys = ops }) (record { keys = map op_of (flags notes) }) is.rise
    (ops_rise (flags notes) (IsStrictlySortedBy-filter flag_cmp (is_running notes) (filter_map flagged notes) (flags_rise [] notes each)))
    (λ q. any_at q ops ∙ is.members q ∙ sym (any_at q (map op_of (flags notes)) ∙ any_op q (flags notes)))
    exact_ops
