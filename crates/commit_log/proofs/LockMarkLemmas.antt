-- What is held at the end of a book is what was taken and not given back later, told by where notes stand.
use Rattle.std.specs.Prelude.{◌≡◌, ℕ, ◌+◌, ◌≤◌, ◌<◌, suc, max, Bool, true, false, not, ◌||◌, ◌&&◌, ◌==◌, cond, List, [], ◌∷◌, ◌++◌, length, drop, take, map, slice_get, Option, Some, None, option_map, option_and_then, refl}
use Rattle.std.specs.BTreeMap.{get}
use Rattle.std.specs.List.{list_any, filter, filter_map, cons_option}
use Rattle.std.specs.Option.{option_or}
use Rattle.std.specs.Cmp.{nat_eq_equiv}
use Rattle.std.proofs.Common.{sym, ap, ◌∙◌, arith, append_assoc, append-nil, get_or, length-append}
use Rattle.std.proofs.Math.Seq.{drop-append_seam, drop-append-add}
use Rattle.std.proofs.lemmas.List.Elements.{filter-append}
use Rattle.std.proofs.lemmas.List.{map-append}
use Rattle.hops_base.specs.declared.ids.SessionId.{SessionId}
use Rattle.hops_base.specs.declared.ids.NodeNo.{NodeNo}
use Rattle.commit_log.specs.declared.note.Note.{Note}
use Rattle.commit_log.specs.declared.note.Note.TheVariants.{Open, Took, Gave, Wrote, Did, Cut, Met, Gone}
use Rattle.commit_log.specs.declared.held.LockMarks.{LockMarks}
use Rattle.commit_log.specs.declared.held.Taken.{Taken}
use Rattle.commit_log.specs.Parts.{passes, Opening, opened, opens_session, opening_of, is_at, Taking, took, gone_in, is_loss_of}
use Rattle.commit_log.proofs.PartLaws.{opening_of-append, opening_of-kept}
use Rattle.commit_log.specs.Locks.{is_of, held_after, held_from, held}
use Rattle.commit_log.specs.Places.{opening_node, opening_end, gives_all, is_past}
use Rattle.commit_log.specs.Reads.{Lock, lock_of, node_cmp, session_cmp}
use Rattle.commit_log.specs.LockMarks.{IsLockMarks, counted_at, is_lost_after, stays_on, taken_as, taken_at, taken_from, is_lasting, lock_in}
use Rattle.commit_log.proofs.PlaceLemmas.{any_drop}
use Rattle.commit_log.proofs.FlagMarkLemmas.{take-next, counted, last_end-next}

-- ---- openings by place

-- one note more
pub opening_end-push : (s : SessionId) (notes : List Note) (note : Note) → opening_end s (notes ++ note ∷ []) ≡ option_or (opening_end s notes) (option_map (counted_at (suc (length notes))) (opening_node s note))
opening_end-push s [] note = one (opening_node s note)
  where
    one : (t : Option NodeNo) → option_or (option_map (λ (node : NodeNo). (1, node)) t) None ≡ option_map (counted_at 1) t
    one (Some node) = refl
    one None = refl
opening_end-push s (n ∷ notes) note =
    ap (λ (t : Option (ℕ × NodeNo)). option_or (option_map (λ (node : NodeNo). (1, node)) (opening_node s n)) (option_map later t)) (opening_end-push s notes note)
    ∙ moved (opening_node s n) (opening_end s notes) (opening_node s note)
  where
    later : ℕ × NodeNo → ℕ × NodeNo
    later e = (suc e.0, e.1)

    moved : (a : Option NodeNo) (b : Option (ℕ × NodeNo)) (c : Option NodeNo)
        → option_or (option_map (λ (node : NodeNo). (1, node)) a) (option_map later (option_or b (option_map (counted_at (suc (length notes))) c)))
        ≡ option_or (option_or (option_map (λ (node : NodeNo). (1, node)) a) (option_map later b)) (option_map (counted_at (suc (suc (length notes)))) c)
    moved (Some x) b c = refl
    moved None (Some y) c = refl
    moved None None (Some z) = refl
    moved None None None = refl

-- the same by more notes
abbrev shifted : ℕ → ℕ × NodeNo → ℕ × NodeNo
shifted k e = (k + e.0, e.1)

abbrev later : ℕ × NodeNo → ℕ × NodeNo
later e = (suc e.0, e.1)

abbrev first_of : NodeNo → ℕ × NodeNo
first_of node = (1, node)

from_none : (k : ℕ) → k ≡ 0 + k
from_none k = omega arith

shifted_none : (t : Option (ℕ × NodeNo)) → t ≡ option_map (shifted 0) t
shifted_none (Some e) = ap (λ (k : ℕ). Some (k, e.1)) (from_none e.0)
shifted_none None = refl

shifted_more : (m : ℕ) (a : Option NodeNo) (b c : Option (ℕ × NodeNo)) → option_or (option_map first_of a) (option_map later (option_or b (option_map (shifted m) c))) ≡ option_or (option_or (option_map first_of a) (option_map later b)) (option_map (shifted (suc m)) c)
shifted_more m (Some x) b c = refl
shifted_more m None (Some y) c = refl
shifted_more m None None (Some z) = ap (λ (k : ℕ). Some (k, z.1)) (more z.0)
  where
    more : (k : ℕ) → suc (m + k) ≡ suc m + k
    more k = omega arith
shifted_more m None None None = refl

opening_end-append : (s : SessionId) (before notes : List Note) → opening_end s (before ++ notes) ≡ option_or (opening_end s before) (option_map (shifted (length before)) (opening_end s notes))
opening_end-append s [] notes = shifted_none (opening_end s notes)
opening_end-append s (n ∷ before) notes =
    ap (λ (t : Option (ℕ × NodeNo)). option_or (option_map first_of (opening_node s n)) (option_map later t)) (opening_end-append s before notes)
    ∙ shifted_more (length before) (opening_node s n) (opening_end s before) (opening_end s notes)

-- no opening stands past the end
within : (s : SessionId) (notes : List Note) (e : ℕ × NodeNo) → opening_end s notes ≡ Some e → e.0 ≤ length notes
within s [] e is = cc
within s (n ∷ notes) e is = two (opening_node s n) (opening_end s notes) (λ f. within s notes f) is
  where
    two : (a : Option NodeNo) (b : Option (ℕ × NodeNo)) → ((f : ℕ × NodeNo) → b ≡ Some f → f.0 ≤ length notes) → option_or (option_map first_of a) (option_map later b) ≡ Some e → e.0 ≤ suc (length notes)
    two (Some x) b rest h = let same : (1, x) ≡ e = cc in let at : 1 ≡ e.0 = ap (λ (f : ℕ × NodeNo). f.0) same in omega arith
    two None (Some y) rest h = let same : (suc y.0, y.1) ≡ e = cc in let at : suc y.0 ≡ e.0 = ap (λ (f : ℕ × NodeNo). f.0) same in let low = rest y refl in omega arith
    two None None rest h = cc

-- the opening is that of the place
abbrev node_at : Opening → NodeNo
node_at o = o.node

abbrev node_of : ℕ × NodeNo → NodeNo
node_of e = e.1

opens_here : (s : SessionId) (n : Note) (t : Option Opening) (rest : List Opening) (more : Option (ℕ × NodeNo)) → opened n ≡ t → option_map node_at (slice_get rest 0) ≡ option_map node_of more
    → option_map node_at (slice_get (cond (passes (λ (o : Opening). o.session.0 == s.0) t) (cons_option t rest) rest) 0) ≡ option_map node_of (option_or (option_map first_of (option_and_then (λ (o : Opening). cond (o.session.0 == s.0) (Some o.node) None) t)) (option_map later more))
opens_here s n None rest more is same = same ∙ same_node more
  where
    same_node : (t : Option (ℕ × NodeNo)) → option_map node_of t ≡ option_map node_of (option_map later t)
    same_node (Some e) = refl
    same_node None = refl
opens_here s n (Some o) rest more is same = elim (o.session.0 == s.0) as (λ b. option_map node_at (slice_get (cond b (o ∷ rest) rest) 0) ≡ option_map node_of (option_or (option_map first_of (cond b (Some o.node) None)) (option_map later more))) [
  | true ↦ refl
  | false ↦ same ∙ same_node more
]
  where
    same_node : (t : Option (ℕ × NodeNo)) → option_map node_of t ≡ option_map node_of (option_map later t)
    same_node (Some e) = refl
    same_node None = refl

one_first : (b : Bool) (n : Note) (notes : List Note) → filter_map opened (cond b (n ∷ notes) notes) ≡ cond b (cons_option (opened n) (filter_map opened notes)) (filter_map opened notes)
one_first true n notes = refl
one_first false n notes = refl

opening_told : (notes : List Note) (s : SessionId) → option_map node_at (opening_of notes s) ≡ option_map node_of (opening_end s notes)
opening_told [] s = refl
opening_told (n ∷ notes) s =
    ap (λ (os : List Opening). option_map node_at (slice_get os 0)) (one_first (opens_session s n) n (filter (opens_session s) notes))
    ∙ opens_here s n (opened n) (filter_map opened (filter (opens_session s) notes)) (opening_end s notes) refl (opening_told notes s)

-- ---- namenodes that are gone

-- the note takes the session's namenode away
abbrev lost_by : List Note → Note → SessionId → Bool
lost_by before n s = passes (λ (g : NodeNo). is_at before g s) (gone_in n)

-- a later note does
abbrev lost : List Note → List Note → SessionId → Bool
lost before [] s = false
lost before (n ∷ notes) s = lost_by before n s || lost (before ++ n ∷ []) notes s

turned : (m n : ℕ) → (m == n) ≡ (n == m)
turned m n = nat_eq_equiv.symm m n

lost_by_opening : (t : Option Opening) (g : Option NodeNo) → passes (λ (h : NodeNo). passes (λ (o : Opening). o.node.0 == h.0) t) g ≡ passes (λ (o : Opening). passes (λ (h : NodeNo). h.0 == o.node.0) g) t
lost_by_opening None None = refl
lost_by_opening None (Some h) = refl
lost_by_opening (Some o) None = refl
lost_by_opening (Some o) (Some h) = turned o.node.0 h.0

-- of a session that was opened before
lost_opened : (before notes : List Note) (s : SessionId) (o : Opening) → opening_of before s ≡ Some o → lost before notes s ≡ list_any (is_loss_of o.node) notes
lost_opened before [] s o is = refl
lost_opened before (n ∷ notes) s o is =
    ap (λ b. b || lost (before ++ n ∷ []) notes s) (lost_by_opening (opening_of before s) (gone_in n) ∙ ap (λ (t : Option Opening). passes (λ (p : Opening). is_loss_of p.node n) t) is)
    ∙ ap (λ b. is_loss_of o.node n || b) (lost_opened (before ++ n ∷ []) notes s o (opening_of-kept before (n ∷ []) s o is))

-- what stands after an opening
abbrev lost_later : List Note → ℕ × NodeNo → Bool
lost_later notes e = list_any (is_loss_of e.1) (drop e.0 notes)

opened_by : (before : List Note) (n : Note) (s : SessionId) → opening_of before s ≡ None → opening_of (before ++ n ∷ []) s ≡ opening_of (n ∷ []) s
opened_by before n s none = opening_of-append before (n ∷ []) s ∙ ap (λ (t : Option Opening). option_or t (opening_of (n ∷ []) s)) none

one_told : (n : Note) (s : SessionId) → option_map node_at (opening_of (n ∷ []) s) ≡ opening_node s n
one_told n s = opening_told (n ∷ []) s ∙ two (opening_node s n)
  where
    two : (t : Option NodeNo) → option_map node_of (option_or (option_map first_of t) None) ≡ t
    two (Some x) = refl
    two None = refl

none_of : (t : Option Opening) (x : Option NodeNo) → option_map node_at t ≡ x → x ≡ None → t ≡ None
none_of None x is none = refl
none_of (Some o) x is none = cc

some_of : (t : Option Opening) (node : NodeNo) → option_map node_at t ≡ Some node → (o : Opening) × (t ≡ Some o) × (o.node ≡ node)
some_of None node is = cc
some_of (Some o) node is = (o, refl, cc)

-- of one that was not
lost_unopened : (before notes : List Note) (s : SessionId) → opening_of before s ≡ None → lost before notes s ≡ passes (lost_later notes) (opening_end s notes)
lost_unopened before [] s none = refl
lost_unopened before (n ∷ notes) s none =
    ap (λ b. b || lost (before ++ n ∷ []) notes s) (lost_by_opening (opening_of before s) (gone_in n) ∙ ap (λ (t : Option Opening). passes (λ (p : Opening). is_loss_of p.node n) t) none)
    ∙ (elim (opening_node s n) as (λ (t : Option NodeNo). opening_node s n ≡ t → lost (before ++ n ∷ []) notes s ≡ passes (lost_later (n ∷ notes)) (option_or (option_map first_of t) (option_map later (opening_end s notes)))) [
      | None ↦ λ e. lost_unopened (before ++ n ∷ []) notes s (opened_by before n s none ∙ none_of (opening_of (n ∷ []) s) (opening_node s n) (one_told n s) e) ∙ moved (opening_end s notes)
      | Some node ↦ λ e. (let o = some_of (opening_of (n ∷ []) s) node (one_told n s ∙ e) in lost_opened (before ++ n ∷ []) notes s o.0 (opened_by before n s none ∙ o.1) ∙ ap (λ (m : NodeNo). list_any (is_loss_of m) notes) o.2)
    ] refl)
  where
    moved : (t : Option (ℕ × NodeNo)) → passes (lost_later notes) t ≡ passes (lost_later (n ∷ notes)) (option_map later t)
    moved (Some e) = refl
    moved None = refl

-- the same by places
abbrev lost_after : List Note → ℕ → ℕ × NodeNo → Bool
lost_after all k e = list_any (is_loss_of e.1) (drop (max k e.0) all)

lost_by_place : (before notes : List Note) (s : SessionId) → lost before notes s ≡ passes (lost_after (before ++ notes) (length before)) (opening_end s (before ++ notes))
lost_by_place before notes s =
    (elim (opening_end s before) as (λ (t : Option (ℕ × NodeNo)). opening_end s before ≡ t → lost before notes s ≡ passes (lost_after (before ++ notes) (length before)) (option_or t (option_map (shifted (length before)) (opening_end s notes)))) [
      | Some e ↦ λ is. (let o = some_of (opening_of before s) e.1 (opening_told before s ∙ ap (λ (t : Option (ℕ × NodeNo)). option_map node_of t) is) in lost_opened before notes s o.0 o.1 ∙ ap (λ (m : NodeNo). list_any (is_loss_of m) notes) o.2 ∙ sym (early e (within s before e is)))
      | None ↦ λ is. lost_unopened before notes s (none_of (opening_of before s) _ (opening_told before s) (ap (λ (t : Option (ℕ × NodeNo)). option_map node_of t) is)) ∙ moved (opening_end s notes)
    ] refl)
    ∙ ap (passes (lost_after (before ++ notes) (length before))) (sym (opening_end-append s before notes))
  where
    early : (e : ℕ × NodeNo) → e.0 ≤ length before → list_any (is_loss_of e.1) (drop (max (length before) e.0) (before ++ notes)) ≡ list_any (is_loss_of e.1) notes
    early e low = let most : max (length before) e.0 ≡ length before = omega arith in ap (λ (k : ℕ). list_any (is_loss_of e.1) (drop k (before ++ notes))) most ∙ ap (list_any (is_loss_of e.1)) (drop-append_seam before notes)

    moved : (t : Option (ℕ × NodeNo)) → passes (lost_later notes) t ≡ passes (lost_after (before ++ notes) (length before)) (option_map (shifted (length before)) t)
    moved (Some e) = let most : max (length before) (length before + e.0) ≡ length before + e.0 = omega arith in sym (ap (λ (k : ℕ). list_any (is_loss_of e.1) (drop k (before ++ notes))) most ∙ ap (list_any (is_loss_of e.1)) (drop-append-add before notes e.0))
    moved None = refl

-- ---- what is kept

-- the locks that were taken among these notes and stay, where so many stand before them
abbrev kept_from : (ℕ → SessionId → Bool) → ℕ → List Note → List Taking
kept_from stays k [] = []
kept_from stays k (n ∷ notes) = filter (λ (t : Taking). stays (suc k) t.session) (cons_option (took n) []) ++ kept_from stays (suc k) notes

-- nothing gives back what the session took before these notes
abbrev lasts : List Note → List Note → SessionId → Bool
lasts before notes s = not (list_any (gives_all s) notes || lost before notes s)

-- the note leaves what the session holds
abbrev leaves : List Note → Note → SessionId → Bool
leaves before n s = not (gives_all s n || lost_by before n s)

filter_none : (keep : Taking → Bool) (ts : List Taking) → ((t : Taking) → keep t ≡ true) → ts ≡ filter keep ts
filter_none keep [] all = refl
filter_none keep (t ∷ ts) all = ap (λ (us : List Taking). t ∷ us) (filter_none keep ts all) ∙ ap (λ b. cond b (t ∷ filter keep ts) (filter keep ts)) (sym (all t))

filter_alike : (p q : Taking → Bool) (ts : List Taking) → ((t : Taking) → p t ≡ q t) → filter p ts ≡ filter q ts
filter_alike p q ts same = ap (λ (r : Taking → Bool). filter r ts) (λ i t. same t i)

filter_twice : (p q : Taking → Bool) (ts : List Taking) → filter p (filter q ts) ≡ filter (λ t. q t && p t) ts
filter_twice p q [] = refl
filter_twice p q (t ∷ ts) = elim (q t) as (λ b. filter p (cond b (t ∷ filter q ts) (filter q ts)) ≡ cond (b && p t) (t ∷ filter (λ t. q t && p t) ts) (filter (λ t. q t && p t) ts)) [
  | true ↦ ap (λ (us : List Taking). cond (p t) (t ∷ us) us) (filter_twice p q ts)
  | false ↦ filter_twice p q ts
]

or_false : (b : Bool) → (b || false) ≡ b
or_false true = refl
or_false false = refl

-- what is held after a note: what it leaves, and what it takes
after_note : (before : List Note) (locks : List Taking) (n : Note) → held_after before locks n ≡ filter (λ (t : Taking). leaves before n t.session) locks ++ cons_option (took n) []
after_note before locks (Open s client number node) = filter_none _ locks (λ t. refl) ∙ sym (append-nil _)
after_note before locks (Took s key mode) = ap (λ (ts : List Taking). ts ++ record { session = s; key = key; mode = mode } ∷ []) (filter_none (λ t. true) locks (λ t. refl))
after_note before locks (Gave s) = filter_alike (λ (t : Taking). not (is_of s t)) (λ (t : Taking). leaves before (Gave s) t.session) locks (λ t. ap not (turned t.session.0 s.0 ∙ sym (or_false (s.0 == t.session.0)))) ∙ sym (append-nil _)
after_note before locks (Wrote s work) = filter_none _ locks (λ t. refl) ∙ sym (append-nil _)
after_note before locks (Did s client number call reads reply) = filter_alike (λ (t : Taking). not (is_of s t)) (λ (t : Taking). leaves before (Did s client number call reads reply) t.session) locks (λ t. ap not (turned t.session.0 s.0 ∙ sym (or_false (s.0 == t.session.0)))) ∙ sym (append-nil _)
after_note before locks (Cut op path gone) = filter_none _ locks (λ t. refl) ∙ sym (append-nil _)
after_note before locks (Met s cause) = filter_none _ locks (λ t. refl) ∙ sym (append-nil _)
after_note before locks (Gone node ended) = sym (append-nil _)

lasts_on : (before : List Note) (n : Note) (notes : List Note) (s : SessionId) → (leaves before n s && lasts (before ++ n ∷ []) notes s) ≡ lasts before (n ∷ notes) s
lasts_on before n notes s = four (gives_all s n) (lost_by before n s) (list_any (gives_all s) notes) (lost (before ++ n ∷ []) notes s)
  where
    four : (a b c d : Bool) → (not (a || b) && not (c || d)) ≡ not ((a || c) || (b || d))
    four true b c d = refl
    four false true true d = refl
    four false true false d = refl
    four false false c d = refl

held_kept : (stays : ℕ → SessionId → Bool) (all : List Note) → ((before notes : List Note) → before ++ notes ≡ all → (s : SessionId) → stays (length before) s ≡ lasts before notes s)
    → (before : List Note) (locks : List Taking) (notes : List Note) → before ++ notes ≡ all → held_from before locks notes ≡ filter (λ (t : Taking). stays (length before) t.session) locks ++ kept_from stays (length before) notes
held_kept stays all tells before locks [] is = filter_none (λ (t : Taking). stays (length before) t.session) locks (λ t. tells before [] is t.session) ∙ sym (append-nil _)
held_kept stays all tells before locks (n ∷ notes) is =
    held_kept stays all tells (before ++ n ∷ []) (held_after before locks n) notes next
    ∙ ap (λ (k : ℕ). filter (λ (t : Taking). stays k t.session) (held_after before locks n) ++ kept_from stays k notes) count
    ∙ ap (λ (ts : List Taking). filter keep ts ++ kept_from stays (suc (length before)) notes) (after_note before locks n)
    ∙ ap (λ (ts : List Taking). ts ++ kept_from stays (suc (length before)) notes) (filter-append keep (filter (λ (t : Taking). leaves before n t.session) locks) (cons_option (took n) []))
    ∙ append_assoc (filter keep (filter (λ (t : Taking). leaves before n t.session) locks)) (filter keep (cons_option (took n) [])) (kept_from stays (suc (length before)) notes)
    ∙ ap (λ (ts : List Taking). ts ++ kept_from stays (length before) (n ∷ notes)) (filter_twice keep (λ (t : Taking). leaves before n t.session) locks ∙ filter_alike _ _ locks same)
  where
    keep : Taking → Bool
    keep t = stays (suc (length before)) t.session

    next : (before ++ n ∷ []) ++ notes ≡ all
    next = append_assoc before (n ∷ []) notes ∙ is

    one : length before + 1 ≡ suc (length before)
    one = omega arith

    count : length (before ++ n ∷ []) ≡ suc (length before)
    count = length-append before (n ∷ []) ∙ one

    same : (t : Taking) → (leaves before n t.session && keep t) ≡ stays (length before) t.session
    same t =
        ap (λ (k : ℕ). leaves before n t.session && stays k t.session) (sym count)
        ∙ ap (λ b. leaves before n t.session && b) (tells (before ++ n ∷ []) notes next t.session)
        ∙ lasts_on before n notes t.session
        ∙ sym (tells before (n ∷ notes) is t.session)

-- ---- by the maps

stays_lasts : (all : List Note) (marks : LockMarks) → IsLockMarks all marks → (before notes : List Note) → before ++ notes ≡ all → (s : SessionId) → stays_on marks (length before) s ≡ lasts before notes s
stays_lasts all marks is before notes here s =
    ap (λ b. not (b || passes (is_lost_after marks (length before)) (get session_cmp marks.opened s))) given
    ∙ ap (λ b. not (list_any (gives_all s) notes || b)) gone
  where
    given : is_past (Some (length before)) (get session_cmp marks.gave s) ≡ list_any (gives_all s) notes
    given = ap (λ (t : Option ℕ). is_past (Some (length before)) t) (is.giving s) ∙ sym (any_drop (gives_all s) (length before) all) ∙ ap (λ (ns : List Note). list_any (gives_all s) (drop (length before) ns)) (sym here) ∙ ap (list_any (gives_all s)) (drop-append_seam before notes)

    each : (t : Option (ℕ × NodeNo)) → passes (is_lost_after marks (length before)) t ≡ passes (lost_after all (length before)) t
    each (Some e) = ap (λ (t : Option ℕ). is_past (Some (max (length before) e.0)) t) (is.loss e.1) ∙ sym (any_drop (is_loss_of e.1) (max (length before) e.0) all)
    each None = refl

    gone : passes (is_lost_after marks (length before)) (get session_cmp marks.opened s) ≡ lost before notes s
    gone = ap (passes (is_lost_after marks (length before))) (is.opening s) ∙ each (opening_end s all) ∙ sym (lost_by_place before notes s ∙ ap (λ (ns : List Note). passes (lost_after ns (length before)) (opening_end s ns)) here)

-- what is held is what was taken and stays
held_by_place : (notes : List Note) (marks : LockMarks) → IsLockMarks notes marks → kept_from (stays_on marks) 0 notes ≡ held notes
unfolding held
held_by_place notes marks is = sym (held_kept (stays_on marks) notes (stays_lasts notes marks is) [] [] notes refl)

-- what the note takes, if it stays
abbrev kept_of : LockMarks → ℕ → Note → List Taking
kept_of marks k n = filter (λ (t : Taking). stays_on marks k t.session) (cons_option (took n) [])

-- what is sifted from what one note takes
sifted_one : (marks : LockMarks) (k : ℕ) (t : Option Taking) → map lock_in (filter (is_lasting marks) (map (taken_as k) (cons_option t []))) ≡ map lock_of (filter (λ (u : Taking). stays_on marks k u.session) (cons_option t []))
sifted_one marks k None = refl
sifted_one marks k (Some t) = elim (stays_on marks k t.session) as (λ b. map lock_in (cond b (taken_as k t ∷ []) []) ≡ map lock_of (cond b (t ∷ []) [])) [
  | true ↦ refl
  | false ↦ refl
]

sifted : (marks : LockMarks) (k : ℕ) (notes : List Note) → map lock_in (filter (is_lasting marks) (taken_from k notes)) ≡ map lock_of (kept_from (stays_on marks) k notes)
sifted marks k [] = refl
sifted marks k (n ∷ notes) =
    ap (map lock_in) (filter-append (is_lasting marks) (taken_at (suc k) n) (taken_from (suc k) notes))
    ∙ map-append lock_in (filter (is_lasting marks) (taken_at (suc k) n)) (filter (is_lasting marks) (taken_from (suc k) notes))
    ∙ ap (λ (ls : List Lock). ls ++ map lock_in (filter (is_lasting marks) (taken_from (suc k) notes))) (sifted_one marks (suc k) (took n))
    ∙ ap (λ (ls : List Lock). map lock_of (kept_of marks (suc k) n) ++ ls) (sifted marks (suc k) notes)
    ∙ sym (map-append lock_of (kept_of marks (suc k) n) (kept_from (stays_on marks) (suc k) notes))

-- what is sifted from all that is taken is what is held
pub held_by_sifting : (notes : List Note) (marks : LockMarks) (takings : List Taken) → IsLockMarks notes marks → takings ≡ taken_from 0 notes → map lock_in (filter (is_lasting marks) takings) ≡ map lock_of (held notes)
held_by_sifting notes marks takings is all = ap (λ (ts : List Taken). map lock_in (filter (is_lasting marks) ts)) all ∙ sifted marks 0 notes ∙ ap (map lock_of) (held_by_place notes marks is)

-- ---- the walk, and the sifting

pub lock_marks-next : (notes : List Note) (i : ℕ) (note : Note) (old new : LockMarks) → i < length notes → note ≡ get_or notes i note → IsLockMarks (take i notes) old
    → ((s : SessionId) → get session_cmp new.opened s ≡ option_or (get session_cmp old.opened s) (option_map (counted_at (i + 1)) (opening_node s note)))
    → ((s : SessionId) → get session_cmp new.gave s ≡ cond (gives_all s note) (Some (i + 1)) (get session_cmp old.gave s))
    → ((node : NodeNo) → get node_cmp new.gone node ≡ cond (is_loss_of node note) (Some (i + 1)) (get node_cmp old.gone node))
    → IsLockMarks (take (i + 1) notes) new
lock_marks-next notes i note old new h is was opening giving loss = record {
  opening = λ s. opening s
      ∙ ap (λ (t : Option (ℕ × NodeNo)). option_or t (option_map (counted_at (i + 1)) (opening_node s note))) (was.opening s)
      ∙ ap (λ (k : ℕ). option_or (opening_end s (take i notes)) (option_map (counted_at k) (opening_node s note))) (counted notes i h)
      ∙ sym (opening_end-push s (take i notes) note)
      ∙ ap (λ (ns : List Note). opening_end s ns) (sym (take-next notes i note h is));
  giving = λ s. giving s ∙ ap (λ (t : Option ℕ). cond (gives_all s note) (Some (i + 1)) t) (was.giving s) ∙ last_end-next (gives_all s) notes i note h is;
  loss = λ node. loss node ∙ ap (λ (t : Option ℕ). cond (is_loss_of node note) (Some (i + 1)) t) (was.loss node) ∙ last_end-next (is_loss_of node) notes i note h is;
}

taken_from-push : (k : ℕ) (notes : List Note) (note : Note) → taken_from k (notes ++ note ∷ []) ≡ taken_from k notes ++ taken_at (k + suc (length notes)) note
taken_from-push k [] note = append-nil (taken_at (suc k) note) ∙ ap (λ (m : ℕ). taken_at m note) one
  where
    one : suc k ≡ k + 1
    one = omega arith
taken_from-push k (n ∷ notes) note =
    ap (λ (ts : List Taken). taken_at (suc k) n ++ ts) (taken_from-push (suc k) notes note)
    ∙ sym (append_assoc (taken_at (suc k) n) (taken_from (suc k) notes) _)
    ∙ ap (λ (m : ℕ). taken_from k (n ∷ notes) ++ taken_at m note) one
  where
    one : suc k + suc (length notes) ≡ k + suc (suc (length notes))
    one = omega arith

pub takings-next : (notes : List Note) (i : ℕ) (note : Note) (old new : List Taken) → i < length notes → note ≡ get_or notes i note → old ≡ taken_from 0 (take i notes) → new ≡ old ++ taken_at (i + 1) note
    → new ≡ taken_from 0 (take (i + 1) notes)
takings-next notes i note old new h is was now =
    now
    ∙ ap (λ (ts : List Taken). ts ++ taken_at (i + 1) note) was
    ∙ ap (λ (k : ℕ). taken_from 0 (take i notes) ++ taken_at k note) (counted notes i h ∙ from_none _)
    ∙ sym (taken_from-push 0 (take i notes) note)
    ∙ ap (λ (ns : List Note). taken_from 0 ns) (sym (take-next notes i note h is))

pub lasting-next : (marks : LockMarks) (taken : Taken) (left rest : List Taken) (old new all : List Lock) → left ≡ taken ∷ rest → old ++ map lock_in (filter (is_lasting marks) left) ≡ all
    → new ≡ old ++ map lock_in (filter (is_lasting marks) (taken ∷ [])) → new ++ map lock_in (filter (is_lasting marks) rest) ≡ all
lasting-next marks taken left rest old new all first was now =
    ap (λ (ls : List Lock). ls ++ map lock_in (filter (is_lasting marks) rest)) now
    ∙ append_assoc old (map lock_in (filter (is_lasting marks) (taken ∷ []))) (map lock_in (filter (is_lasting marks) rest))
    ∙ ap (λ (ls : List Lock). old ++ ls) (sym (map-append lock_in (filter (is_lasting marks) (taken ∷ [])) (filter (is_lasting marks) rest)))
    ∙ ap (λ (ts : List Taken). old ++ map lock_in ts) (sym (filter-append (is_lasting marks) (taken ∷ []) rest))
    ∙ ap (λ (ts : List Taken). old ++ map lock_in (filter (is_lasting marks) ts)) (sym first)
    ∙ was
