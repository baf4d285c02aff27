-- Laws of the keys that sessions hold: what one holds Exclusive no other locks_key, and a session holds its own until it gives
-- them back.
use Rattle.std.proofs.Common.{◌≡◌, ◌≢◌, ℕ, ◌<◌, zero, suc, take, slice_get, Some, Bool, true, false, not, ◌&&◌, ◌||◌, ◌==◌, inl, inr, List, [], ◌∷◌, ◌++◌, length, arith, refl, sym, ap, subst, ◌∙◌, eqb-true, eq-eqb}
use Rattle.std.proofs.lemmas.Bool.{and_parts, or_cases, or_left, or_right, false_from_ne_true}
use Rattle.std.proofs.lemmas.List.Folds.{list_any-append}
use Rattle.std.proofs.lemmas.Map.Views.{any-filter_same}
use Rattle.std.specs.List.{list_any, Contains}
use Rattle.hops_base.specs.declared.ids.SessionId.{SessionId}
use Rattle.hops_base.specs.declared.ids.Mode.{Mode}
use Rattle.hops_base.specs.declared.ids.Mode.TheVariants.{Shared, Exclusive}
use Rattle.hops_base.specs.declared.key.Key.{Key}
use Rattle.hops_base.specs.Key.{same_key}
use Rattle.hops_base.proofs.Tells.{keys_tell}
use Rattle.commit_log.specs.declared.note.Note.{Note}
use Rattle.commit_log.specs.declared.note.Note.TheVariants.{Open, Took, Gave, Wrote, Did, Cut, Met, Gone}
use Rattle.commit_log.specs.Parts.{Taking}
use Rattle.commit_log.specs.Locks.{is_of, held, held_after, Sound}
use Rattle.commit_log.specs.Parts.{Where, is_at, gone_in, actor}
use Rattle.commit_log.specs.Places.{gives_all}
use Rattle.commit_log.proofs.HeldLaws.{held-push}
use Rattle.commit_log.proofs.LockLaws.{held-shared}
use Rattle.db_state.specs.Current.{is_locked}
use Rattle.db_state.specs.Locked.{is_own, is_exclusive}
use Rattle.db_state.specs.Holding.{locks_key, locks_alone, HoldsAll, AreSameLocks, Leaves}

-- what the one locks Exclusive the other doesn't lock
abbrev pub HaveNoneInCommon : List (Key × Mode) → List (Key × Mode) → Type 0
HaveNoneInCommon ours theirs = (at : Key) → is_own theirs at ≡ true → is_locked ours at ≡ false

-- where a test is passed, some lock passes it
any_found : (p : Taking → Bool) (xs : List Taking) → list_any p xs ≡ true → (x : Taking) × Contains xs x × (p x ≡ true)
any_found p [] e = absurd (let bad = e in cc)
any_found p (x ∷ xs) e = elim (or_cases (p x) (list_any p xs) e) [
  | inl here ↦ (x, (zero, (let low : 0 < length (x ∷ xs) = omega arith in low), refl), here)
  | inr rest ↦ (let found = any_found p xs rest in (found.0, (suc found.1.0, (let low : found.1.0 < length xs = found.1.1 in let more : suc found.1.0 < length (x ∷ xs) = omega arith in more), found.1.2), found.2))
]

same_by : (a b : Key) → same_key a b ≡ true → a ≡ b
same_by a b e = elim (keys_tell a b) [ inl h ↦ h.1 | inr h ↦ absurd (let bad = h.0 in cc) ]

exclusive_by : (mode : Mode) → is_exclusive mode ≡ true → mode ≡ Exclusive
exclusive_by Shared e = absurd (let bad = e in cc)
exclusive_by Exclusive e = refl

-- no session holds what another holds Exclusive
pub apart_by_locks : (notes : List Note) → Sound notes → (s t : SessionId) → s.0 ≢ t.0 → (ours theirs : List (Key × Mode)) → HoldsAll (held notes) s ours → HoldsAll (held notes) t theirs → HaveNoneInCommon ours theirs
apart_by_locks notes sound s t differ ours theirs mine other at own = go (is_locked ours at) refl
  where
    go : (b : Bool) → is_locked ours at ≡ b → is_locked ours at ≡ false
    go false e = e
    go true e = absurd (
        let a = any_found (locks_key s at) (held notes) (mine.any at e) in
        let b = any_found (locks_alone t at) (held notes) (other.own at own) in
        let a_is = and_parts (is_of s a.0) (same_key at a.0.key) a.2 in
        let b_alone = and_parts (locks_key t at b.0) (is_exclusive b.0.mode) b.2 in
        let b_is = and_parts (is_of t b.0) (same_key at b.0.key) b_alone.0 in
        let of_s : a.0.session.0 ≡ s.0 = eqb-true a.0.session.0 s.0 a_is.0 in
        let of_t : b.0.session.0 ≡ t.0 = eqb-true b.0.session.0 t.0 b_is.0 in
        let shared = held-shared notes sound a.0 b.0 a.1 b.1 (λ same. differ (sym of_s ∙ same ∙ of_t)) (sym (same_by at a.0.key a_is.1) ∙ same_by at b.0.key b_is.1) in
        let bad : Shared ≡ Exclusive = sym shared.1 ∙ exclusive_by b.0.mode b_alone.1 in
        cc)

-- ---- a session holds on what a note leaves it

module _ (before : List Note) (s : SessionId) (p : Taking → Bool) (of : (lock : Taking) → p lock ≡ true → is_of s lock ≡ true) where
  held_still : (note : Note) (locks : List Taking) → Leaves before s note → list_any p locks ≡ true → list_any p (held_after before locks note) ≡ true
  held_still (Open t client number node) locks leaves e = e
  held_still (Took t at mode) locks leaves e = list_any-append p locks (record { session = t; key = at; mode = mode } ∷ []) ∙ or_left (list_any p locks) (list_any p (record { session = t; key = at; mode = mode } ∷ [])) e
  held_still (Gave t) locks leaves e = any-filter_same p (λ (lock : Taking). not (is_of t lock)) true (λ lock is. ap not (leaves lock (of lock is))) locks ∙ e
  held_still (Wrote t work) locks leaves e = e
  held_still (Did t client number call reads reply) locks leaves e = any-filter_same p (λ (lock : Taking). not (is_of t lock)) true (λ lock is. ap not (leaves lock (of lock is))) locks ∙ e
  held_still (Cut op path gone) locks leaves e = e
  held_still (Met t cause) locks leaves e = e
  held_still (Gone node ended) locks leaves e =
      any-filter_same p (λ (lock : Taking). not (is_at before node lock.session)) true (λ lock is. ap not (leaves lock (of lock is))) locks ∙ e

-- it holds on all its keys
pub holds_still : (notes : List Note) (s : SessionId) (locked : List (Key × Mode)) (note : Note) → Leaves notes s note → HoldsAll (held notes) s locked → HoldsAll (held (notes ++ note ∷ [])) s locked
holds_still notes s locked note leaves all = record {
  any = λ at e. ap (list_any (locks_key s at)) (held-push notes note) ∙ held_still notes s (locks_key s at) (λ lock is. (and_parts (is_of s lock) (same_key at lock.key) is).0) note (held notes) leaves (all.any at e);
  own = λ at e. ap (list_any (locks_alone s at)) (held-push notes note)
      ∙ held_still notes s (locks_alone s at) (λ lock is. (and_parts (is_of s lock) (same_key at lock.key) (and_parts (locks_key s at lock) (is_exclusive lock.mode) is).0).0) note (held notes) leaves (all.own at e);
}

-- ---- which notes leave a session its locks

turned : (l s t : ℕ) → (l == s) ≡ true → (t == s) ≡ false → (l == t) ≡ false
turned l s t is differ = false_from_ne_true (l == t) (λ same.
    let one : l ≡ t = eqb-true l t same in
    let bad : (t == s) ≡ true = subst (λ (n : ℕ). (n == s) ≡ true) one is in
    cc)

other_one : (s t u : SessionId) → Some u ≡ Some t → s.0 ≢ t.0 → (u.0 == s.0) ≡ false
other_one s t u is differ = false_from_ne_true (u.0 == s.0) (λ same.
    let one : u ≡ t = cc in
    differ (sym (eqb-true u.0 s.0 same) ∙ ap (λ (v : SessionId). v.0) one))

-- one that isn't the session's own Gave or Did, nor a Gone of its namenode
pub leaves_by : (before : List Note) (s : SessionId) (note : Note) → gives_all s note ≡ false → Where (λ node. is_at before node s ≡ false) (gone_in note) → Leaves before s note
leaves_by before s (Open t client number node) gives gone lock of = refl
leaves_by before s (Took t at mode) gives gone lock of = refl
leaves_by before s (Gave t) gives gone lock of = turned lock.session.0 s.0 t.0 of gives
leaves_by before s (Wrote t work) gives gone lock of = refl
leaves_by before s (Did t client number call reads reply) gives gone lock of = turned lock.session.0 s.0 t.0 of gives
leaves_by before s (Cut op path gone) gives lost lock of = refl
leaves_by before s (Met t cause) gives gone lock of = refl
leaves_by before s (Gone node ended) gives gone lock of = let at : lock.session.0 ≡ s.0 = eqb-true lock.session.0 s.0 of in ap (λ (n : ℕ). is_at before node (record { 0 = n })) at ∙ gone

-- any note of another
pub leaves_others : (before : List Note) (s t : SessionId) (note : Note) → actor note ≡ Some t → s.0 ≢ t.0 → Leaves before s note
leaves_others before s t (Open u client number node) is differ = absurd (let bad = is in cc)
leaves_others before s t (Took u at mode) is differ = leaves_by before s (Took u at mode) refl tt
leaves_others before s t (Gave u) is differ = leaves_by before s (Gave u) (other_one s t u is differ) tt
leaves_others before s t (Wrote u work) is differ = leaves_by before s (Wrote u work) refl tt
leaves_others before s t (Did u client number call reads reply) is differ = leaves_by before s (Did u client number call reads reply) (other_one s t u is differ) tt
leaves_others before s t (Cut op path gone) is differ = absurd (let bad = is in cc)
leaves_others before s t (Met u cause) is differ = leaves_by before s (Met u cause) refl tt
leaves_others before s t (Gone node ended) is differ = absurd (let bad = is in cc)

-- the taking of one more key
pub leaves_taker : (before : List Note) (s : SessionId) (at : Key) (mode : Mode) → Leaves before s (Took s at mode)
leaves_taker before s at mode lock of = refl

-- ---- the keys of a plan are taken one by one

take_next : (keys : List (Key × Mode)) (n : ℕ) (k : Key × Mode) → slice_get keys n ≡ Some k → take (suc n) keys ≡ take n keys ++ k ∷ []
take_next [] n k is = absurd (let bad = is in cc)
take_next (x ∷ keys) zero k is = let same : x ≡ k = cc in ap (λ (y : Key × Mode). y ∷ []) same
take_next (x ∷ keys) (suc n) k is = ap (λ (ks : List (Key × Mode)). x ∷ ks) (take_next keys n k is)

more_of : (a b c : Bool) → (a || (b || false)) ≡ true → (a ≡ true → c ≡ true) → (b ≡ true → c ≡ true) → c ≡ true
more_of true b c e f g = f refl
more_of false true c e f g = g refl
more_of false false c e f g = absurd (let bad = e in cc)

-- of no keys it holds all
pub holds_none : (locks : List Taking) (s : SessionId) → HoldsAll locks s []
holds_none locks s = record { any = λ at e. absurd (let bad = e in cc); own = λ at e. absurd (let bad = e in cc) }

-- with the next key it holds one more
pub holds_took : (notes : List Note) (s : SessionId) (keys : List (Key × Mode)) (n : ℕ) (k : Key × Mode) → slice_get keys n ≡ Some k → HoldsAll (held notes) s (take n keys) → HoldsAll (held (notes ++ Took s k.0 k.1 ∷ [])) s (take (suc n) keys)
holds_took notes s keys n k is all = record {
  any = λ at e.
      let locked : (is_locked (take n keys) at || (same_key at k.0 || false)) ≡ true = sym (ap (λ (ks : List (Key × Mode)). is_locked ks at) (take_next keys n k is) ∙ list_any-append (λ (l : Key × Mode). same_key at l.0) (take n keys) (k ∷ [])) ∙ e in
      ap (list_any (locks_key s at)) (held-push notes (Took s k.0 k.1)) ∙ list_any-append (locks_key s at) (held notes) (record { session = s; key = k.0; mode = k.1 } ∷ [])
      ∙ more_of (is_locked (take n keys) at) (same_key at k.0) (list_any (locks_key s at) (held notes) || (locks_key s at (record { session = s; key = k.0; mode = k.1 }) || false)) locked
      (λ before. or_left (list_any (locks_key s at) (held notes)) (locks_key s at (record { session = s; key = k.0; mode = k.1 }) || false) (all.any at before))
      (λ here. or_right (list_any (locks_key s at) (held notes)) (locks_key s at (record { session = s; key = k.0; mode = k.1 }) || false) (or_left (locks_key s at (record { session = s; key = k.0; mode = k.1 })) false (both (s.0 == s.0) (same_key at k.0) (eq-eqb s.0 s.0 refl) here)));
  own = λ at e.
      let locked : (is_own (take n keys) at || ((is_exclusive k.1 && same_key at k.0) || false)) ≡ true = sym (ap (λ (ks : List (Key × Mode)). is_own ks at) (take_next keys n k is) ∙ list_any-append (λ (l : Key × Mode). is_exclusive l.1 && same_key at l.0) (take n keys) (k ∷ [])) ∙ e in
      ap (list_any (locks_alone s at)) (held-push notes (Took s k.0 k.1)) ∙ list_any-append (locks_alone s at) (held notes) (record { session = s; key = k.0; mode = k.1 } ∷ [])
      ∙ more_of (is_own (take n keys) at) (is_exclusive k.1 && same_key at k.0) (list_any (locks_alone s at) (held notes) || (locks_alone s at (record { session = s; key = k.0; mode = k.1 }) || false)) locked
      (λ before. or_left (list_any (locks_alone s at) (held notes)) (locks_alone s at (record { session = s; key = k.0; mode = k.1 }) || false) (all.own at before))
      (λ here. let parts = and_parts (is_exclusive k.1) (same_key at k.0) here in
      or_right (list_any (locks_alone s at) (held notes)) (locks_alone s at (record { session = s; key = k.0; mode = k.1 }) || false) (or_left (locks_alone s at (record { session = s; key = k.0; mode = k.1 })) false
      (both (locks_key s at (record { session = s; key = k.0; mode = k.1 })) (is_exclusive k.1) (both (s.0 == s.0) (same_key at k.0) (eq-eqb s.0 s.0 refl) parts.1) parts.0)));
}
  where
    both : (a b : Bool) → a ≡ true → b ≡ true → (a && b) ≡ true
    both a b p q = rw (p, q) refl

-- whoever holds the keys of a plan holds what the plan locks
pub holds_plan : (locks : List Taking) (s : SessionId) (keys locked : List (Key × Mode)) → AreSameLocks keys locked → HoldsAll locks s keys → HoldsAll locks s locked
holds_plan locks s keys locked is all = record { any = λ at e. all.any at (sym (is.any at) ∙ e); own = λ at e. all.own at (sym (is.own at) ∙ e) }
