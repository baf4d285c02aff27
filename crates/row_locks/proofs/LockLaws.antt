-- Laws of locks, for this crate and the layers above: their order, what a table has after each change, and which locks are apart.
use Rattle.std.proofs.Common.{◌≡◌, ℕ, Bool, true, false, not, ◌&&◌, ◌==◌, cond, Option, Some, None, refl, sym, ap, ◌∙◌, inl, inr, subst, arith}
use Rattle.std.specs.FinMap as map
use Rattle.std.specs.FinMap.{IsAntisymmetric, nat_cmp-IsAntisymmetric}
use Rattle.std.specs.Option.{option_map_or}
use Rattle.std.specs.Ordering.{nat_cmp, ordering_then, eq_by_cmp}
use Rattle.std.specs.Cmp.{IsTotalOrder, nat_eq_equiv, nat_cmp_total, on_total, then_total, tied_then}
use Rattle.std.specs.declared.cmp.Ordering.{Ordering}
use Rattle.std.specs.declared.cmp.Ordering.TheVariants.{Less, Equal, Greater}
use Rattle.std.proofs.lemmas.Bool.{cases_eq, eq-eqb, ne_eqb, and_right}
use Rattle.hops_base.specs.declared.ids.SessionId.{SessionId}
use Rattle.hops_base.specs.declared.ids.Mode.{Mode}
use Rattle.hops_base.specs.declared.ids.Mode.TheVariants.{Shared, Exclusive}
use Rattle.hops_base.specs.declared.key.Key.{Key}
use Rattle.hops_base.specs.Key.{key_cmp, key_cmp_total, same_key}
use Rattle.hops_base.specs.Mode.{conflict}
use Rattle.hops_base.proofs.Tells.{Tells, key_cmp_exact, tells, keys_tell}
use Rattle.row_locks.specs.declared.ask.Ask.{Ask}
use Rattle.row_locks.specs.declared.ask.Ask.TheVariants.{Held, Busy, NoMemory}
use Rattle.row_locks.specs.Locks.{Locks, held_cmp, mode_of, AreApart, IsFree, IsConflict, IsAsked, IsGivenBack}

-- ---- tests of numbers
-- the test on two numbers
pub numbers_tell : (a b : ℕ) → Tells (a == b) a b
numbers_tell a b = elim (cases_eq a b) [
  | inl e ↦ inl (eq-eqb a b e, e)
  | inr n ↦ inr (ne_eqb a b n, n)
]

pub same_flips : (a b : ℕ) → (a == b) ≡ (b == a)
same_flips a b = nat_eq_equiv.symm a b

-- ---- the order of locks
pub lock_cmp_total : IsTotalOrder held_cmp
lock_cmp_total = then_total (on_total (λ (lock : ℕ × Key). lock.0) nat_cmp_total) (on_total (λ (lock : ℕ × Key). lock.1) key_cmp_total)

both_equal : (a b : Ordering) → ordering_then a b ≡ Equal → (a ≡ Equal) × (b ≡ Equal)
both_equal Less b e = absurd (let bad = e in cc)
both_equal Equal b e = (refl, e)
both_equal Greater b e = absurd (let bad = e in cc)

-- locks that compare alike are one
pub lock_cmp_exact : IsAntisymmetric held_cmp
lock_cmp_exact x y e =
    let parts = both_equal (nat_cmp x.0 y.0) (key_cmp x.1 y.1) e in
    let n : x.0 ≡ y.0 = nat_cmp-IsAntisymmetric x.0 y.0 parts.0 in
    let k : x.1 ≡ y.1 = key_cmp_exact x.1 y.1 parts.1 in
    λ i. (n i, k i)

-- the test of numbers by their order
pub number_test : (a b : ℕ) → eq_by_cmp nat_cmp a b ≡ (b == a)
number_test a b = elim (tells nat_cmp nat_cmp_total nat_cmp-IsAntisymmetric a b) [
  | inl e ↦ elim (numbers_tell b a) [ inl k ↦ e.0 ∙ sym k.0 | inr k ↦ absurd (k.1 (sym e.1)) ]
  | inr e ↦ elim (numbers_tell b a) [ inl k ↦ absurd (e.1 (sym k.1)) | inr k ↦ e.0 ∙ sym k.0 ]
]

-- the test of locks, by their parts
pub lock_test : (m n : ℕ) (k l : Key) → eq_by_cmp held_cmp (m, k) (n, l) ≡ ((n == m) && same_key k l)
lock_test m n k l = sym (tied_then (nat_cmp m n) (key_cmp k l)) ∙ ap (λ b. b && same_key k l) (number_test m n)

-- ---- what a table has after each change
pub mode_of-empty : (t : SessionId) (key : Key) → mode_of map.empty t key ≡ None
mode_of-empty t key = map.get-empty held_cmp (t.0, key)

pub mode_of-insert : (locks : Locks) (s : SessionId) (key : Key) (mode : Mode) (t : SessionId) (q : Key) → mode_of (map.insert locks (s.0, key) mode) t q ≡ cond ((s.0 == t.0) && same_key q key) (Some mode) (mode_of locks t q)
mode_of-insert locks s key mode t q = map.get-insert lock_cmp_total locks (s.0, key) mode (t.0, q) ∙ ap (λ b. cond b (Some mode) (mode_of locks t q)) (lock_test t.0 s.0 q key)

-- tables that have the same of each session and each key are one
pub same_locks : (locks others : Locks) → ((t : SessionId) (key : Key) → mode_of locks t key ≡ mode_of others t key) → locks ≡ others
same_locks locks others same = map.same_map lock_cmp_total lock_cmp_exact locks others (λ q. same (record { 0 = q.0 }) q.1)

-- ---- locks that are apart stay so
-- this mode of t keeps s away
abbrev clashes : SessionId → Mode → SessionId → Option Mode → Bool
clashes s mode t other = not (t.0 == s.0) && option_map_or (conflict mode) other false

conflict-flips : (a b : Mode) → conflict a b ≡ conflict b a
conflict-flips Shared Shared = refl
conflict-flips Shared Exclusive = refl
conflict-flips Exclusive Shared = refl
conflict-flips Exclusive Exclusive = refl

pub apart-none : AreApart map.empty
apart-none s t key mode holds = absurd (let bad = sym (mode_of-empty s key) ∙ holds in cc)

-- one more lock, which no other session keeps away
pub apart-insert : (locks : Locks) (s : SessionId) (key : Key) (mode : Mode) → IsFree locks s key mode → AreApart locks → AreApart (map.insert locks (s.0, key) mode)
apart-insert locks s key mode free apart t u q m holds =
    let of_t : cond ((s.0 == t.0) && same_key q key) (Some mode) (mode_of locks t q) ≡ Some m = sym (mode_of-insert locks s key mode t q) ∙ holds in
    ap (clashes t m u) (mode_of-insert locks s key mode u q) ∙ elim (keys_tell q key) [
      | inr k ↦ rw k.0 (elsewhere (s.0 == t.0) (s.0 == u.0) (rw k.0 at of_t))
      | inl k ↦ rw k.0 (here (λ v. subst (λ x. clashes s mode v (mode_of locks v x) ≡ false) (sym k.1) (free v)) (rw k.0 at of_t))
    ]
  where
    -- at the key itself
    here : ((v : SessionId) → clashes s mode v (mode_of locks v q) ≡ false) → cond ((s.0 == t.0) && true) (Some mode) (mode_of locks t q) ≡ Some m → clashes t m u (cond ((s.0 == u.0) && true) (Some mode) (mode_of locks u q)) ≡ false
    here none of_t = elim (numbers_tell s.0 t.0) [
      | inl a ↦ elim (numbers_tell s.0 u.0) [
        | inl b ↦ let same = eq-eqb u.0 t.0 (sym b.1 ∙ a.1) in rw same refl
        | inr b ↦
            let is : mode ≡ m = let e = rw a.0 at of_t in cc in
            rw b.0 (subst (λ n. (not (u.0 == n) && option_map_or (conflict m) (mode_of locks u q) false) ≡ false) a.1 (subst (λ x. clashes s x u (mode_of locks u q) ≡ false) is (none u)))
      ]
      | inr a ↦
          let holds_it : mode_of locks t q ≡ Some m = rw a.0 at of_t in
          elim (numbers_tell s.0 u.0) [
            | inl b ↦
                let other : (t.0 == s.0) ≡ false = ne_eqb t.0 s.0 (λ e. a.1 (sym e)) in
                let free_of : conflict mode m ≡ false = rw (holds_it, other) at (none t) in
                rw b.0 (and_right (not (u.0 == t.0)) (conflict m mode) (conflict-flips m mode ∙ free_of))
            | inr b ↦ rw b.0 (apart t u q m holds_it)
          ]
    ]

    elsewhere : (a b : Bool) → cond (a && false) (Some mode) (mode_of locks t q) ≡ Some m → clashes t m u (cond (b && false) (Some mode) (mode_of locks u q)) ≡ false
    elsewhere true true h = apart t u q m h
    elsewhere true false h = apart t u q m h
    elsewhere false true h = apart t u q m h
    elsewhere false false h = apart t u q m h

-- the locks of a session were taken away
pub apart-given_back : (s : SessionId) (old new : Locks) → IsGivenBack s old new → AreApart old → AreApart new
apart-given_back s old new given apart t u key mode holds =
    ap (clashes t mode u) (given u key) ∙ left (u.0 == s.0) (kept (t.0 == s.0) (sym (given t key) ∙ holds))
  where
    kept : (b : Bool) → cond b None (mode_of old t key) ≡ Some mode → mode_of old t key ≡ Some mode
    kept true e = absurd (let bad = e in cc)
    kept false e = e

    left : (b : Bool) → mode_of old t key ≡ Some mode → clashes t mode u (cond b None (mode_of old u key)) ≡ false
    left true h = and_right (not (u.0 == t.0)) false refl
    left false h = apart t u key mode h

pub apart-asked : (old new : Locks) (s : SessionId) (key : Key) (mode : Mode) (answer : Ask) → IsAsked old s key mode answer new → AreApart old → AreApart new
apart-asked old new s key mode Held asked apart = subst AreApart (sym asked.1) (apart-insert old s key mode asked.0 apart)
apart-asked old new s key mode (Busy h) asked apart = subst AreApart (sym asked.1) apart
apart-asked old new s key mode NoMemory asked apart = subst AreApart (sym asked.1) apart

-- ---- there is one answer
pub one_conflict : (locks : Locks) (s : SessionId) (key : Key) (mode : Mode) (a b : Option SessionId) → IsConflict locks s key mode a → IsConflict locks s key mode b → a ≡ b
one_conflict locks s key mode None None free none = refl
one_conflict locks s key mode None (Some h) free found = absurd (let bad = sym (free h) ∙ found.keeps in cc)
one_conflict locks s key mode (Some h) None found free = absurd (let bad = sym (free h) ∙ found.keeps in cc)
one_conflict locks s key mode (Some h) (Some k) found other =
    let low = found.least k other.keeps in
    let high = other.least h found.keeps in
    let same : h.0 ≡ k.0 = omega arith in
    λ i. Some (record { 0 = same i })

pub one_given_back : (s : SessionId) (old new other : Locks) → IsGivenBack s old new → IsGivenBack s old other → new ≡ other
one_given_back s old new other given same = same_locks new other (λ t key. given t key ∙ sym (same t key))
