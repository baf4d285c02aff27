-- A session holds all the keys of its plan by the book too.
use Rattle.std.proofs.Common.{◌≡◌, Bool, true, false, ◌&&◌, ◌||◌, cond, List, [], ◌∷◌, Option, Some, None, is_some, refl, sym, ap, subst, ◌∙◌, inl, inr, Less}
use Rattle.std.specs.List.{list_any, AllByRecursion}
use Rattle.std.specs.List.Sorted.{IsStrictlySortedBy}
use Rattle.std.specs.Map.{keys_of}
use Rattle.std.specs.Ordering.{is_eq}
use Rattle.std.specs.declared.cmp.Ordering.{Ordering}
use Rattle.hops_base.specs.declared.ids.Mode.{Mode}
use Rattle.hops_base.specs.declared.ids.Mode.TheVariants.{Shared, Exclusive}
use Rattle.hops_base.specs.declared.ids.SessionId.{SessionId}
use Rattle.hops_base.specs.declared.key.Key.{Key}
use Rattle.hops_base.specs.Key.{key_cmp, same_key}
use Rattle.hops_base.proofs.Tells.{keys_tell}
use Rattle.commit_log.specs.declared.note.Note.{Note}
use Rattle.commit_log.specs.Parts.{passes, Taking}
use Rattle.commit_log.specs.Locks.{held, is_of}
use Rattle.row_locks.specs.Locks.{Locks, mode_of}
use Rattle.row_locks.specs.Plans.{planned_mode, IsRising}
use Rattle.db_state.specs.Holding.{locks_alone, locks_key, HoldsAll}
use Rattle.db_state.specs.Locked.{is_exclusive, is_own}
use Rattle.db_state.specs.LockParts.{is_lock, same_mode, AreOfBook}
use Rattle.chain_check.proofs.LeftLaws.{planned_locked}

-- ---- what a plan has

-- the mode lets no other session hold the key
abbrev own_of : Option Mode → Bool
own_of None = false
own_of (Some mode) = is_exclusive mode

above_none : (keys : List (Key × Mode)) (at : Key) → AllByRecursion (λ q. key_cmp at q ≡ Less) (keys_of keys) → is_own keys at ≡ false
above_none [] at all = refl
above_none (k ∷ keys) at all =
    let apart : same_key at k.0 ≡ false = ap (λ (o : Ordering). is_eq o) all.0 in
    let here : (is_exclusive k.1 && same_key at k.0) ≡ false = ap (λ b. is_exclusive k.1 && b) apart ∙ never (is_exclusive k.1) in
    ap (λ b. b || is_own keys at) here ∙ above_none keys at all.1
  where
    never : (b : Bool) → (b && false) ≡ false
    never true = refl
    never false = refl

-- where keys rise, a key is locked Exclusive where the plan's mode for it is that
own_planned : (keys : List (Key × Mode)) (at : Key) → IsRising keys → is_own keys at ≡ own_of (planned_mode keys at)
unfolding IsStrictlySortedBy
own_planned [] at rises = refl
own_planned (k ∷ keys) at rises = elim (keys_tell at k.0) [
  | inl h ↦
      let none : is_own keys at ≡ false = subst (λ (a : Key). is_own keys a ≡ false) (sym h.1) (above_none keys k.0 rises.0) in
      subst (λ b. ((is_exclusive k.1 && b) || is_own keys at) ≡ own_of (cond b (Some k.1) (planned_mode keys at))) (sym h.0)
      (ap (λ b. (is_exclusive k.1 && true) || b) none ∙ same (is_exclusive k.1))
  | inr h ↦
      subst (λ b. ((is_exclusive k.1 && b) || is_own keys at) ≡ own_of (cond b (Some k.1) (planned_mode keys at))) (sym h.0)
      (passed (is_exclusive k.1) (is_own keys at) ∙ own_planned keys at rises.1)
]
  where
    same : (b : Bool) → ((b && true) || false) ≡ b
    same true = refl
    same false = refl

    passed : (b c : Bool) → ((b && false) || c) ≡ c
    passed true c = refl
    passed false c = refl

-- ---- what the book has

-- a lock that passes a test passes a weaker one
any_of : (p q : Taking → Bool) → ((lock : Taking) → p lock ≡ true → q lock ≡ true) → (locks : List Taking) → list_any p locks ≡ true → list_any q locks ≡ true
any_of p q weaker [] any = absurd (let bad = any in cc)
any_of p q weaker (lock ∷ locks) any = step (p lock) (q lock) (weaker lock) any (any_of p q weaker locks)
  where
    step : (a b : Bool) → (a ≡ true → b ≡ true) → (a || list_any p locks) ≡ true → (list_any p locks ≡ true → list_any q locks ≡ true) → (b || list_any q locks) ≡ true
    step true b here any rest = ap (λ (x : Bool). x || list_any q locks) (here refl)
    step false true here any rest = refl
    step false false here any rest = rest any

by_key : (s : SessionId) (at : Key) (mode : Mode) (lock : Taking) → is_lock s at mode lock ≡ true → locks_key s at lock ≡ true
by_key s at mode lock is = go (is_of s lock) (same_key at lock.key) (same_mode mode lock.mode) is
  where
    go : (a b c : Bool) → (a && (b && c)) ≡ true → (a && b) ≡ true
    go true true c is = refl
    go true false c is = is
    go false b c is = is

by_mode : (s : SessionId) (at : Key) (lock : Taking) → is_lock s at Exclusive lock ≡ true → locks_alone s at lock ≡ true
by_mode s at lock is = go (is_of s lock) (same_key at lock.key) lock.mode is
  where
    go : (a b : Bool) (mode : Mode) → (a && (b && same_mode Exclusive mode)) ≡ true → ((a && b) && is_exclusive mode) ≡ true
    go true true Exclusive is = refl
    go true true Shared is = is
    go true false mode is = is
    go false b mode is = is

-- whoever has these keys in the lock table, and no other, holds them by the book
pub holds_keys : (locks : Locks) (notes : List Note) (s : SessionId) (keys : List (Key × Mode)) → IsRising keys → ((at : Key) → mode_of locks s at ≡ planned_mode keys at) → AreOfBook locks notes → HoldsAll (held notes) s keys
holds_keys locks notes s keys rises has of = record {
  any = λ at lock. any at (planned_mode keys at) (has at) (planned_locked keys at ∙ lock);
  own = λ at lock. own at (planned_mode keys at) (has at) (sym (own_planned keys at rises) ∙ lock);
}
  where
    booked : (at : Key) (mode : Mode) → mode_of locks s at ≡ Some mode → list_any (is_lock s at mode) (held notes) ≡ true
    booked at mode is = of s at mode ∙ ap (passes (same_mode mode)) is ∙ same mode
      where
        same : (mode : Mode) → same_mode mode mode ≡ true
        same Shared = refl
        same Exclusive = refl

    any : (at : Key) (mode : Option Mode) → mode_of locks s at ≡ mode → is_some mode ≡ true → list_any (locks_key s at) (held notes) ≡ true
    any at None is some = absurd (let bad = some in cc)
    any at (Some mode) is some = any_of (is_lock s at mode) (locks_key s at) (by_key s at mode) (held notes) (booked at mode is)

    own : (at : Key) (mode : Option Mode) → mode_of locks s at ≡ mode → own_of mode ≡ true → list_any (locks_alone s at) (held notes) ≡ true
    own at None is alone = absurd (let bad = alone in cc)
    own at (Some Shared) is alone = absurd (let bad = alone in cc)
    own at (Some Exclusive) is alone = any_of (is_lock s at Exclusive) (locks_alone s at) (by_mode s at) (held notes) (booked at Exclusive is)
