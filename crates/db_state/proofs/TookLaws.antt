-- All that the core keeps, once a session has taken the next of its keys.
use Rattle.std.proofs.Common.{◌≡◌, ◌≢◌, ℕ, ◌+◌, zero, suc, Bool, true, false, not, ◌&&◌, ◌||◌, ◌==◌, cond, List, [], ◌∷◌, ◌++◌, take, slice_get, Option, Some, None, is_some, arith, refl, sym, ap, subst, ◌∙◌, inl, inr, eqb-true, eq-eqb}
use Rattle.std.proofs.lemmas.Bool.{and_parts, or_left, or_right}
use Rattle.std.specs.List.{list_any, list_all, AllByRecursion}
use Rattle.std.specs.Map.{keys_of}
use Rattle.std.specs.Ordering.{is_lt, is_eq}
use Rattle.std.specs.declared.cmp.Ordering.TheVariants.{Less}
use Rattle.std.specs.List.Sorted.{IsStrictlySortedBy}
use Rattle.hops_base.specs.Mode.{conflict}
use Rattle.hops_base.specs.declared.ids.SessionId.{SessionId}
use Rattle.hops_base.specs.declared.ids.Mode.{Mode}
use Rattle.hops_base.specs.declared.ids.Mode.TheVariants.{Shared, Exclusive}
use Rattle.hops_base.specs.declared.key.Key.{Key}
use Rattle.hops_base.specs.Key.{key_cmp, same_key}
use Rattle.hops_base.proofs.Tells.{keys_tell}
use Rattle.row_locks.specs.Locks.{Locks, mode_of, keeps_away, IsFree}
use Rattle.row_locks.specs.Plans.{planned_mode, IsRising}
use Rattle.commit_log.specs.Parts.{Taking, passes}
use Rattle.commit_log.specs.Locks.{is_of, is_above, clashes, held}
use Rattle.db_state.specs.LockParts.{same_mode, is_lock, AreOfBook}

pub mode_itself : (mode : Mode) → same_mode mode mode ≡ true
mode_itself Shared = refl
mode_itself Exclusive = refl

pub one_mode : (a b : Mode) → same_mode a b ≡ true → a ≡ b
one_mode Shared Shared e = refl
one_mode Shared Exclusive e = let bad = e in cc
one_mode Exclusive Shared e = let bad = e in cc
one_mode Exclusive Exclusive e = refl

pub key_itself : (k : Key) → same_key k k ≡ true
key_itself k = elim (keys_tell k k) [ inl h ↦ h.0 | inr h ↦ absurd (h.1 refl) ]

one_key : (a b : Key) → same_key a b ≡ true → a ≡ b
one_key a b e = elim (keys_tell a b) [ inl h ↦ h.1 | inr h ↦ absurd (let bad = h.0 in cc) ]

pub both_true : (a b : Bool) → a ≡ true → b ≡ true → (a && b) ≡ true
both_true a b p q = rw (p, q) refl

-- a lock is one of its own session, key and mode
is_itself : (lock : Taking) → is_lock lock.session lock.key lock.mode lock ≡ true
is_itself lock = both_true (lock.session.0 == lock.session.0) (same_key lock.key lock.key && same_mode lock.mode lock.mode) (eq-eqb lock.session.0 lock.session.0 refl)
    (both_true (same_key lock.key lock.key) (same_mode lock.mode lock.mode) (key_itself lock.key) (mode_itself lock.mode))

mode_there : (mode : Mode) (old : Option Mode) → passes (same_mode mode) old ≡ true → old ≡ Some mode
mode_there mode None e = let bad = e in cc
mode_there mode (Some m) e = ap Some (sym (one_mode mode m e))

-- what holds of each lock that the table has too
module _ (locks : Locks) where
  abbrev pub Known : List Taking → Type 0
  Known taken = (t : SessionId) (key : Key) (mode : Mode) → list_any (is_lock t key mode) taken ≡ true → mode_of locks t key ≡ Some mode

  known : (lock : Taking) (taken : List Taking) → Known (lock ∷ taken) → mode_of locks lock.session lock.key ≡ Some lock.mode
  known lock taken all = all lock.session lock.key lock.mode (or_left (is_lock lock.session lock.key lock.mode lock) (list_any (is_lock lock.session lock.key lock.mode) taken) (is_itself lock))

  known_rest : (lock : Taking) (taken : List Taking) → Known (lock ∷ taken) → Known taken
  known_rest lock taken all = λ t key mode e. all t key mode (or_right (is_lock t key mode lock) (list_any (is_lock t key mode) taken) e)

  -- nobody keeps the session away, so no lock does
  pub no_clash : (s : SessionId) (k : Key) (mode : Mode) → IsFree locks s k mode → (taken : List Taking) → Known taken → list_any (clashes s k mode) taken ≡ false
  no_clash s k mode free [] all = refl
  no_clash s k mode free (lock ∷ taken) all =
      elim (clashes s k mode lock) as (λ b. clashes s k mode lock ≡ b → (b || list_any (clashes s k mode) taken) ≡ false) [
        | true ↦ λ is. absurd (
            let outer = and_parts (not (is_of s lock) && same_key k lock.key) (conflict mode lock.mode) is in
            let inner = and_parts (not (is_of s lock)) (same_key k lock.key) outer.0 in
            let here : mode_of locks lock.session k ≡ Some lock.mode = ap (mode_of locks lock.session) (one_key k lock.key inner.1) ∙ known lock taken all in
            let away : keeps_away locks s k mode lock.session ≡ true = rw here (both_true (not (is_of s lock)) (conflict mode lock.mode) inner.0 outer.1) in
            let none = free lock.session in
            cc)
        | false ↦ λ is. no_clash s k mode free taken (known_rest lock taken all)
      ] refl

  -- the key is above each that the session holds
  pub all_below : (s : SessionId) (k : Key) → ((key : Key) (mode : Mode) → mode_of locks s key ≡ Some mode → key_cmp key k ≡ Less) → (taken : List Taking) → Known taken
      → list_all (is_above s k) taken ≡ true
  all_below s k below [] all = refl
  all_below s k below (lock ∷ taken) all =
      both_true (is_above s k lock) (list_all (is_above s k) taken) (by_session (is_of s lock) refl) (all_below s k below taken (known_rest lock taken all))
    where
      by_session : (b : Bool) → is_of s lock ≡ b → (not b || is_lt (key_cmp lock.key k)) ≡ true
      by_session false is = refl
      by_session true is =
          let same : lock.session.0 ≡ s.0 = eqb-true lock.session.0 s.0 is in
          let here : mode_of locks s lock.key ≡ Some lock.mode = ap (λ (n : ℕ). mode_of locks (record { 0 = n }) lock.key) (sym same) ∙ known lock taken all in
          let less = below lock.key lock.mode here in
          rw less refl

-- the locks of the book are known
pub known_book : (locks : Locks) (notes : List _) → AreOfBook locks notes → Known locks (held notes)
known_book locks notes are = λ t key mode e. mode_there mode (mode_of locks t key) (sym (are t key mode) ∙ e)

-- ---- the keys of a plan

-- the mode of a key among these and one more
pub planned_push : (keys : List (Key × Mode)) (k : Key × Mode) (key : Key) → planned_mode (keys ++ k ∷ []) key ≡ (cond (is_some (planned_mode keys key)) (planned_mode keys key) (cond (same_key key k.0) (Some k.1) None))
planned_push [] k key = refl
planned_push (x ∷ keys) k key =
    elim (same_key key x.0) as (λ b. cond b (Some x.1) (planned_mode (keys ++ k ∷ []) key)
    ≡ cond (is_some (cond b (Some x.1) (planned_mode keys key))) (cond b (Some x.1) (planned_mode keys key)) (cond (same_key key k.0) (Some k.1) None)) [
      | true ↦ refl
      | false ↦ planned_push keys k key
    ]

pub take_next : (keys : List (Key × Mode)) (n : ℕ) (k : Key × Mode) → slice_get keys n ≡ Some k → take (suc n) keys ≡ take n keys ++ k ∷ []
take_next [] n k is = absurd (let bad = is in cc)
take_next (x ∷ keys) zero k is = let same : x ≡ k = cc in ap (λ (y : Key × Mode). y ∷ []) same
take_next (x ∷ keys) (suc n) k is = ap (λ (ks : List (Key × Mode)). x ∷ ks) (take_next keys n k is)

all_at : (P : Key → Type 0) (keys : List (Key × Mode)) (n : ℕ) (k : Key × Mode) → AllByRecursion P (keys_of keys) → slice_get keys n ≡ Some k → P k.0
all_at P [] n k all is = absurd (let bad = is in cc)
all_at P (x ∷ keys) zero k all is = let same : x ≡ k = cc in subst (λ (y : Key × Mode). P y.0) same all.0
all_at P (x ∷ keys) (suc n) k all is = all_at P keys n k all.1 is

-- in a rising plan each key before a place is below that at the place
pub rises_to : (keys : List (Key × Mode)) (n : ℕ) (k : Key × Mode) (key : Key) (mode : Mode) → IsRising keys → slice_get keys n ≡ Some k → planned_mode (take n keys) key ≡ Some mode → key_cmp key k.0 ≡ Less
unfolding IsStrictlySortedBy
rises_to [] n k key mode rises is there = absurd (let bad = is in cc)
rises_to (x ∷ keys) zero k key mode rises is there = absurd (let bad = there in cc)
rises_to (x ∷ keys) (suc n) k key mode rises is there =
    elim (same_key key x.0) as (λ b. same_key key x.0 ≡ b → cond b (Some x.1) (planned_mode (take n keys) key) ≡ Some mode → key_cmp key k.0 ≡ Less) [
      | true ↦ λ same f. subst (λ (y : Key). key_cmp y k.0 ≡ Less) (sym (one_key key x.0 same)) (all_at (λ (y : Key). key_cmp x.0 y ≡ Less) keys n k rises.0 is)
      | false ↦ λ same f. rises_to keys n k key mode rises.1 is f
    ] refl there

pub below_itself : (k : Key) → key_cmp k k ≢ Less
below_itself k less = let same = key_itself k in let bad : is_eq Less ≡ true = sym (ap is_eq less) ∙ same in cc

-- the key at a place isn't among those before it
pub not_before : (keys : List (Key × Mode)) (n : ℕ) (k : Key × Mode) → IsRising keys → slice_get keys n ≡ Some k → planned_mode (take n keys) k.0 ≡ None
not_before keys n k rises is = go (planned_mode (take n keys) k.0) refl
  where
    go : (o : Option Mode) → planned_mode (take n keys) k.0 ≡ o → o ≡ None
    go None e = refl
    go (Some mode) e = absurd (below_itself k.0 (rises_to keys n k k.0 mode rises is e))

-- the first keys of a plan up to the next, by key
pub planned_next : (keys : List (Key × Mode)) (n : ℕ) (k : Key × Mode) (key : Key) → IsRising keys → slice_get keys n ≡ Some k
    → cond (same_key key k.0) (Some k.1) (planned_mode (take n keys) key) ≡ planned_mode (take (n + 1) keys) key
planned_next keys n k key rises is =
    let more : n + 1 ≡ suc n = omega arith in
    go (same_key key k.0) refl ∙ sym (planned_push (take n keys) k key) ∙ ap (λ (ks : List (Key × Mode)). planned_mode ks key) (sym (take_next keys n k is)) ∙ ap (λ (m : ℕ). planned_mode (take m keys) key) (sym more)
  where
    here : (o : Option Mode) → o ≡ None → Some k.1 ≡ cond (is_some o) o (Some k.1)
    here None e = refl
    here (Some m) e = let bad = e in cc

    there : (o : Option Mode) → o ≡ cond (is_some o) o None
    there None = refl
    there (Some m) = refl

    go : (b : Bool) → same_key key k.0 ≡ b → cond b (Some k.1) (planned_mode (take n keys) key) ≡ cond (is_some (planned_mode (take n keys) key)) (planned_mode (take n keys) key) (cond b (Some k.1) None)
    go true e = here (planned_mode (take n keys) key) (ap (planned_mode (take n keys)) (one_key key k.0 e) ∙ not_before keys n k rises is)
    go false e = there (planned_mode (take n keys) key)
