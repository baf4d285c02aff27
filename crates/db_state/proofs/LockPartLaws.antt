-- The part on locks, kind by kind: what it takes for the locks to stay the book's and the sessions'.
use Rattle.std.proofs.Common.{◌≡◌, ℕ, Bool, true, false, not, ◌&&◌, ◌||◌, ◌==◌, cond, List, [], ◌∷◌, ◌++◌, Option, Some, None, refl, sym, ap, ◌∙◌, eqb-true, inl, inr}
use Rattle.std.proofs.lemmas.List.Folds.{list_any-append}
use Rattle.std.specs.List.{filter, list_any}
use Rattle.std.specs.FinMap as map
use Rattle.std.specs.Ordering.{nat_cmp, eq_by_cmp}
use Rattle.std.specs.Cmp.{nat_cmp_total, unsigned_tied, nat_eq_equiv}
use Rattle.std.proofs.lemmas.Bool.{and_parts}
use Rattle.hops_base.specs.declared.ids.SessionId.{SessionId}
use Rattle.hops_base.specs.declared.ids.Mode.{Mode}
use Rattle.hops_base.specs.declared.key.Key.{Key}
use Rattle.hops_base.specs.Key.{same_key}
use Rattle.hops_base.proofs.Tells.{keys_tell}
use Rattle.row_locks.specs.Locks.{Locks, mode_of, IsGivenBack}
use Rattle.row_locks.specs.Plans.{planned_mode}
use Rattle.row_locks.proofs.LockLaws.{mode_of-insert, same_flips}
use Rattle.commit_log.specs.declared.note.Note.{Note}
use Rattle.commit_log.specs.declared.note.Note.TheVariants.{Took}
use Rattle.commit_log.specs.Parts.{Taking, passes}
use Rattle.commit_log.specs.Locks.{is_of, held}
use Rattle.commit_log.proofs.HeldLaws.{held-push}
use Rattle.db_state.specs.declared.session.Session.{Session}
use Rattle.db_state.specs.State.{Sessions}
use Rattle.db_state.specs.Stages.{keys_in}
use Rattle.db_state.specs.Steps.{with_session}
use Rattle.db_state.specs.LockParts.{same_mode, is_lock, AreOfBook, AreOfSessions, keys_of_session}

one_key : (a b : Key) → same_key a b ≡ true → a ≡ b
one_key a b e = elim (keys_tell a b) [ inl h ↦ h.1 | inr h ↦ absurd (let bad = h.0 in cc) ]

-- the mode in which a session holds a key, once a lock is put
pub mode_of-put : (locks : Locks) (s t : SessionId) (k key : Key) (mode : Mode) → mode_of (map.insert locks (s.0, k) mode) t key ≡ cond ((t.0 == s.0) && same_key key k) (Some mode) (mode_of locks t key)
mode_of-put locks s t k key mode = mode_of-insert locks s k mode t key ∙ ap (λ (b : Bool). cond (b && same_key key k) (Some mode) (mode_of locks t key)) (same_flips s.0 t.0)

-- ---- the locks of the book

-- a note that leaves the locks
pub book_left : (locks : Locks) (notes : List Note) (note : Note) → held (notes ++ note ∷ []) ≡ held notes → AreOfBook locks notes → AreOfBook locks (notes ++ note ∷ [])
book_left locks notes note same are s key mode = ap (list_any (is_lock s key mode)) same ∙ are s key mode

-- one lock more, of a key that the session didn't hold
one_more : (is of : Bool) (old : Option Mode) (mode new : Mode) → (of ≡ true → old ≡ None) → is ≡ passes (same_mode mode) old
    → (is || ((of && same_mode mode new) || false)) ≡ passes (same_mode mode) (cond of (Some new) old)
one_more is true None mode new none same = rw same (or_nothing (same_mode mode new))
  where
    or_nothing : (b : Bool) → (b || false) ≡ b
    or_nothing true = refl
    or_nothing false = refl
one_more is true (Some m) mode new none same = absurd (let bad = none refl in cc)
one_more true false old mode new none same = same
one_more false false old mode new none same = same

parts_of_test : (a b c : Bool) → (a && (b && c)) ≡ ((a && b) && c)
parts_of_test true b c = refl
parts_of_test false b c = refl

-- a key that the session didn't hold
pub book_took : (locks : Locks) (notes : List Note) (s : SessionId) (k : Key) (mode : Mode) → mode_of locks s k ≡ None → AreOfBook locks notes
    → AreOfBook (map.insert locks (s.0, k) mode) (notes ++ Took s k mode ∷ [])
book_took locks notes s k new free are t key mode =
    let lock : Taking = record { session = s; key = k; mode = new } in
    let turned : is_lock t key mode lock ≡ (((t.0 == s.0) && same_key key k) && same_mode mode new) =
    parts_of_test (s.0 == t.0) (same_key key k) (same_mode mode new) ∙ ap (λ (b : Bool). (b && same_key key k) && same_mode mode new) (nat_eq_equiv.symm s.0 t.0) in
    let none : ((t.0 == s.0) && same_key key k) ≡ true → mode_of locks t key ≡ None = λ is.
    let parts = and_parts (t.0 == s.0) (same_key key k) is in
    ap (λ (n : ℕ). mode_of locks (record { 0 = n }) key) (eqb-true t.0 s.0 parts.0) ∙ ap (mode_of locks s) (one_key key k parts.1) ∙ free in
    ap (list_any (is_lock t key mode)) (held-push notes (Took s k new))
    ∙ list_any-append (is_lock t key mode) (held notes) (lock ∷ [])
    ∙ ap (λ (b : Bool). list_any (is_lock t key mode) (held notes) || (b || false)) turned
    ∙ one_more (list_any (is_lock t key mode) (held notes)) ((t.0 == s.0) && same_key key k) (mode_of locks t key) mode new none (are t key mode)
    ∙ ap (passes (same_mode mode)) (sym (mode_of-put locks s t k key new))

passes_given : (b : Bool) (mode : Mode) (old : Option Mode) → cond b false (passes (same_mode mode) old) ≡ passes (same_mode mode) (cond b None old)
passes_given true mode old = refl
passes_given false mode old = refl

given_locks : (s t : SessionId) (key : Key) (mode : Mode) (locks : List Taking)
    → list_any (is_lock t key mode) (filter (λ (lock : Taking). not (is_of s lock)) locks) ≡ cond (t.0 == s.0) false (list_any (is_lock t key mode) locks)
given_locks s t key mode [] = by_test (t.0 == s.0)
  where
    by_test : (b : Bool) → false ≡ cond b false false
    by_test true = refl
    by_test false = refl
given_locks s t key mode (lock ∷ locks) =
    elim (lock.session.0 == s.0) as (λ b. (lock.session.0 == s.0) ≡ b
    → list_any (is_lock t key mode) (cond (not b) (lock ∷ filter (λ (l : Taking). not (is_of s l)) locks) (filter (λ (l : Taking). not (is_of s l)) locks))
    ≡ cond (t.0 == s.0) false (list_any (is_lock t key mode) (lock ∷ locks))) [
      | true ↦ λ of. given_locks s t key mode locks ∙ skip of (t.0 == s.0) refl
      | false ↦ λ of. ap (λ (b : Bool). is_lock t key mode lock || b) (given_locks s t key mode locks) ∙ keep of (is_lock t key mode lock) refl
    ] refl
  where
    skip : (lock.session.0 == s.0) ≡ true → (b : Bool) → (t.0 == s.0) ≡ b → cond b false (list_any (is_lock t key mode) locks) ≡ cond b false (is_lock t key mode lock || list_any (is_lock t key mode) locks)
    skip of true is = refl
    skip of false is =
        let other : (lock.session.0 == t.0) ≡ false = ap (λ (n : ℕ). n == t.0) (eqb-true lock.session.0 s.0 of) ∙ nat_eq_equiv.symm s.0 t.0 ∙ is in
        rw other refl

    keep : (lock.session.0 == s.0) ≡ false → (b : Bool) → is_lock t key mode lock ≡ b
        → (b || cond (t.0 == s.0) false (list_any (is_lock t key mode) locks)) ≡ cond (t.0 == s.0) false (b || list_any (is_lock t key mode) locks)
    keep of true is =
        let mine : lock.session.0 ≡ t.0 = eqb-true lock.session.0 t.0 (and_parts (lock.session.0 == t.0) (same_key key lock.key && same_mode mode lock.mode) is).0 in
        let other : (t.0 == s.0) ≡ false = ap (λ (n : ℕ). n == s.0) (sym mine) ∙ of in
        rw other refl
    keep of false is = refl

-- a note by which a session gives its locks back
pub book_gave : (old new : Locks) (notes : List Note) (note : Note) (s : SessionId) → held (notes ++ note ∷ []) ≡ filter (λ (lock : Taking). not (is_of s lock)) (held notes)
    → IsGivenBack s old new → AreOfBook old notes → AreOfBook new (notes ++ note ∷ [])
book_gave old new notes note s gives given are t key mode =
    ap (list_any (is_lock t key mode)) gives ∙ given_locks s t key mode (held notes) ∙ ap (cond (t.0 == s.0) false) (are t key mode)
    ∙ passes_given (t.0 == s.0) mode (mode_of old t key) ∙ ap (passes (same_mode mode)) (sym (given t key))

-- ---- the locks of the sessions

with_plan : (keys : List (Key × Mode)) (session : Session) → keys_in session.stage ≡ keys → (t s : ℕ) (old : Option Session) (key : Key)
    → cond (t == s) (planned_mode keys key) (planned_mode (keys_of_session old) key) ≡ planned_mode (keys_of_session (cond (t == s) (Some session) old)) key
with_plan keys session is t s old key = by_test (t == s)
  where
    by_test : (b : Bool) → cond b (planned_mode keys key) (planned_mode (keys_of_session old) key) ≡ planned_mode (keys_of_session (cond b (Some session) old)) key
    by_test true = ap (λ (ks : List (Key × Mode)). planned_mode ks key) (sym is)
    by_test false = refl

-- one session holds these keys now, and the others what they held
pub plans_with : (old new : Locks) (sessions : Sessions) (s : SessionId) (session : Session) (keys : List (Key × Mode)) → keys_in session.stage ≡ keys
    → ((t : SessionId) (key : Key) → mode_of new t key ≡ cond (t.0 == s.0) (planned_mode keys key) (mode_of old t key))
    → AreOfSessions old sessions → AreOfSessions new (with_session sessions s session)
plans_with old new sessions s session keys is modes are t key =
    modes t key ∙ ap (cond (t.0 == s.0) (planned_mode keys key)) (are t key)
    ∙ with_plan keys session is t.0 s.0 (map.get sessions t.0) key
    ∙ ap (λ (o : Option Session). planned_mode (keys_of_session o) key)
    (ap (λ (b : Bool). cond b (Some session) (map.get sessions t.0)) (sym (unsigned_tied t.0 s.0)) ∙ sym (map.get-insert nat_cmp_total sessions s.0 session t.0))

-- a session that holds nothing may go
pub plans_without : (locks : Locks) (sessions : Sessions) (s : SessionId) → keys_of_session (map.get sessions s.0) ≡ [] → AreOfSessions locks sessions → AreOfSessions locks (map.remove sessions s.0)
plans_without locks sessions s none are t key =
    are t key ∙ by_test (eq_by_cmp nat_cmp t.0 s.0) refl ∙ ap (λ (o : Option Session). planned_mode (keys_of_session o) key) (sym (map.get-remove nat_cmp_total sessions s.0 t.0))
  where
    by_test : (b : Bool) → eq_by_cmp nat_cmp t.0 s.0 ≡ b → planned_mode (keys_of_session (map.get sessions t.0)) key ≡ planned_mode (keys_of_session (cond b None (map.get sessions t.0))) key
    by_test true is =
        let same : t.0 ≡ s.0 = eqb-true t.0 s.0 (sym (unsigned_tied t.0 s.0) ∙ is) in
        ap (λ (ks : List (Key × Mode)). planned_mode ks key) (ap (λ (n : ℕ). keys_of_session (map.get sessions n)) same ∙ none)
    by_test false is = refl
