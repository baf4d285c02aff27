-- What is in the sample tables of sessions and of locks.
use Rattle.std.proofs.Common.{◌≡◌, ℕ, Bool, true, false, ◌&&◌, ◌==◌, cond, if◌then◌else◌, List, [], ◌∷◌, Some, None, refl, sym, ap, ◌∙◌}
use Rattle.std.specs.FinMap as map
use Rattle.std.specs.Cmp.{nat_cmp_total}
use Rattle.std.specs.List.{list_any}
use Rattle.hops_base.specs.Ids.{session}
use Rattle.hops_base.specs.declared.ids.Mode.{Mode}
use Rattle.hops_base.specs.declared.ids.Mode.TheVariants.{Shared}
use Rattle.hops_base.specs.declared.ids.SessionId.{SessionId}
use Rattle.hops_base.specs.declared.key.Key.{Key}
use Rattle.hops_base.specs.Key.{same_key}
use Rattle.row_locks.specs.Locks.{Locks, mode_of, IsGivenBack}
use Rattle.commit_log.specs.declared.note.Note.{Note}
use Rattle.commit_log.specs.Parts.{passes}
use Rattle.commit_log.specs.Samples.{d_key, opens, shares}
use Rattle.commit_log.proofs.HeldLaws.{held-none, held-push}
use Rattle.db_state.specs.declared.session.Session.{Session}
use Rattle.db_state.specs.State.{Sessions}
use Rattle.db_state.specs.LockParts.{same_mode, is_lock, AreOfBook}
use Rattle.db_state.specs.CoreSamples.{alone_in, one_lock}
use Rattle.db_state.proofs.SessionMapLaws.{with_all}
use Rattle.db_state.proofs.LockPartLaws.{mode_of-put, book_left, book_took}
use Rattle.db_state.proofs.OpeningCoreLaws.{no_lock, no_session}

-- ---- sessions

-- the session that was put last
pub put_there : (sessions : Sessions) (doing : Session) → map.get (map.insert sessions 1 doing) 1 ≡ Some doing
put_there sessions doing = map.get-insert nat_cmp_total sessions 1 doing 1

-- the only session
pub first_there : (doing : Session) → map.get (alone_in doing) 1 ≡ Some doing
first_there doing = put_there map.empty doing

-- what holds of the only session holds of each
pub only_one : (P : SessionId → Session → Type 0) (doing : Session) → P (session 1) doing → (s : SessionId) (other : Session) → map.get (alone_in doing) s.0 ≡ Some other → P s other
only_one P doing is = with_all P map.empty (session 1) doing is (λ t other apart e. absurd (let none = no_session t in cc))

-- ---- locks

-- what a session holds where there is one lock
pub lock_at : (s : ℕ) (at : Key) (mode : Mode) (t : SessionId) (key : Key) → mode_of (one_lock s at mode) t key ≡ cond ((t.0 == s) && same_key key at) (Some mode) None
lock_at s at mode t key = mode_of-put map.empty (session s) t at key mode ∙ ap (cond ((t.0 == s) && same_key key at) (Some mode)) (no_lock t key)

-- the only lock is given back
pub given : (at : Key) (mode : Mode) → IsGivenBack (session 1) (one_lock 1 at mode) map.empty
given at mode t key = no_lock t key ∙ sym (ap (λ o. if t.0 == 1 then None else o) (lock_at 1 at mode t key) ∙ by_test (t.0 == 1))
  where
    by_test : (b : Bool) → (if b then None else cond (b && same_key key at) (Some mode) None) ≡ None
    by_test true = refl
    by_test false = refl

-- no lock is held in a book that has opened a session and no more
pub none_held : AreOfBook map.empty (opens 1 0 1 0 ∷ [])
none_held = book_left map.empty [] (opens 1 0 1 0) (held-push [] (opens 1 0 1 0)) (λ s key mode. ap (list_any (is_lock s key mode)) held-none ∙ ap (passes (same_mode mode)) (sym (no_lock s key)))

-- one is, once the session has taken it
pub one_held : AreOfBook (one_lock 1 d_key Shared) (opens 1 0 1 0 ∷ shares 1 d_key ∷ [])
one_held = book_took map.empty (opens 1 0 1 0 ∷ []) (session 1) d_key Shared (no_lock (session 1) d_key) none_held

-- two tables that are a book's have the same locks
pub same_tables : (first second : Locks) (notes : List Note) → AreOfBook first notes → AreOfBook second notes → (t : SessionId) (key : Key) (mode : Mode)
    → passes (same_mode mode) (mode_of first t key) ≡ passes (same_mode mode) (mode_of second t key)
same_tables first second notes one other t key mode = sym (one t key mode) ∙ other t key mode
