-- All that the core keeps, once a session has met something.
use Rattle.std.proofs.Common.{◌≡◌, Bool, true, false, not, ◌&&◌, ◌||◌, ◌==◌, List, [], ◌∷◌, ◌++◌, Option, Some, None, refl, sym, ap, subst, ◌∙◌, inl, eqb-true}
use Rattle.std.proofs.lemmas.Bool.{and_parts, or_left, or_right}
use Rattle.std.specs.List.{list_any}
use Rattle.std.specs.Option.{option_map_or}
use Rattle.hops_base.specs.Mode.{conflict}
use Rattle.hops_base.specs.declared.ids.SessionId.{SessionId}
use Rattle.hops_base.specs.declared.ids.Mode.{Mode}
use Rattle.hops_base.specs.declared.key.Key.{Key}
use Rattle.hops_base.specs.Key.{same_key}
use Rattle.row_locks.specs.Locks.{Locks, mode_of, IsLeastInTheWay}
use Rattle.commit_log.specs.declared.note.Note.{Note}
use Rattle.commit_log.specs.declared.note.Note.TheVariants.{Met}
use Rattle.commit_log.specs.declared.note.Cause.{Cause}
use Rattle.commit_log.specs.declared.note.Cause.TheVariants.{Locked}
use Rattle.commit_log.specs.Parts.{Taking, passes, is_lost}
use Rattle.commit_log.specs.Locks.{is_of, clashes, held}
use Rattle.commit_log.specs.Licensed.{Found}
use Rattle.commit_log.proofs.HeldLaws.{held-push}
use Rattle.db_state.specs.declared.session.Session.{Session}
use Rattle.db_state.specs.declared.session.Stage.{Stage}
use Rattle.db_state.specs.declared.session.Stage.TheVariants.{Resolve, Lock, Read, Reread, Commit, Answered}
use Rattle.db_state.specs.State.{State}
use Rattle.db_state.specs.Stages.{is_over, next_key}
use Rattle.db_state.specs.Core.{IsCore}
use Rattle.db_state.specs.LockParts.{same_mode, is_lock, AreOfBook}
use Rattle.db_state.specs.Steps.{noted, IsRunning, met_by, CanMeet}
use Rattle.db_state.specs.BookParts.{is_beyond}
use Rattle.db_state.specs.SessionParts.{AreReading}
use Rattle.db_state.proofs.ConsistentLaws.{noted_consistent}
use Rattle.db_state.proofs.LockPartLaws.{book_left}
use Rattle.db_state.proofs.BookTellLaws.{opened_on, found_on}
use Rattle.db_state.proofs.SeatTellLaws.{told_on}
use Rattle.db_state.proofs.BookLaws.{book-push, was_opened}
use Rattle.db_state.proofs.TookLaws.{mode_itself, one_mode, both_true}

-- ---- whatever was met

-- the session runs, and the cause was there; it isn't of an operation
pub record Meets (state : State) (s : SessionId) (cause : Cause) : Type 0 where
  pub doing : Session
  pub runs : IsRunning state s doing
  pub cause_there : Found state.stored.notes s cause
  pub goes_on : is_lost cause ≡ false
  pub within : is_beyond (Met s cause) ≡ false

-- all of it once a session has met this
abbrev pub met_state : State → SessionId → Cause → State
met_state old s cause = record old { stored = noted old.stored (Met s cause) }

lost_or_not : (s t : SessionId) (cause : Cause) → is_lost cause ≡ false → ((s.0 == t.0) && is_lost cause) ≡ false
lost_or_not s t cause e = go (s.0 == t.0) (is_lost cause) e
  where
    go : (a b : Bool) → b ≡ false → (a && b) ≡ false
    go true b e = e
    go false b e = refl

pub met_core : (old : State) (s : SessionId) (cause : Cause) → IsCore old → Meets old s cause → IsCore (met_state old s cause)
met_core old s cause core can =
    let same : held (old.stored.notes ++ Met s cause ∷ []) ≡ held old.stored.notes = held-push old.stored.notes (Met s cause) in
    let mine = core.opened s can.doing can.runs.there in
    record {
      stored = noted_consistent old.stored (Met s cause) core.stored refl refl;
      locks = book_left old.locks old.stored.notes (Met s cause) same core.locks;
      plans = core.plans;
      reads = subst (λ (locks : List Taking). AreReading old.stored.inodes old.stored.quotas locks old.sessions) (sym same) core.reads;
      found = λ t session e. found_on old.stored.inodes old.stored.inodes old.stored.notes (Met s cause) t session (core.opened t session e).since.1 (λ quiet. refl) (core.found t session e);
      old = core.old;
      opened = λ t session e. opened_on old.stored.notes (Met s cause) t session (λ runs. lost_or_not s t cause can.goes_on) (core.opened t session e);
      seats = record {
        each = core.seats.each;
        numbers = core.seats.numbers;
        told = λ client seat e. told_on old.sessions old.sessions old.stored.notes (Met s cause) client seat refl refl (λ t is. is) (core.seats.told client seat e);
        seated = core.seats.seated;
      };
      ids = core.ids;
      book = book-push old.stored.settings old.stored.notes (Met s cause) (record {
        numbered = (tt, tt);
        allowed = tt;
        opened = inl (was_opened old.stored.notes s can.doing mine);
        unended = mine.running can.runs.running;
        answered = tt;
        sound = tt;
        licensed = can.cause_there;
        in_order = tt;
        never_falls = tt;
        last = tt;
        within = can.within;
        held = tt;
      }) core.book;
    }

-- ---- a lock of another

any_stronger : (test stronger : Taking → Bool) → ((lock : Taking) → test lock ≡ true → stronger lock ≡ true) → (locks : List Taking) → list_any test locks ≡ true → list_any stronger locks ≡ true
any_stronger test stronger gives [] e = let bad = e in cc
any_stronger test stronger gives (lock ∷ locks) e =
    elim (test lock) as (λ b. test lock ≡ b → (b || list_any test locks) ≡ true → (stronger lock || list_any stronger locks) ≡ true) [
      | true ↦ λ is f. or_left (stronger lock) (list_any stronger locks) (gives lock is)
      | false ↦ λ is f. or_right (stronger lock) (list_any stronger locks) (any_stronger test stronger gives locks f)
    ] refl e

-- the lock by which one keeps a session away clashes
clashing : (s h : SessionId) (k : Key × Mode) (mode : Mode) → not (h.0 == s.0) ≡ true → conflict k.1 mode ≡ true → (lock : Taking) → is_lock h k.0 mode lock ≡ true
    → (clashes s k.0 k.1 lock && is_of h lock) ≡ true
clashing s h k mode apart conflicts lock is =
    let outer = and_parts (is_of h lock) (same_key k.0 lock.key && same_mode mode lock.mode) is in
    let inner = and_parts (same_key k.0 lock.key) (same_mode mode lock.mode) outer.1 in
    let other : not (is_of s lock) ≡ true = ap (λ n. not (n == s.0)) (eqb-true lock.session.0 h.0 outer.0) ∙ apart in
    let worse : conflict k.1 lock.mode ≡ true = ap (conflict k.1) (sym (one_mode mode lock.mode inner.1)) ∙ conflicts in
    both_true (clashes s k.0 k.1 lock) (is_of h lock)
    (both_true (not (is_of s lock) && same_key k.0 lock.key) (conflict k.1 lock.mode) (both_true (not (is_of s lock)) (same_key k.0 lock.key) other inner.0) worse) outer.0

-- the lock of the one who keeps a session away is in the book
lock_found : (locks : Locks) (notes : List Note) (s : SessionId) (k : Key × Mode) (h : SessionId) → AreOfBook locks notes → IsLeastInTheWay locks s k.0 k.1 h → Found notes s (Locked k.0 k.1 h)
lock_found locks notes s k h are busy =
    let parts = and_parts (not (h.0 == s.0)) (option_map_or (conflict k.1) (mode_of locks h k.0) false) busy.keeps in
    go (mode_of locks h k.0) refl parts.0 parts.1
  where
    go : (o : Option Mode) → mode_of locks h k.0 ≡ o → not (h.0 == s.0) ≡ true → option_map_or (conflict k.1) o false ≡ true → Found notes s (Locked k.0 k.1 h)
    go None e apart conflicts = let bad = conflicts in cc
    go (Some mode) e apart conflicts =
        any_stronger (is_lock h k.0 mode) (λ (lock : Taking). clashes s k.0 k.1 lock && is_of h lock) (clashing s h k mode apart conflicts) (held notes)
        (are h k.0 mode ∙ ap (passes (same_mode mode)) e ∙ mode_itself mode)

asks_runs : (stage : Stage) (k : Key × Mode) → next_key stage ≡ Some k → is_over stage ≡ false
asks_runs (Resolve places found) k e = refl
asks_runs (Lock places keys taken) k e = refl
asks_runs (Read places keys) k e = refl
asks_runs (Reread reads keys) k e = refl
asks_runs (Commit reads keys) k e = refl
asks_runs Answered k e = let bad = e in cc

pub met_lock_core : (old : State) (s : SessionId) (doing : Session) (k : Key × Mode) (h : SessionId) → IsCore old → CanMeet old s doing k h → IsCore (met_by old s k h)
met_lock_core old s doing k h core can = met_core old s (Locked k.0 k.1 h) core (record {
  doing = doing;
  runs = record { there = can.there; running = asks_runs doing.stage k can.next };
  cause_there = lock_found old.locks old.stored.notes s k h core.locks can.busy;
  goes_on = refl;
  within = refl;
})
