-- All that the core keeps, once a session has gone on without a note.
use Rattle.std.proofs.Common.{◌≡◌, ℕ, Bool, true, false, ◌==◌, cond, List, Option, Some, refl, sym, ap, subst, ◌∙◌, eqb-true, ◌<◌, ◌≤◌, if◌then◌else◌, take, arith, length}
use Rattle.std.specs.FinMap as map
use Rattle.hops_base.specs.declared.ids.SessionId.{SessionId}
use Rattle.hops_base.specs.declared.ids.Mode.{Mode}
use Rattle.hops_base.specs.declared.key.Key.{Key}
use Rattle.row_locks.specs.Locks.{mode_of}
use Rattle.row_locks.specs.Plans.{planned_mode}
use Rattle.commit_log.specs.Locks.{held}
use Rattle.db_state.specs.declared.session.Session.{Session}
use Rattle.db_state.specs.State.{State}
use Rattle.db_state.specs.Stages.{keys_in, is_over}
use Rattle.db_state.specs.Core.{IsCore}
use Rattle.db_state.specs.Steps.{with_session, moved_by, CanMove}
use Rattle.db_state.specs.LockParts.{keys_of_session}
use Rattle.db_state.specs.SessionParts.{IsReading, IsAsFound, IsOpened}
use Rattle.db_state.specs.BookParts.{IsSeated}
use Rattle.db_state.proofs.LockPartLaws.{plans_with}
use Rattle.db_state.proofs.SessionMapLaws.{with_all}
use Rattle.db_state.proofs.OldRowsLaws.{HasOldRows, old_on}
use Rattle.db_state.proofs.SeatTellLaws.{there_with, told_still}
use Rattle.db_state.specs.Stored.{Inodes}
use Rattle.db_state.specs.declared.session.Stage.{Stage}
use Rattle.db_state.specs.declared.session.Stage.TheVariants.{Resolve, Lock, Read, Reread, Commit, Answered}
use Rattle.db_state.specs.Moves.{GoesOn, read_in, since_after}

-- what a session holds, by its stage
pub holds_by_stage : (old : State) (s : SessionId) (doing : Session) → IsCore old → map.get old.sessions s.0 ≡ Some doing → (key : Key) → mode_of old.locks s key ≡ planned_mode (keys_in doing.stage) key
holds_by_stage old s doing core there key = core.plans s key ∙ ap (λ (o : Option Session). planned_mode (keys_of_session o) key) there

-- a session that goes on holds what it held, and hasn't ended
pub goes_on : (inodes : Inodes) (old new : Stage) → GoesOn inodes old new → (keys_in new ≡ keys_in old) × (is_over new ≡ false)
goes_on inodes (Resolve places found) (Resolve places' found') goes = (refl, refl)
goes_on inodes (Resolve places found) (Lock places' keys taken) goes = (ap (λ (n : ℕ). take n keys) goes.1, refl)
goes_on inodes (Resolve places found) (Read places' keys) goes = absurd goes
goes_on inodes (Resolve places found) (Reread reads keys) goes = absurd goes
goes_on inodes (Resolve places found) (Commit reads keys) goes = absurd goes
goes_on inodes (Resolve places found) Answered goes = absurd goes
goes_on inodes (Lock places keys taken) new goes = absurd goes
goes_on inodes (Read places keys) (Resolve places' found) goes = absurd goes
goes_on inodes (Read places keys) (Lock places' keys' taken) goes = absurd goes
goes_on inodes (Read places keys) (Read places' keys') goes = absurd goes
goes_on inodes (Read places keys) (Reread reads keys') goes = (goes.3, refl)
goes_on inodes (Read places keys) (Commit reads keys') goes = (goes.2, refl)
goes_on inodes (Read places keys) Answered goes = absurd goes
goes_on inodes (Reread reads keys) (Resolve places found) goes = absurd goes
goes_on inodes (Reread reads keys) (Lock places keys' taken) goes = absurd goes
goes_on inodes (Reread reads keys) (Read places keys') goes = absurd goes
goes_on inodes (Reread reads keys) (Reread reads' keys') goes = (goes.2, refl)
goes_on inodes (Reread reads keys) (Commit reads' keys') goes = (goes.2, refl)
goes_on inodes (Reread reads keys) Answered goes = absurd goes
goes_on inodes (Commit reads keys) (Resolve places found) goes = absurd goes
goes_on inodes (Commit reads keys) (Lock places keys' taken) goes = absurd goes
goes_on inodes (Commit reads keys) (Read places keys') goes = absurd goes
goes_on inodes (Commit reads keys) (Reread reads' keys') goes = absurd goes
goes_on inodes (Commit reads keys) (Commit reads' keys') goes = (goes.1, refl)
goes_on inodes (Commit reads keys) Answered goes = absurd goes
goes_on inodes Answered new goes = absurd goes

-- it began to read after it was opened, and no later than now
since_fits : (stage : Stage) (opened since long : ℕ) → (opened < since) × (since ≤ long) → (opened < since_after stage since long) × (since_after stage since long ≤ long)
since_fits stage opened since long fits =
    elim (read_in stage == 0) as (λ b. (opened < (if b then long else since)) × ((if b then long else since) ≤ long)) [
      | true ↦ (let a : opened < since = fits.0 in let b : since ≤ long = fits.1 in ((let less : opened < long = omega arith in less), (let same : long ≤ long = omega arith in same)))
      | false ↦ fits
    ]

pub moved_core : (old : State) (s : SessionId) (was new : Session) → IsCore old → CanMove old s was new → IsCore (moved_by old s new)
moved_core old s was new core can =
    let here = core.opened s was can.runs.there in
    let seat = core.seats.seated s was can.runs.there in
    record {
      stored = core.stored;
      locks = core.locks;
      plans = plans_with old.locks old.locks old.sessions s new (keys_in new.stage) refl (λ t key. by_test t key (t.0 == s.0) refl) core.plans;
      reads = with_all (λ t session. IsReading old.stored.inodes old.stored.quotas (held old.stored.notes) t session session.stage) old.sessions s new can.reading (λ t other apart e. core.reads t other e);
      found = with_all (IsAsFound old.stored.inodes old.stored.notes) old.sessions s new can.found (λ t other apart e. core.found t other e);
      old = with_all (HasOldRows old.stored.next) old.sessions s new
          (old_on old.stored.inodes old.stored.next core.stored.tree was.stage new.stage can.goes (core.old s was can.runs.there)) (λ t other apart e. core.old t other e);
      opened = with_all (IsOpened old.stored.notes) old.sessions s new
          (subst (IsOpened old.stored.notes s) (sym can.same) (record { opening = here.opening; place = here.place; since = since_fits was.stage was.opened was.since (length old.stored.notes) here.since; running = λ r. here.running can.runs.running; valid = here.valid }))
          (λ t other apart e. core.opened t other e);
      seats = record {
        each = core.seats.each;
        numbers = core.seats.numbers;
        told = λ client x e. told_still old.sessions (with_session old.sessions s new) old.stored.notes client x (there_with old.sessions s was new client can.runs.there (ap (λ (session : Session). session.client) can.same)) (core.seats.told client x e);
        seated = with_all (IsSeated old.seats) old.sessions s new
            (subst (IsSeated old.seats s) (sym can.same) (record { seat = seat.seat; there = seat.there; last = seat.last; number = λ r. seat.number can.runs.running; low = λ r. seat.low can.runs.running }))
            (λ t other apart e. core.seats.seated t other e);
      };
      ids = core.ids;
      book = core.book;
    }
  where
    by_test : (t : SessionId) (key : Key) (b : Bool) → (t.0 == s.0) ≡ b → mode_of old.locks t key ≡ cond b (planned_mode (keys_in new.stage) key) (mode_of old.locks t key)
    by_test t key true is =
        ap (λ (n : ℕ). mode_of old.locks (record { 0 = n }) key) (eqb-true t.0 s.0 is) ∙ holds_by_stage old s was core can.runs.there key
        ∙ ap (λ (keys : List (Key × Mode)). planned_mode keys key) (sym (goes_on old.stored.inodes was.stage new.stage can.goes).0)
    by_test t key false is = refl
