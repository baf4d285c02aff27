-- All that the core keeps, once a session has given its locks back.
use Rattle.std.proofs.Common.{◌≡◌, ℕ, ◌+◌, ◌<◌, ◌≤◌, Bool, true, false, ◌==◌, cond, List, [], ◌∷◌, ◌++◌, length, slice_get, MatchOption, Option, Some, None, arith, refl, sym, ap, subst, ◌∙◌, eqb-true, inl}
use Rattle.std.proofs.lemmas.Bool.{eqb-false}
use Rattle.std.specs.List.{AllByRecursion}
use Rattle.std.specs.FinMap as map
use Rattle.hops_base.specs.declared.ids.SessionId.{SessionId}
use Rattle.hops_base.specs.declared.ids.Mode.{Mode}
use Rattle.hops_base.specs.declared.key.Key.{Key}
use Rattle.row_locks.specs.Locks.{Locks, mode_of, IsGivenBack}
use Rattle.row_locks.specs.Plans.{planned_mode}
use Rattle.commit_log.specs.declared.note.Note.{Note}
use Rattle.commit_log.specs.declared.note.Note.TheVariants.{Gave}
use Rattle.commit_log.specs.Parts.{Taking, passes}
use Rattle.commit_log.specs.Locks.{held}
use Rattle.commit_log.proofs.HeldLaws.{held-push}
use Rattle.db_state.specs.declared.session.Session.{Session}
use Rattle.db_state.specs.declared.session.Stage.{Stage}
use Rattle.db_state.specs.declared.session.Stage.TheVariants.{Answered}
use Rattle.inode_table.specs.declared.inode.Inode.{Inode}
use Rattle.db_state.specs.Current.{places_of}
use Rattle.db_state.specs.PlaceOf.{IsFound}
use Rattle.db_state.specs.Stored.{Stored}
use Rattle.db_state.specs.State.{State}
use Rattle.db_state.specs.Stages.{keys_in, rows_in, missing_in}
use Rattle.db_state.specs.Core.{IsCore}
use Rattle.db_state.specs.Steps.{start, noted, given_stored, with_session, IsRunning, Gives}
use Rattle.db_state.specs.LockParts.{same_mode, AreOfSessions}
use Rattle.db_state.specs.SessionParts.{LeadAlong, IsReading, IsAsFound, IsOpened}
use Rattle.db_state.specs.BookParts.{IsSeated}
use Rattle.db_state.proofs.ConsistentLaws.{noted_consistent}
use Rattle.db_state.proofs.LockPartLaws.{book_gave, plans_with}
use Rattle.db_state.proofs.SessionMapLaws.{with_all}
use Rattle.db_state.proofs.BookTellLaws.{opened_on, found_on, length-push}
use Rattle.db_state.proofs.BookLaws.{book-push, was_opened}
use Rattle.db_state.proofs.OldRowsLaws.{IsOld, HasOldRows}
use Rattle.db_state.proofs.SeatTellLaws.{there_with, told_still, told_on}
use Rattle.db_state.proofs.StageLaws.{reading_on}
use Rattle.db_state.proofs.ReadsHoldLaws.{leaves_others}
use Rattle.db_state.proofs.ReadsBesideLaws.{stands_beside}
use Rattle.db_state.proofs.MoveLaws.{holds_by_stage}

-- a stage at which a session holds nothing and has found nothing: the start of an attempt, or the end
pub record IsBare (stage : Stage) : Type 0 where
  pub keys : keys_in stage ≡ []
  pub rows : rows_in stage ≡ []
  pub missing : missing_in stage ≡ []
  pub reading : (inodes : _) (quotas : _) (locks : List Taking) (s : SessionId) (session : Session) → IsReading inodes quotas locks s session stage

nothing_found : (found : List (Key × Inode)) → found ≡ [] → (next : Option (List (List ℕ))) → MatchOption next (found ≡ []) (λ path. LeadAlong path found)
nothing_found found none None = none
nothing_found found none (Some path) = subst (LeadAlong path) (sym none) tt

pub start_is_bare : IsBare start
start_is_bare = record {
  keys = refl;
  rows = refl;
  missing = refl;
  reading = λ inodes quotas locks s session. record { paths = refl; whole = tt; next = nothing_found [] refl (slice_get (places_of session.call []) 0); unflagged = refl };
}

pub end_is_bare : IsBare Answered
end_is_bare = record { keys = refl; rows = refl; missing = refl; reading = λ inodes quotas locks s session. tt }

-- what a session that holds nothing has in the table
pub bare_modes : (b : Bool) (keys : List (Key × Mode)) (old : Option Mode) (key : Key) → keys ≡ [] → cond b None old ≡ cond b (planned_mode keys key) old
bare_modes true keys old key none = ap (λ (ks : List (Key × Mode)). planned_mode ks key) (sym none)
bare_modes false keys old key none = refl

-- nothing changes in the locks where the session held none
given_none : (old new : Locks) (s t : SessionId) (key : Key) → IsGivenBack s old new → ((k : Key) → mode_of old s k ≡ None) → mode_of new t key ≡ mode_of old t key
given_none old new s t key given none = given t key ∙ by_test (t.0 == s.0) refl
  where
    by_test : (b : Bool) → (t.0 == s.0) ≡ b → cond b None (mode_of old t key) ≡ mode_of old t key
    by_test true is = sym (ap (λ (n : ℕ). mode_of old (record { 0 = n }) key) (eqb-true t.0 s.0 is) ∙ none key)
    by_test false is = refl

module _ (old : State) (s : SessionId) (doing : Session) (stage : Stage) (locks : Locks) (core : IsCore old) (runs : IsRunning old s doing) (bare : IsBare stage) (given : IsGivenBack s old.locks locks) where
  mine : IsOpened old.stored.notes s doing
  mine = core.opened s doing runs.there

  -- the session that begins anew or ends, where the book has this length
  abbrev pub anew : ℕ → Session
  anew long = record doing { is_first = false; used_hints = false; since = long; stage = stage }

  -- all of it with this book and the session begun anew
  abbrev pub given_state : Stored → State
  given_state stored = record { stored = stored; locks = locks; seats = old.seats; sessions = with_session old.sessions s (anew (length stored.notes)) }

  plans_given : (long : ℕ) → AreOfSessions locks (with_session old.sessions s (anew long))
  plans_given long = plans_with old.locks locks old.sessions s (anew long) (keys_in stage) refl (λ t key. given t key ∙ bare_modes (t.0 == s.0) (keys_in stage) (mode_of old.locks t key) key bare.keys) core.plans

  found_anew : (stored : Stored) → IsAsFound stored.inodes stored.notes s (anew (length stored.notes))
  found_anew stored = λ quiet. (subst (AllByRecursion (IsFound stored.inodes)) (sym bare.rows) tt, subst (AllByRecursion (λ (at : Key). map.get stored.inodes at ≡ None)) (sym bare.missing) tt)

  seated_anew : (long : ℕ) → IsSeated old.seats s (anew long)
  seated_anew long =
      let seat = core.seats.seated s doing runs.there in
      record { seat = seat.seat; there = seat.there; last = seat.last; number = λ r. seat.number runs.running; low = λ r. seat.low runs.running }

  -- with no note, where it held nothing
  pub given_without : keys_in doing.stage ≡ [] → IsCore (given_state old.stored)
  given_without none =
      let held_none : (k : Key) → mode_of old.locks s k ≡ None = λ k. holds_by_stage old s doing core runs.there k ∙ ap (λ (ks : List (Key × Mode)). planned_mode ks k) none in
      record {
        stored = core.stored;
        locks = λ t key mode. core.locks t key mode ∙ ap (passes (same_mode mode)) (sym (given_none old.locks locks s t key given held_none));
        plans = plans_given (length old.stored.notes);
        reads = with_all (λ t session. IsReading old.stored.inodes old.stored.quotas (held old.stored.notes) t session session.stage) old.sessions s (anew (length old.stored.notes))
            (bare.reading old.stored.inodes old.stored.quotas (held old.stored.notes) s (anew (length old.stored.notes))) (λ t other apart e. core.reads t other e);
        found = with_all (IsAsFound old.stored.inodes old.stored.notes) old.sessions s (anew (length old.stored.notes)) (found_anew old.stored) (λ t other apart e. core.found t other e);
        old = with_all (HasOldRows old.stored.next) old.sessions s (anew (length old.stored.notes)) (subst (AllByRecursion (IsOld old.stored.next)) (sym bare.rows) tt) (λ t other apart e. core.old t other e);
        opened = with_all (IsOpened old.stored.notes) old.sessions s (anew (length old.stored.notes))
            (record { opening = mine.opening; place = mine.place; since = (since_long, le_self (length old.stored.notes)); running = λ r. mine.running runs.running; valid = mine.valid })
            (λ t other apart e. core.opened t other e);
        seats = record {
          each = core.seats.each;
          numbers = core.seats.numbers;
          told = λ client seat e. told_still old.sessions (with_session old.sessions s (anew (length old.stored.notes))) old.stored.notes client seat (there_with old.sessions s doing (anew (length old.stored.notes)) client runs.there refl) (core.seats.told client seat e);
          seated = with_all (IsSeated old.seats) old.sessions s (anew (length old.stored.notes)) (seated_anew (length old.stored.notes)) (λ t other apart e. core.seats.seated t other e);
        };
        ids = core.ids;
        book = core.book;
      }
    where
      since_long : doing.opened < length old.stored.notes
      since_long = let a : doing.opened < doing.since = mine.since.0 in let b : doing.since ≤ length old.stored.notes = mine.since.1 in omega arith

      le_self : (n : ℕ) → n ≤ n
      le_self n = omega arith

  -- with a note
  pub given_with : IsCore (given_state (noted old.stored (Gave s)))
  given_with =
      let notes : List Note = old.stored.notes ++ Gave s ∷ [] in
      let long : length notes ≡ length old.stored.notes + 1 = length-push old.stored.notes (Gave s) in
      record {
        stored = noted_consistent old.stored (Gave s) core.stored refl refl;
        locks = book_gave old.locks locks old.stored.notes (Gave s) s (held-push old.stored.notes (Gave s)) given core.locks;
        plans = plans_given (length notes);
        reads = with_all (λ t session. IsReading old.stored.inodes old.stored.quotas (held notes) t session session.stage) old.sessions s (anew (length notes))
            (bare.reading old.stored.inodes old.stored.quotas (held notes) s (anew (length notes)))
            (λ t other apart e. reading_on old.stored.inodes old.stored.inodes old.stored.quotas old.stored.quotas (held old.stored.notes) (held notes) t other
            (λ asked reads. stands_beside old.stored.inodes old.stored.quotas old.stored.notes t asked reads (Gave s) (leaves_others old.stored.notes t s (Gave s) refl (eqb-false t.0 s.0 apart)))
            other.stage (core.reads t other e));
        found = with_all (IsAsFound old.stored.inodes notes) old.sessions s (anew (length notes)) (found_anew (noted old.stored (Gave s)))
            (λ t other apart e. found_on old.stored.inodes old.stored.inodes old.stored.notes (Gave s) t other (core.opened t other e).since.1 (λ quiet. refl) (core.found t other e));
        old = with_all (HasOldRows old.stored.next) old.sessions s (anew (length notes)) (subst (AllByRecursion (IsOld old.stored.next)) (sym bare.rows) tt) (λ t other apart e. core.old t other e);
        opened = with_all (IsOpened notes) old.sessions s (anew (length notes))
            (opened_anew notes long)
            (λ t other apart e. opened_on old.stored.notes (Gave s) t other (λ r. refl) (core.opened t other e));
        seats = record {
          each = core.seats.each;
          numbers = core.seats.numbers;
          told = λ client seat e. told_on old.sessions (with_session old.sessions s (anew (length notes))) old.stored.notes (Gave s) client seat refl refl (there_with old.sessions s doing (anew (length notes)) client runs.there refl) (core.seats.told client seat e);
          seated = with_all (IsSeated old.seats) old.sessions s (anew (length notes)) (seated_anew (length notes)) (λ t other apart e. core.seats.seated t other e);
        };
        ids = core.ids;
        book = book-push old.stored.settings old.stored.notes (Gave s) (record {
          numbered = (tt, tt);
          allowed = tt;
          opened = inl (was_opened old.stored.notes s doing mine);
          unended = mine.running runs.running;
          answered = tt;
          sound = tt;
          licensed = tt;
          in_order = tt;
          never_falls = tt;
          last = tt;
          within = refl;
          held = tt;
        }) core.book;
      }
    where
      opened_anew : (notes : List Note) → length notes ≡ length old.stored.notes + 1 → IsOpened (old.stored.notes ++ Gave s ∷ []) s (anew (length (old.stored.notes ++ Gave s ∷ [])))
      opened_anew notes long =
          let on = opened_on old.stored.notes (Gave s) s doing (λ r. refl) mine in
          let a : doing.opened < doing.since = on.since.0 in
          let b : doing.since ≤ length (old.stored.notes ++ Gave s ∷ []) = on.since.1 in
          record { opening = on.opening; place = on.place; since = ((let less : doing.opened < length (old.stored.notes ++ Gave s ∷ []) = omega arith in less), (let same : length (old.stored.notes ++ Gave s ∷ []) ≤ length (old.stored.notes ++ Gave s ∷ []) = omega arith in same)); running = λ r. on.running runs.running; valid = on.valid }

-- all that the core keeps, once a session has given its locks back and begins anew or ends
pub given_core : (old new : State) (s : SessionId) (doing : Session) (stage : Stage) → IsCore old → IsRunning old s doing → IsBare stage → Gives old new s doing stage → IsCore new
given_core old new s doing stage core runs bare gives = subst IsCore (sym same) (by_keys (keys_in doing.stage) refl)
  where
    same : new ≡ given_state old s doing stage new.locks core runs bare gives.locks (given_stored old.stored s (keys_in doing.stage))
    same = rw (← gives.stored, ← gives.seats, ← gives.sessions) refl

    by_keys : (keys : List (Key × Mode)) → keys_in doing.stage ≡ keys → IsCore (given_state old s doing stage new.locks core runs bare gives.locks (given_stored old.stored s (keys_in doing.stage)))
    by_keys [] is = subst (λ (ks : List (Key × Mode)). IsCore (given_state old s doing stage new.locks core runs bare gives.locks (given_stored old.stored s ks))) (sym is)
        (given_without old s doing stage new.locks core runs bare gives.locks is)
    by_keys (k ∷ keys) is = subst (λ (ks : List (Key × Mode)). IsCore (given_state old s doing stage new.locks core runs bare gives.locks (given_stored old.stored s ks))) (sym is)
        (given_with old s doing stage new.locks core runs bare gives.locks)
