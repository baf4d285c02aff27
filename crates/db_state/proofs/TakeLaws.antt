-- All that the core keeps, once a session has taken the next of its keys.
use Rattle.std.proofs.Common.{◌≡◌, ℕ, ◌+◌, ◌<◌, Bool, true, false, ◌&&◌, ◌==◌, cond, List, [], ◌∷◌, ◌++◌, if◌then◌else◌, ◌≢◌, length, take, slice_get, Option, Some, None, arith, refl, sym, ap, subst, ◌∙◌, eqb-true, inl}
use Rattle.std.proofs.lemmas.Bool.{eqb-false}
use Rattle.std.proofs.Math.Seq.{take-length}
use Rattle.std.specs.List.{AllByRecursion}
use Rattle.std.specs.FinMap as map
use Rattle.hops_base.specs.declared.ids.SessionId.{SessionId}
use Rattle.hops_base.specs.declared.ids.Mode.{Mode}
use Rattle.hops_base.specs.declared.key.Key.{Key}
use Rattle.hops_base.specs.Key.{key_cmp, same_key}
use Rattle.std.specs.declared.cmp.Ordering.TheVariants.{Less}
use Rattle.row_locks.specs.Locks.{mode_of}
use Rattle.row_locks.specs.Plans.{planned_mode}
use Rattle.commit_log.specs.declared.note.Note.TheVariants.{Took}
use Rattle.commit_log.specs.Parts.{Taking}
use Rattle.commit_log.specs.Locks.{held}
use Rattle.db_state.specs.declared.session.Session.{Session}
use Rattle.db_state.specs.declared.session.Stage.{Stage}
use Rattle.db_state.specs.declared.session.Stage.TheVariants.{Resolve, Lock, Read, Reread, Commit, Answered}
use Rattle.db_state.specs.declared.view.Place.{Place}
use Rattle.hops_base.specs.Roomy.{Roomy}
use Rattle.db_state.specs.State.{State}
use Rattle.db_state.specs.Stages.{is_over, keys_in, next_key, rows_in}
use Rattle.db_state.specs.Core.{IsCore}
use Rattle.db_state.specs.Steps.{with_session, taken_by, one_more, CanTake}
use Rattle.db_state.specs.LockParts.{keys_of_session}
use Rattle.db_state.specs.SessionParts.{IsReading, IsStillFound, IsAsFound, IsOpened}
use Rattle.db_state.specs.BookParts.{IsSeated}
use Rattle.db_state.proofs.ConsistentLaws.{noted_consistent}
use Rattle.db_state.proofs.LockPartLaws.{mode_of-put, book_took, plans_with}
use Rattle.db_state.proofs.SessionMapLaws.{with_all}
use Rattle.db_state.proofs.BookTellLaws.{opened_on, found_on}
use Rattle.db_state.proofs.BookLaws.{book-push, was_opened}
use Rattle.db_state.proofs.OldRowsLaws.{IsOld, HasOldRows}
use Rattle.db_state.proofs.SeatTellLaws.{there_with, told_on}
use Rattle.db_state.proofs.StageLaws.{reading_on}
use Rattle.db_state.proofs.ReadsHoldLaws.{leaves_others}
use Rattle.db_state.proofs.ReadsBesideLaws.{stands_beside}
use Rattle.db_state.proofs.TookLaws.{known_book, no_clash, all_below, rises_to, not_before, planned_next}

-- where a session asks for a key next
record Asks (stage : Stage) (k : Key × Mode) : Type 0 where
  places : Roomy Place
  keys : List (Key × Mode)
  taken : ℕ
  is : stage ≡ Lock places keys taken
  next : slice_get keys taken ≡ Some k

asks : (stage : Stage) (k : Key × Mode) → next_key stage ≡ Some k → Asks stage k
asks (Resolve places found) k e = let bad = e in cc
asks (Lock places keys taken) k e = record { places = places; keys = keys; taken = taken; is = refl; next = e }
asks (Read places keys) k e = let bad = e in cc
asks (Reread reads keys) k e = let bad = e in cc
asks (Commit reads keys) k e = let bad = e in cc
asks Answered k e = let bad = e in cc

module _ (old : State) (s : SessionId) (doing : Session) (k : Key × Mode) (core : IsCore old) (can : CanTake old s doing k) (at : Asks doing.stage k) where
  abbrev after : Session
  after = record doing { stage = one_more doing.stage }

  -- the session asks for more keys, or has them all
  abbrev further : Bool → Stage
  further more = if more then Read at.places at.keys else Lock at.places at.keys (at.taken + 1)

  stage_after : one_more doing.stage ≡ further (at.taken + 1 == length at.keys)
  stage_after = ap one_more at.is

  keys_after : keys_in (one_more doing.stage) ≡ take (at.taken + 1) at.keys
  keys_after = ap keys_in stage_after ∙ go (at.taken + 1 == length at.keys) refl
    where
      go : (b : Bool) → (at.taken + 1 == length at.keys) ≡ b → keys_in (further b) ≡ take (at.taken + 1) at.keys
      go true all = sym (ap (λ (n : ℕ). take n at.keys) (eqb-true (at.taken + 1) (length at.keys) all) ∙ take-length at.keys)
      go false less = refl

  reading : IsReading old.stored.inodes old.stored.quotas (held old.stored.notes) s doing (Lock at.places at.keys at.taken)
  reading = subst (IsReading old.stored.inodes old.stored.quotas (held old.stored.notes) s doing) at.is (core.reads s doing can.there)

  holds : (key : Key) → mode_of old.locks s key ≡ planned_mode (take at.taken at.keys) key
  holds key = core.plans s key ∙ ap (λ (o : Option Session). planned_mode (keys_of_session o) key) can.there ∙ ap (λ (stage : Stage). planned_mode (keys_in stage) key) at.is

  free : mode_of old.locks s k.0 ≡ None
  free = holds k.0 ∙ not_before at.keys at.taken k reading.0.rises at.next

  modes : (t : SessionId) (key : Key) → mode_of (map.insert old.locks (s.0, k.0) k.1) t key ≡ cond (t.0 == s.0) (planned_mode (take (at.taken + 1) at.keys) key) (mode_of old.locks t key)
  modes t key = mode_of-put old.locks s t k.0 key k.1 ∙ go (t.0 == s.0) refl
    where
      go : (b : Bool) → (t.0 == s.0) ≡ b → cond (b && same_key key k.0) (Some k.1) (mode_of old.locks t key) ≡ cond b (planned_mode (take (at.taken + 1) at.keys) key) (mode_of old.locks t key)
      go true is =
          let here : mode_of old.locks t key ≡ planned_mode (take at.taken at.keys) key = ap (λ (n : ℕ). mode_of old.locks (record { 0 = n }) key) (eqb-true t.0 s.0 is) ∙ holds key in
          ap (cond (same_key key k.0) (Some k.1)) here ∙ planned_next at.keys at.taken k key reading.0.rises at.next
      go false is = refl

  mine : IsOpened old.stored.notes s doing
  mine = core.opened s doing can.there

  runs : is_over doing.stage ≡ false
  runs = ap is_over at.is

  -- the session itself, a key further
  reading_after : (locks : List Taking) → IsReading old.stored.inodes old.stored.quotas locks s after (one_more doing.stage)
  reading_after locks = subst (IsReading old.stored.inodes old.stored.quotas locks s after) (sym stage_after) (go (at.taken + 1 == length at.keys) refl)
    where
      go : (b : Bool) → (at.taken + 1 == length at.keys) ≡ b → IsReading old.stored.inodes old.stored.quotas locks s after (further b)
      go true all = reading.0
      go false less =
          let within : at.taken < length at.keys = reading.1 in
          let apart : at.taken + 1 ≢ length at.keys = eqb-false (at.taken + 1) (length at.keys) less in
          (reading.0, (let still : at.taken + 1 < length at.keys = omega arith in still))

  found_after : IsAsFound old.stored.inodes old.stored.notes s after
  found_after = λ quiet. subst (IsStillFound old.stored.inodes) (sym stage_after) (go (at.taken + 1 == length at.keys) (subst (IsStillFound old.stored.inodes) at.is (core.found s doing can.there quiet)))
    where
      go : (b : Bool) → IsStillFound old.stored.inodes (Lock at.places at.keys at.taken) → IsStillFound old.stored.inodes (further b)
      go true was = was
      go false was = was

  old_after : HasOldRows old.stored.next s after
  old_after = subst (λ (x : Stage). AllByRecursion (IsOld old.stored.next) (rows_in x)) (sym stage_after)
      (go (at.taken + 1 == length at.keys) (subst (λ (x : Stage). AllByRecursion (IsOld old.stored.next) (rows_in x)) at.is (core.old s doing can.there)))
    where
      go : (b : Bool) → AllByRecursion (IsOld old.stored.next) (rows_in (Lock at.places at.keys at.taken)) → AllByRecursion (IsOld old.stored.next) (rows_in (further b))
      go true was = was
      go false was = was

  opened_after : IsOpened old.stored.notes s after
  opened_after = record { opening = mine.opening; place = mine.place; since = mine.since; running = λ r. mine.running runs; valid = mine.valid }

  seated_after : IsSeated old.seats s after
  seated_after =
      let seat = core.seats.seated s doing can.there in
      record { seat = seat.seat; there = seat.there; last = seat.last; number = λ r. seat.number runs; low = λ r. seat.low runs }

  took_at : IsCore (taken_by old s doing k)
  took_at = record {
    stored = noted_consistent old.stored (Took s k.0 k.1) core.stored refl refl;
    locks = book_took old.locks old.stored.notes s k.0 k.1 free core.locks;
    plans = plans_with old.locks (map.insert old.locks (s.0, k.0) k.1) old.sessions s after (take (at.taken + 1) at.keys) keys_after modes core.plans;
    reads = with_all (λ t session. IsReading old.stored.inodes old.stored.quotas (held (old.stored.notes ++ Took s k.0 k.1 ∷ [])) t session session.stage) old.sessions s after
        (reading_after (held (old.stored.notes ++ Took s k.0 k.1 ∷ [])))
        (λ t other apart e. reading_on old.stored.inodes old.stored.inodes old.stored.quotas old.stored.quotas (held old.stored.notes) (held (old.stored.notes ++ Took s k.0 k.1 ∷ [])) t other
        (λ asked reads. stands_beside old.stored.inodes old.stored.quotas old.stored.notes t asked reads (Took s k.0 k.1) (leaves_others old.stored.notes t s (Took s k.0 k.1) refl (eqb-false t.0 s.0 apart)))
        other.stage (core.reads t other e));
    found = with_all (IsAsFound old.stored.inodes (old.stored.notes ++ Took s k.0 k.1 ∷ [])) old.sessions s after
        (found_on old.stored.inodes old.stored.inodes old.stored.notes (Took s k.0 k.1) s after mine.since.1 (λ quiet. refl) found_after)
        (λ t other apart e. found_on old.stored.inodes old.stored.inodes old.stored.notes (Took s k.0 k.1) t other (core.opened t other e).since.1 (λ quiet. refl) (core.found t other e));
    old = with_all (HasOldRows old.stored.next) old.sessions s after old_after (λ t other apart e. core.old t other e);
    opened = with_all (IsOpened (old.stored.notes ++ Took s k.0 k.1 ∷ [])) old.sessions s after
        (opened_on old.stored.notes (Took s k.0 k.1) s after (λ r. refl) opened_after)
        (λ t other apart e. opened_on old.stored.notes (Took s k.0 k.1) t other (λ r. refl) (core.opened t other e));
    seats = record {
      each = core.seats.each;
      numbers = core.seats.numbers;
      told = λ client seat e. told_on old.sessions (with_session old.sessions s after) old.stored.notes (Took s k.0 k.1) client seat refl refl (there_with old.sessions s doing after client can.there refl) (core.seats.told client seat e);
      seated = with_all (IsSeated old.seats) old.sessions s after seated_after (λ t other apart e. core.seats.seated t other e);
    };
    ids = core.ids;
    book = book-push old.stored.settings old.stored.notes (Took s k.0 k.1) (record {
      numbered = (tt, tt);
      allowed = tt;
      opened = inl (was_opened old.stored.notes s doing mine);
      unended = mine.running runs;
      answered = tt;
      sound = (
        no_clash old.locks s k.0 k.1 can.free (held old.stored.notes) (known_book old.locks old.stored.notes core.locks),
        all_below old.locks s k.0 (λ key mode e. rises_to at.keys at.taken k key mode reading.0.rises at.next (sym (holds key) ∙ e)) (held old.stored.notes) (known_book old.locks old.stored.notes core.locks),
      );
      licensed = tt;
      in_order = tt;
      never_falls = tt;
      last = tt;
      within = refl;
      held = tt;
    }) core.book;
  }

pub took_core : (old : State) (s : SessionId) (doing : Session) (k : Key × Mode) → IsCore old → CanTake old s doing k → IsCore (taken_by old s doing k)
took_core old s doing k core can = took_at old s doing k core can (asks doing.stage k can.next)

-- the key that a session asks for next is above each that it holds
pub next_is_above : (old : State) (s : SessionId) (doing : Session) (k : Key × Mode) → IsCore old → map.get old.sessions s.0 ≡ Some doing → next_key doing.stage ≡ Some k
    → (key : Key) (mode : Mode) → mode_of old.locks s key ≡ Some mode → key_cmp key k.0 ≡ Less
next_is_above old s doing k core there next key mode e =
    let at = asks doing.stage k next in
    let reading = subst (IsReading old.stored.inodes old.stored.quotas (held old.stored.notes) s doing) at.is (core.reads s doing there) in
    let holds : mode_of old.locks s key ≡ planned_mode (take at.taken at.keys) key =
    core.plans s key ∙ ap (λ (o : Option Session). planned_mode (keys_of_session o) key) there ∙ ap (λ (stage : Stage). planned_mode (keys_in stage) key) at.is in
    rises_to at.keys at.taken k key mode reading.0.rises at.next (sym holds ∙ e)
