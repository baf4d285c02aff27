-- All that the core keeps, once a session has answered.
use Rattle.std.proofs.Common.{◌≡◌, ◌≢◌, ℕ, ◌+◌, ◌*◌, ◌<◌, ◌≤◌, Bool, true, false, not, ◌&&◌, ◌||◌, ◌==◌, nat_lt, List, [], ◌∷◌, slice_get, slice_set, unwrap_or, Option, Some, None, arith, refl, sym, ap, subst, ◌∙◌, eqb-true, eq-eqb, inl}
use Rattle.std.proofs.lemmas.Bool.{eqb-false}
use Rattle.std.specs.Cmp.{nat_eq_equiv}
use Rattle.std.specs.List.{list_any, sum_by}
use Rattle.std.specs.FinMap as map
use Rattle.hops_base.specs.declared.ids.SessionId.{SessionId}
use Rattle.hops_base.specs.declared.ids.ClientNo.{ClientNo}
use Rattle.hops_base.specs.declared.ids.Mode.{Mode}
use Rattle.hops_base.specs.declared.key.Key.{Key}
use Rattle.name_space.specs.declared.reply.Reply.{Reply}
use Rattle.name_space.specs.Call.{changes}
use Rattle.name_space.specs.Script.{most_calls}
use Rattle.row_locks.specs.Locks.{Locks, mode_of, IsGivenBack}
use Rattle.commit_log.specs.declared.note.Note.{Note}
use Rattle.commit_log.specs.declared.note.Note.TheVariants.{Did}
use Rattle.commit_log.specs.Parts.{Opening, passes}
use Rattle.commit_log.specs.Locks.{held}
use Rattle.commit_log.specs.Orderly.{ends}
use Rattle.commit_log.specs.Licensed.{is_change_beside}
use Rattle.commit_log.specs.Kept.{answers_after}
use Rattle.commit_log.proofs.HeldLaws.{held-push}
use Rattle.db_state.specs.declared.session.Session.{Session}
use Rattle.db_state.specs.declared.session.Seat.{Seat}
use Rattle.db_state.specs.declared.session.Stage.TheVariants.{Commit, Answered}
use Rattle.db_state.specs.declared.writes.Row.{Row}
use Rattle.db_state.specs.Stored.{Stored}
use Rattle.db_state.specs.State.{State, empty_seat}
use Rattle.db_state.specs.Written.{committed, written, tables_of, next_after}
use Rattle.db_state.specs.Reads.{Reads, locked_by}
use Rattle.db_state.specs.Holding.{HoldsAll}
use Rattle.db_state.specs.Stages.{is_over, rows_in}
use Rattle.db_state.specs.Core.{IsCore}
use Rattle.db_state.specs.Steps.{seat_of, with_session, Completes, CanAnswer}
use Rattle.db_state.specs.SessionParts.{asked_in, IsReading, IsAsFound, IsOpened}
use Rattle.db_state.specs.BookParts.{opens_after, opens_past, most_new_ids, IsSeat, IsSeated}
use Rattle.db_state.proofs.LockPartLaws.{book_gave, plans_with}
use Rattle.db_state.proofs.SessionMapLaws.{with_all}
use Rattle.db_state.proofs.SeatLaws.{get-set_same, get-set_other, all-set, all-at, length-set, sum-set, not_and, not_and_right, not_below, none_after, none_at}
use Rattle.db_state.proofs.BookTellLaws.{opened_on, found_on, any-push}
use Rattle.db_state.proofs.BookLaws.{book-push, was_opened}
use Rattle.db_state.proofs.IdLemmas.{next_rises}
use Rattle.db_state.proofs.OldRowsLaws.{HasOldRows, old_later}
use Rattle.db_state.proofs.SeatTellLaws.{IsThere, last_there, past_none, there_with, told_on}
use Rattle.db_state.proofs.StageLaws.{reading_on}
use Rattle.db_state.proofs.ReadsHoldLaws.{leaves_others, holds_still}
use Rattle.db_state.proofs.ReadsKeptLaws.{all_fixed}
use Rattle.db_state.proofs.ReadsWriteLaws.{session_stays}
use Rattle.db_state.proofs.GiveLaws.{bare_modes}

both_true : (a b : Bool) → a ≡ true → b ≡ true → (a && b) ≡ true
both_true a b p q = rw (p, q) refl

only_calls : (a b : Bool) → a ≡ false → (not a && b) ≡ false → b ≡ false
only_calls true b is e = absurd (let bad = is in cc)
only_calls false b is e = e

module _ (old : State) (s : SessionId) (doing : Session) (reads : Reads) (keys : List (Key × Mode)) (writes : List (Key × Option Row)) (reply : Reply) (locks : Locks)
    (core : IsCore old) (can : CanAnswer old s doing reads keys writes reply) (given : IsGivenBack s old.locks locks) where
  abbrev note : Note
  note = Did s doing.client doing.number doing.call doing.reads reply

  abbrev stored : Stored
  stored = committed old.stored writes (Did s doing.client doing.number doing.call doing.reads reply ∷ [])

  abbrev ended : Session
  ended = record doing { stage = Answered }

  abbrev seats : List Seat
  seats = slice_set old.seats doing.client.0 (record (seat_of old.seats doing.client) { answered = doing.number })

  abbrev pub answered_state : State
  answered_state = record { stored = stored; locks = locks; seats = seats; sessions = with_session old.sessions s (record doing { stage = Answered }) }

  mine : IsOpened old.stored.notes s doing
  mine = core.opened s doing can.there

  seat : IsSeated old.seats s doing
  seat = core.seats.seated s doing can.there

  seat_is : seat_of old.seats doing.client ≡ seat.seat
  seat_is = ap (λ (o : Option Seat). unwrap_or o empty_seat) seat.there

  runs : is_over doing.stage ≡ false
  runs = ap is_over can.stage

  less : seat.seat.answered < doing.number
  less = seat.low runs

  none : list_any (answers_after doing.client seat.seat.answered) old.stored.notes ≡ false
  none = (core.seats.told doing.client seat.seat seat.there).answers

  reading : IsReading old.stored.inodes old.stored.quotas (held old.stored.notes) s doing (Commit reads keys)
  reading = subst (IsReading old.stored.inodes old.stored.quotas (held old.stored.notes) s doing) can.stage (core.reads s doing can.there)

  holds : HoldsAll (held old.stored.notes) s (locked_by (asked_in doing) reads)
  holds = reading.1.holds

  new_seat : slice_get seats doing.client.0 ≡ Some (record (seat_of old.seats doing.client) { answered = doing.number })
  new_seat = get-set_same old.seats doing.client.0 seat.seat (record (seat_of old.seats doing.client) { answered = doing.number }) seat.there

  -- what others have read stands on
  others_read : (t : SessionId) (other : Session) → (t.0 == s.0) ≡ false → map.get old.sessions t.0 ≡ Some other
      → IsReading stored.inodes stored.quotas (held stored.notes) t other other.stage
  others_read t other apart e =
      let differ : t.0 ≢ s.0 = eqb-false t.0 s.0 apart in
      let leaves = leaves_others old.stored.notes t s (Did s doing.client doing.number doing.call doing.reads reply) refl differ in
      reading_on old.stored.inodes stored.inodes old.stored.quotas stored.quotas (held old.stored.notes) (held stored.notes) t other
      (λ asked theirs stands. session_stays old.stored writes (Did s doing.client doing.number doing.call doing.reads reply ∷ []) core.stored can.consistent core.book.sound t s differ asked theirs stands
      (locked_by (asked_in doing) reads) holds can.own None can.keeps (all_fixed theirs.marks theirs.places)
      (holds_still old.stored.notes t (locked_by asked theirs) (Did s doing.client doing.number doing.call doing.reads reply) leaves stands.holds))
      other.stage (core.reads t other e)

  -- what others have found is changed by it alone
  still : (t : SessionId) → (t.0 == s.0) ≡ false → is_change_beside t (Did s doing.client doing.number doing.call doing.reads reply) ≡ false → stored.inodes ≡ old.stored.inodes
  still t apart quiet =
      let looks : changes doing.call ≡ false = only_calls (t.0 == s.0) (changes doing.call) apart quiet in
      ap (λ (ws : List (Key × Option Row)). (written (tables_of old.stored) ws).inodes) (can.looks looks)

  others_run : (t : SessionId) → (t.0 == s.0) ≡ false → ends t (Did s doing.client doing.number doing.call doing.reads reply) ≡ false
  others_run t apart = ap (λ (b : Bool). b || false) (nat_eq_equiv.symm s.0 t.0 ∙ apart)

  -- another session sits in another seat
  other_client : (t : SessionId) (other : Session) → (t.0 == s.0) ≡ false → (is : IsSeated old.seats t other) → other.client.0 ≢ doing.client.0
  other_client t other apart is same =
      let one : Some is.seat ≡ Some seat.seat = sym is.there ∙ ap (slice_get old.seats) same ∙ seat.there in
      let seats_one : is.seat ≡ seat.seat = cc in
      let lasts : Some t ≡ Some s = sym is.last ∙ ap (λ (x : Seat). x.last) seats_one ∙ seat.last in
      let ids_one : t ≡ s = cc in
      eqb-false t.0 s.0 apart (ap (λ (x : SessionId). x.0) ids_one)

  -- who sat there sits there, and has answered
  stays : (client : ClientNo) (t : SessionId) → IsThere old.sessions client t → IsThere (with_session old.sessions s ended) client t
  stays client = there_with old.sessions s doing ended client can.there refl

  told : IsSeat old.sessions old.stored.notes doing.client seat.seat
  told = core.seats.told doing.client seat.seat seat.there

  told_mine : IsSeat (with_session old.sessions s ended) stored.notes doing.client (record seat.seat { answered = doing.number })
  told_mine = record {
    opens = any-push (opens_after doing.client seat.seat.begun) old.stored.notes (Did s doing.client doing.number doing.call doing.reads reply) told.opens refl;
    answers = any-push (answers_after doing.client doing.number) old.stored.notes (Did s doing.client doing.number doing.call doing.reads reply)
        (none_after doing.client seat.seat.answered doing.number old.stored.notes (let l = less in omega arith) none)
        (not_and_right (doing.client.0 == doing.client.0) (nat_lt doing.number doing.number) (not_below doing.number));
    last = any-push (opens_past doing.client seat.seat.last) old.stored.notes (Did s doing.client doing.number doing.call doing.reads reply) told.last
        (past_none doing.client seat.seat.last (Did s doing.client doing.number doing.call doing.reads reply) refl);
    there = last_there old.sessions (with_session old.sessions s ended) doing.client (stays doing.client) seat.seat.last told.there;
  }

  told_all : (client : ClientNo) (x : Seat) → slice_get seats client.0 ≡ Some x → IsSeat (with_session old.sessions s ended) stored.notes client x
  told_all client x e =
      elim (client.0 == doing.client.0) as (λ b. (client.0 == doing.client.0) ≡ b → IsSeat (with_session old.sessions s ended) stored.notes client x) [
        | true ↦ λ is.
            let same : client.0 ≡ doing.client.0 = eqb-true client.0 doing.client.0 is in
            let there : Some x ≡ Some (record (seat_of old.seats doing.client) { answered = doing.number }) = sym e ∙ ap (slice_get seats) same ∙ new_seat in
            let is_new : x ≡ record (seat_of old.seats doing.client) { answered = doing.number } = cc in
            subst (λ (n : ℕ). IsSeat (with_session old.sessions s ended) stored.notes (record { 0 = n }) x) (sym same)
            (subst (IsSeat (with_session old.sessions s ended) stored.notes doing.client) (sym (is_new ∙ ap (λ (y : Seat). record y { answered = doing.number }) seat_is)) told_mine)
        | false ↦ λ is.
            let differ : client.0 ≢ doing.client.0 = eqb-false client.0 doing.client.0 is in
            let was : slice_get old.seats client.0 ≡ Some x = sym (get-set_other old.seats doing.client.0 client.0 (record (seat_of old.seats doing.client) { answered = doing.number }) differ) ∙ e in
            told_on old.sessions (with_session old.sessions s ended) old.stored.notes (Did s doing.client doing.number doing.call doing.reads reply) client x refl
            (not_and (doing.client.0 == client.0) (nat_lt x.answered doing.number) (nat_eq_equiv.symm doing.client.0 client.0 ∙ is)) (stays client) (core.seats.told client x was)
      ] refl

  last_before : list_any (opens_past doing.client (Some s)) old.stored.notes ≡ false
  last_before = subst (λ (last : Option SessionId). list_any (opens_past doing.client last) old.stored.notes ≡ false) seat.last told.last

  others_seated : (t : SessionId) (other : Session) → (t.0 == s.0) ≡ false → map.get old.sessions t.0 ≡ Some other → IsSeated seats t other
  others_seated t other apart e =
      let is = core.seats.seated t other e in
      record {
        seat = is.seat;
        there = get-set_other old.seats doing.client.0 other.client.0 (record (seat_of old.seats doing.client) { answered = doing.number }) (other_client t other apart is) ∙ is.there;
        last = is.last;
        number = is.number;
        low = is.low;
      }

  ids_left : next_after old.stored.next writes ≤ 2 + most_new_ids * sum_by (λ (x : Seat). x.answered) seats
  ids_left =
      let before : old.stored.next ≤ 2 + most_new_ids * sum_by (λ (x : Seat). x.answered) old.seats = core.ids in
      let few : next_after old.stored.next writes ≤ old.stored.next + most_new_ids = can.few in
      let more : sum_by (λ (x : Seat). x.answered) old.seats + 1 ≤ sum_by (λ (x : Seat). x.answered) seats =
      sum-set (λ (x : Seat). x.answered) old.seats doing.client.0 seat.seat (record (seat_of old.seats doing.client) { answered = doing.number }) seat.there less in
      omega arith

  number_fits : (doing.number ≤ (seat_of old.seats doing.client).begun) × ((seat_of old.seats doing.client).begun ≤ most_calls)
  number_fits =
      let fits = all-at (λ (x : Seat). (x.answered ≤ x.begun) × (x.begun ≤ most_calls)) old.seats doing.client.0 seat.seat core.seats.numbers seat.there in
      let begun : (seat_of old.seats doing.client).begun ≡ doing.number = ap (λ (x : Seat). x.begun) seat_is ∙ seat.number runs in
      (subst (λ (n : ℕ). doing.number ≤ n) (sym begun) (le_self doing.number), subst (λ (x : Seat). x.begun ≤ most_calls) (sym seat_is) fits.1)
    where
      le_self : (n : ℕ) → n ≤ n
      le_self n = omega arith

  pub answered_at : IsCore answered_state
  answered_at = record {
    stored = can.consistent;
    locks = book_gave old.locks locks old.stored.notes (Did s doing.client doing.number doing.call doing.reads reply) s (held-push old.stored.notes (Did s doing.client doing.number doing.call doing.reads reply)) given core.locks;
    plans = plans_with old.locks locks old.sessions s ended [] refl (λ t key. given t key ∙ bare_modes (t.0 == s.0) [] (mode_of old.locks t key) key refl) core.plans;
    reads = with_all (λ t session. IsReading stored.inodes stored.quotas (held stored.notes) t session session.stage) old.sessions s ended tt others_read;
    found = with_all (IsAsFound stored.inodes stored.notes) old.sessions s ended (λ quiet. (tt, tt))
        (λ t other apart e. found_on old.stored.inodes stored.inodes old.stored.notes (Did s doing.client doing.number doing.call doing.reads reply) t other (core.opened t other e).since.1 (still t apart) (core.found t other e));
    old = with_all (HasOldRows stored.next) old.sessions s ended tt (λ t other apart e. old_later old.stored.next stored.next (next_rises writes old.stored.next) (rows_in other.stage) (core.old t other e));
    opened = with_all (IsOpened stored.notes) old.sessions s ended
        (opened_on old.stored.notes (Did s doing.client doing.number doing.call doing.reads reply) s ended (λ r. absurd (let bad = r in cc))
        (record { opening = mine.opening; place = mine.place; since = mine.since; running = λ r. mine.running runs; valid = mine.valid }))
        (λ t other apart e. opened_on old.stored.notes (Did s doing.client doing.number doing.call doing.reads reply) t other (λ r. others_run t apart) (core.opened t other e));
    seats = record {
      each = length-set old.seats doing.client.0 (record (seat_of old.seats doing.client) { answered = doing.number }) ∙ core.seats.each;
      numbers = all-set (λ (x : Seat). (x.answered ≤ x.begun) × (x.begun ≤ most_calls)) old.seats doing.client.0 (record (seat_of old.seats doing.client) { answered = doing.number }) core.seats.numbers number_fits;
      told = told_all;
      seated = with_all (IsSeated seats) old.sessions s ended
          (record {
            seat = record (seat_of old.seats doing.client) { answered = doing.number };
            there = new_seat;
            last = ap (λ (x : Seat). x.last) seat_is ∙ seat.last;
            number = λ r. absurd (let bad = r in cc);
            low = λ r. absurd (let bad = r in cc);
          })
          others_seated;
    };
    ids = ids_left;
    book = book-push old.stored.settings old.stored.notes (Did s doing.client doing.number doing.call doing.reads reply) (record {
      numbered = (tt, tt);
      allowed = tt;
      opened = inl (was_opened old.stored.notes s doing mine);
      unended = mine.running runs;
      answered = (
        ap (passes (λ (o : Opening). (o.client.0 == doing.client.0) && (o.number == doing.number))) mine.opening
            ∙ both_true (doing.client.0 == doing.client.0) (doing.number == doing.number) (eq-eqb doing.client.0 doing.client.0 refl) (eq-eqb doing.number doing.number refl),
        mine.valid,
        none_at doing.client seat.seat.answered doing.number old.stored.notes less none,
      );
      sound = tt;
      licensed = tt;
      never_falls = tt;
      last = last_before;
      within = refl;
      in_order = none_after doing.client seat.seat.answered doing.number old.stored.notes (let l = less in omega arith) none;
      held = can.held;
    }) core.book;
  }

-- all that the core keeps, once a session has answered
pub answered_core : (old new : State) (s : SessionId) (doing : Session) (reads : Reads) (keys : List (Key × Mode)) (writes : List (Key × Option Row)) (reply : Reply)
    → IsCore old → CanAnswer old s doing reads keys writes reply → Completes old new s doing writes reply → IsCore new
answered_core old new s doing reads keys writes reply core can completes = subst IsCore (sym same) (answered_at old s doing reads keys writes reply new.locks core can completes.locks)
  where
    same : new ≡ answered_state old s doing reads keys writes reply new.locks core can completes.locks
    same = rw (← completes.stored, ← completes.seats, ← completes.sessions) refl
