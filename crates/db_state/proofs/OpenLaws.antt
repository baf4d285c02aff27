-- All that the core keeps, once a session is opened, and once a client's next call is counted.
use Rattle.std.proofs.Common.{◌≡◌, ◌≢◌, ◌⊎◌, ℕ, ◌+◌, ◌*◌, ◌<◌, ◌≤◌, Bool, true, false, ◌||◌, ◌==◌, cond, List, [], ◌∷◌, ◌++◌, length, take, slice_get, slice_set, Option, Some, None, IsSome, IfSome, IsSomeAnd, nat_lt, drop, arith, refl, sym, ap, subst, ◌∙◌, eqb-true, eq-eqb, inl, inr}
use Rattle.std.proofs.lemmas.Bool.{eqb-false, false_from_ne_true, and_parts}
use Rattle.std.proofs.lemmas.List.{take-append-drop}
use Rattle.std.specs.Cmp.{nat_eq_equiv}
use Rattle.std.proofs.lemmas.Option.{slice_get-get_or, unwrap_or-slice_get}
use Rattle.std.specs.List.{list_any}
use Rattle.std.specs.FinMap as map
use Rattle.hops_base.specs.Ids.{session}
use Rattle.hops_base.specs.declared.ids.SessionId.{SessionId}
use Rattle.hops_base.specs.declared.ids.ClientNo.{ClientNo}
use Rattle.hops_base.specs.declared.ids.NodeNo.{NodeNo}
use Rattle.hops_base.specs.declared.key.Key.{Key}
use Rattle.name_space.specs.declared.call.Call.{Call}
use Rattle.name_space.specs.Script.{most_calls}
use Rattle.row_locks.specs.Locks.{mode_of}
use Rattle.row_locks.specs.Plans.{planned_mode}
use Rattle.commit_log.specs.declared.note.Note.{Note}
use Rattle.commit_log.specs.declared.note.Note.TheVariants.{Open, Took, Gave, Wrote, Did, Cut, Met, Gone}
use Rattle.commit_log.specs.Parts.{Taking, Opening, opening_of, opens_session, actor, is_lost}
use Rattle.commit_log.specs.Locks.{held}
use Rattle.commit_log.specs.Orderly.{OpenedAt, ends, is_sweep}
use Rattle.commit_log.specs.Along.{Each}
use Rattle.commit_log.specs.Kept.{answers_after}
use Rattle.commit_log.proofs.AlongLaws.{Each-at}
use Rattle.commit_log.proofs.HeldLaws.{held-push}
use Rattle.commit_log.proofs.OrderLaws.{session_is_new}
use Rattle.commit_log.proofs.PartLaws.{opening_of-kept, opening_of-new, opening_of-none}
use Rattle.db_state.specs.declared.session.Session.{Session}
use Rattle.db_state.specs.declared.session.Seat.{Seat}
use Rattle.db_state.specs.declared.session.Stage.{Stage}
use Rattle.db_state.specs.declared.session.Stage.TheVariants.{Resolve, Lock, Read, Reread, Commit, Answered}
use Rattle.db_state.specs.State.{Sessions, State, empty_seat}
use Rattle.db_state.specs.Stages.{is_over, keys_in}
use Rattle.db_state.specs.Core.{IsCore}
use Rattle.db_state.specs.Steps.{seat_of, new_session, next_session, with_session, without_last, opened_by, begun_by, CanOpen}
use Rattle.db_state.specs.LockParts.{AreOfSessions, keys_of_session}
use Rattle.db_state.specs.SessionParts.{IsReading, IsAsFound, IsOpened}
use Rattle.db_state.specs.BookParts.{opens_after, opens_past, most_new_ids, IsSeat, IsSeated}
use Rattle.db_state.proofs.ConsistentLaws.{noted_consistent}
use Rattle.db_state.proofs.LockPartLaws.{book_left, plans_with, plans_without}
use Rattle.db_state.proofs.SessionMapLaws.{with_all, get-with, get-without}
use Rattle.db_state.proofs.SeatLaws.{get-set_same, get-set_other, all-set, all-at, length-set, sum-same, not_and, not_and_right, not_below, none_opened_after}
use Rattle.db_state.proofs.SeatTellLaws.{any_at, IsThere, last_there, none_past_next}
use Rattle.db_state.proofs.BookTellLaws.{opened_on, found_on, any-push, position-new, length-push}
use Rattle.db_state.proofs.BookLaws.{book-push}
use Rattle.db_state.proofs.OldRowsLaws.{HasOldRows}
use Rattle.db_state.proofs.GiveLaws.{start_is_bare}

-- ---- nothing ends a session that isn't opened yet

one_session : (s t : SessionId) → (t.0 == s.0) ≡ true → Some t ≡ Some s
one_session s t is = ap (λ (n : ℕ). Some (session n)) (eqb-true t.0 s.0 is)

or_nothing : (b : Bool) → (b || false) ≡ true → b ≡ true
or_nothing true e = e
or_nothing false e = e

acts : (s : SessionId) (note : Note) → ends s note ≡ true → (actor note ≡ Some s) × (is_sweep note ≡ false)
acts s (Open t client number node) e = let bad = e in cc
acts s (Took t key mode) e = let bad = e in cc
acts s (Gave t) e = let bad = e in cc
acts s (Wrote t work) e = let bad = e in cc
acts s (Did t client number call reads reply) e = (one_session s t (or_nothing (t.0 == s.0) e), refl)
acts s (Cut op path gone) e = let bad = e in cc
acts s (Met t cause) e = (one_session s t (and_parts (t.0 == s.0) (is_lost cause) e).0, refl)
acts s (Gone node ended) e = let bad = e in cc

-- where no session of this number was opened, nothing ends it
pub nothing_ends : (notes : List Note) (s : SessionId) → Each OpenedAt notes → opening_of notes s ≡ None → list_any (ends s) notes ≡ false
nothing_ends notes s each none = false_from_ne_true (list_any (ends s) notes) (λ is.
    let found = any_at (ends s) notes is in
    let acting = acts s found.1 found.3 in
    let opened : IsSome (opening_of (take found.0 notes) s) ⊎ (is_sweep found.1 ≡ true) =
    subst (λ (o : Option SessionId). IfSome o (λ t. IsSome (opening_of (take found.0 notes) t) ⊎ (is_sweep found.1 ≡ true))) acting.0 (Each-at OpenedAt notes each found.0 found.1 found.2) in
    elim opened [
      | inl some ↦ was_there found.0 (opening_of (take found.0 notes) s) refl some
      | inr sweep ↦ let no = acting.1 in cc
    ])
  where
    was_there : (i : ℕ) (o : Option Opening) → opening_of (take i notes) s ≡ o → IsSome o → ⊥
    was_there i None e some = let bad = some in cc
    was_there i (Some o) e some =
        let kept : opening_of notes s ≡ Some o = subst (λ (ns : List Note). opening_of ns s ≡ Some o) (take-append-drop i notes) (opening_of-kept (take i notes) (drop i notes) s o e) in
        let bad : None ≡ Some o = sym none ∙ kept in
        cc

-- ---- the sessions without a client's last one

over_holds_nothing : (stage : Stage) → is_over stage ≡ true → keys_in stage ≡ []
over_holds_nothing (Resolve places found) e = refl
over_holds_nothing (Lock places keys taken) e = let bad = e in cc
over_holds_nothing (Read places keys) e = let bad = e in cc
over_holds_nothing (Reread reads keys) e = let bad = e in cc
over_holds_nothing (Commit reads keys) e = let bad = e in cc
over_holds_nothing Answered e = refl

last_holds_nothing : (sessions : Sessions) (last : SessionId) → IfSome (map.get sessions last.0) (λ doing. is_over doing.stage ≡ true) → keys_of_session (map.get sessions last.0) ≡ []
last_holds_nothing sessions last over = go (map.get sessions last.0) over
  where
    go : (o : Option Session) → IfSome o (λ doing. is_over doing.stage ≡ true) → keys_of_session o ≡ []
    go None is = refl
    go (Some doing) is = over_holds_nothing doing.stage is

left_there : (sessions : Sessions) (last : Option SessionId) (t : SessionId) (other : Session) → map.get (without_last sessions last) t.0 ≡ Some other → (map.get sessions t.0 ≡ Some other) × (last ≢ Some t)
left_there sessions None t other e = (e, λ same. let bad = same in cc)
left_there sessions (Some l) t other e =
    elim (t.0 == l.0) as (λ b. (t.0 == l.0) ≡ b → cond b None (map.get sessions t.0) ≡ Some other → (map.get sessions t.0 ≡ Some other) × (Some l ≢ Some t)) [
      | true ↦ λ is f. absurd (let bad = f in cc)
      | false ↦ λ is f. (f, λ same. let ids : l ≡ t = cc in eqb-false t.0 l.0 is (sym (ap (λ (x : SessionId). x.0) ids)))
    ] refl (sym (get-without sessions l t) ∙ e)

module _ (old : State) (client : ClientNo) (number : ℕ) (call : Call) (node : NodeNo) (core : IsCore old) (can : CanOpen old client number call node) where
  abbrev s : SessionId
  s = next_session old

  abbrev notes : List Note
  notes = old.stored.notes ++ Open (next_session old) client number node ∷ []

  abbrev was : Seat
  was = seat_of old.seats client

  abbrev now : Seat
  now = record (seat_of old.seats client) { begun = number; last = Some (next_session old) }

  abbrev seats : List Seat
  seats = slice_set old.seats client.0 (record (seat_of old.seats client) { begun = number; last = Some (next_session old) })

  abbrev left : Sessions
  left = without_last old.sessions (seat_of old.seats client).last

  abbrev fresh : Session
  fresh = new_session client number call node (length old.stored.notes)

  there : slice_get old.seats client.0 ≡ Some was
  there =
      let within : client.0 < length old.seats = subst (λ (n : ℕ). client.0 < n) (sym core.seats.each) can.client_there in
      slice_get-get_or old.seats client.0 empty_seat within ∙ ap Some (sym (unwrap_or-slice_get old.seats client.0 empty_seat))

  now_there : slice_get seats client.0 ≡ Some now
  now_there = get-set_same old.seats client.0 was now there

  unopened : list_any (opens_session s) old.stored.notes ≡ false
  unopened = session_is_new old.stored.notes (Open (next_session old) client number node) (record { session = next_session old; client = client; number = number; node = node }) core.book.orderly.numbered (refl, tt) refl

  none : opening_of old.stored.notes s ≡ None
  none = opening_of-none old.stored.notes s unopened

  -- there is no session of the new number
  pub no_session : (o : Option Session) → map.get old.sessions s.0 ≡ o → o ≡ None
  no_session None e = refl
  no_session (Some doing) e = let bad : None ≡ Some _ = sym none ∙ (core.opened s doing e).opening in absurd (let worse = bad in cc)

  same_held : held notes ≡ held old.stored.notes
  same_held = held-push old.stored.notes (Open (next_session old) client number node)

  holds_none : (t : SessionId) (key : Key) → mode_of old.locks t key ≡ cond (t.0 == s.0) (planned_mode [] key) (mode_of old.locks t key)
  holds_none t key = go (t.0 == s.0) refl
    where
      go : (b : Bool) → (t.0 == s.0) ≡ b → mode_of old.locks t key ≡ cond b (planned_mode [] key) (mode_of old.locks t key)
      go true is = core.plans t key ∙ ap (λ (o : Option Session). planned_mode (keys_of_session o) key) (ap (λ (n : ℕ). map.get old.sessions n) (eqb-true t.0 s.0 is) ∙ no_session (map.get old.sessions s.0) refl)
      go false is = refl

  plans_left : (last : Option SessionId) → IfSome last (λ l. IfSome (map.get old.sessions l.0) (λ doing. is_over doing.stage ≡ true)) → AreOfSessions old.locks (without_last old.sessions last)
  plans_left None idle = core.plans
  plans_left (Some l) idle = plans_without old.locks old.sessions l (last_holds_nothing old.sessions l idle) core.plans

  fresh_opened : IsOpened notes s fresh
  fresh_opened =
      let long = length-push old.stored.notes (Open (next_session old) client number node) in
      record {
        opening = opening_of-new old.stored.notes s client number node none;
        place = position-new (opens_session s) old.stored.notes (Open (next_session old) client number node) unopened (eq-eqb s.0 s.0 refl);
        since = ((let less : length old.stored.notes < length old.stored.notes + 1 = omega arith in less), (let most : length old.stored.notes + 1 ≤ length notes = omega arith in most));
        running = λ r. any-push (ends s) old.stored.notes (Open (next_session old) client number node) (nothing_ends old.stored.notes s core.book.orderly.opened none) refl;
        valid = can.valid;
      }

  was_told : IsSeat old.sessions old.stored.notes client was
  was_told = core.seats.told client was there

  rises : was.begun ≤ number
  rises = let next : number ≡ was.begun + 1 = can.next in omega arith

  now_told : IsSeat (with_session left s fresh) notes client now
  now_told = record {
    opens = any-push (opens_after client number) old.stored.notes (Open (next_session old) client number node) (none_opened_after client was.begun number old.stored.notes rises was_told.opens)
        (not_and_right (client.0 == client.0) (nat_lt number number) (not_below number));
    answers = any-push (answers_after client was.answered) old.stored.notes (Open (next_session old) client number node) was_told.answers refl;
    last = any-push (opens_past client (Some s)) old.stored.notes (Open (next_session old) client number node) (none_past_next old.stored.notes client core.book.orderly.numbered)
        (not_and_right (client.0 == client.0) (nat_lt s.0 s.0) (not_below s.0));
    there = subst (λ (o : Option Session). IsSomeAnd o (λ doing. doing.client ≡ client))
        (sym (get-with left s s fresh ∙ ap (λ (b : Bool). cond b (Some fresh) (map.get left s.0)) (eq-eqb s.0 s.0 refl))) refl;
  }

  -- the last session of another client stays
  stays : (c : ClientNo) → (c.0 == client.0) ≡ false → (t : SessionId) → IsThere old.sessions c t → IsThere (with_session left s fresh) c t
  stays c apart t is = subst (λ (o : Option Session). IsSomeAnd o (λ doing. doing.client ≡ c)) (sym (get-with left s t fresh)) (go (t.0 == s.0) refl)
    where
      in_left : (last : Option SessionId) → IfSome last (IsThere old.sessions client) → IsThere (without_last old.sessions last) c t
      in_left None sits = is
      in_left (Some l) sits = subst (λ (o : Option Session). IsSomeAnd o (λ doing. doing.client ≡ c)) (sym (get-without old.sessions l t)) (by_test (t.0 == l.0) refl)
        where
          clash : (o : Option Session) → IsSomeAnd o (λ doing. doing.client ≡ client) → IsSomeAnd o (λ doing. doing.client ≡ c) → c.0 ≡ client.0
          clash None one other = absurd one
          clash (Some doing) one other = ap (λ (x : ClientNo). x.0) (sym other ∙ one)

          by_test : (b : Bool) → (t.0 == l.0) ≡ b → IsSomeAnd (cond b None (map.get old.sessions t.0)) (λ doing. doing.client ≡ c)
          by_test true e = absurd (eqb-false c.0 client.0 apart (clash (map.get old.sessions l.0) sits
              (subst (λ (n : ℕ). IsSomeAnd (map.get old.sessions n) (λ doing. doing.client ≡ c)) (eqb-true t.0 l.0 e) is)))
          by_test false e = is

      go : (b : Bool) → (t.0 == s.0) ≡ b → IsSomeAnd (cond b (Some fresh) (map.get left t.0)) (λ doing. doing.client ≡ c)
      go true e = absurd (subst (λ (o : Option Session). IsSomeAnd o (λ doing. doing.client ≡ c)) (ap (λ (n : ℕ). map.get old.sessions n) (eqb-true t.0 s.0 e) ∙ no_session (map.get old.sessions s.0) refl) is)
      go false e = in_left (seat_of old.seats client).last was_told.there

  -- the note is of another client
  not_past_other : (c : ClientNo) → (client.0 == c.0) ≡ false → (last : Option SessionId) → opens_past c last (Open (next_session old) client number node) ≡ false
  not_past_other c apart None = apart
  not_past_other c apart (Some l) = not_and (client.0 == c.0) (nat_lt l.0 s.0) apart

  told_all : (c : ClientNo) (x : Seat) → slice_get seats c.0 ≡ Some x → IsSeat (with_session left s fresh) notes c x
  told_all c x e =
      elim (c.0 == client.0) as (λ b. (c.0 == client.0) ≡ b → IsSeat (with_session left s fresh) notes c x) [
        | true ↦ λ is.
            let same : c.0 ≡ client.0 = eqb-true c.0 client.0 is in
            let one : Some x ≡ Some now = sym e ∙ ap (slice_get seats) same ∙ now_there in
            let is_now : x ≡ now = cc in
            subst (λ (n : ℕ). IsSeat (with_session left s fresh) notes (record { 0 = n }) x) (sym same) (subst (IsSeat (with_session left s fresh) notes client) (sym is_now) now_told)
        | false ↦ λ is.
            let before : slice_get old.seats c.0 ≡ Some x = sym (get-set_other old.seats client.0 c.0 now (eqb-false c.0 client.0 is)) ∙ e in
            let tells = core.seats.told c x before in
            let other : (client.0 == c.0) ≡ false = nat_eq_equiv.symm client.0 c.0 ∙ is in
            record {
              opens = any-push (opens_after c x.begun) old.stored.notes (Open (next_session old) client number node) tells.opens (not_and (client.0 == c.0) (nat_lt x.begun number) other);
              answers = any-push (answers_after c x.answered) old.stored.notes (Open (next_session old) client number node) tells.answers refl;
              last = any-push (opens_past c x.last) old.stored.notes (Open (next_session old) client number node) tells.last (not_past_other c other x.last);
              there = last_there old.sessions (with_session left s fresh) c (stays c is) x.last tells.there;
            }
      ] refl

  others_seated : (t : SessionId) (other : Session) → map.get left t.0 ≡ Some other → IsSeated seats t other
  others_seated t other e =
      let both = left_there old.sessions (seat_of old.seats client).last t other e in
      let is = core.seats.seated t other both.0 in
      let apart : other.client.0 ≢ client.0 = λ same.
      let one : Some is.seat ≡ Some was = sym is.there ∙ ap (slice_get old.seats) same ∙ there in
      let seats_one : is.seat ≡ was = cc in
      both.1 (sym (ap (λ (x : Seat). x.last) seats_one) ∙ is.last) in
      record { seat = is.seat; there = get-set_other old.seats client.0 other.client.0 now apart ∙ is.there; last = is.last; number = is.number; low = is.low }

  numbers_fit : (was.answered ≤ number) × (number ≤ most_calls)
  numbers_fit =
      let fits = all-at (λ (x : Seat). (x.answered ≤ x.begun) × (x.begun ≤ most_calls)) old.seats client.0 was core.seats.numbers there in
      let a : was.answered ≤ was.begun = fits.0 in
      let b : number ≡ was.begun + 1 = can.next in
      ((let less : was.answered ≤ number = omega arith in less), can.few)

  unanswered : was.answered < number
  unanswered =
      let fits = all-at (λ (x : Seat). (x.answered ≤ x.begun) × (x.begun ≤ most_calls)) old.seats client.0 was core.seats.numbers there in
      let a : was.answered ≤ was.begun = fits.0 in
      let b : number ≡ was.begun + 1 = can.next in
      omega arith

  pub opened_at : IsCore (opened_by old client number call node)
  opened_at = record {
    stored = noted_consistent old.stored (Open (next_session old) client number node) core.stored refl refl;
    locks = book_left old.locks old.stored.notes (Open (next_session old) client number node) same_held core.locks;
    plans = plans_with old.locks old.locks left s fresh [] refl holds_none (plans_left (seat_of old.seats client).last can.idle);
    reads = with_all (λ t doing. IsReading old.stored.inodes old.stored.quotas (held notes) t doing doing.stage) left s fresh
        (start_is_bare.reading old.stored.inodes old.stored.quotas (held notes) s fresh)
        (λ t other apart e. subst (λ (locks : List Taking). IsReading old.stored.inodes old.stored.quotas locks t other other.stage) (sym same_held)
        (core.reads t other (left_there old.sessions (seat_of old.seats client).last t other e).0));
    found = with_all (IsAsFound old.stored.inodes notes) left s fresh (λ quiet. (tt, tt))
        (λ t other apart e. let in_old = (left_there old.sessions (seat_of old.seats client).last t other e).0 in
        found_on old.stored.inodes old.stored.inodes old.stored.notes (Open (next_session old) client number node) t other (core.opened t other in_old).since.1 (λ quiet. refl) (core.found t other in_old));
    old = with_all (HasOldRows old.stored.next) left s fresh tt (λ t other apart e. core.old t other (left_there old.sessions (seat_of old.seats client).last t other e).0);
    opened = with_all (IsOpened notes) left s fresh fresh_opened
        (λ t other apart e. let in_old = (left_there old.sessions (seat_of old.seats client).last t other e).0 in
        opened_on old.stored.notes (Open (next_session old) client number node) t other (λ r. refl) (core.opened t other in_old));
    seats = record {
      each = length-set old.seats client.0 now ∙ core.seats.each;
      numbers = all-set (λ (x : Seat). (x.answered ≤ x.begun) × (x.begun ≤ most_calls)) old.seats client.0 now core.seats.numbers numbers_fit;
      told = told_all;
      seated = with_all (IsSeated seats) left s fresh
          (record { seat = now; there = now_there; last = refl; number = λ r. refl; low = λ r. unanswered })
          (λ t other apart e. others_seated t other e);
    };
    ids = subst (λ (n : ℕ). old.stored.next ≤ 2 + most_new_ids * n) (sym (sum-same (λ (x : Seat). x.answered) old.seats client.0 was now there refl)) core.ids;
    book = book-push old.stored.settings old.stored.notes (Open (next_session old) client number node) (record {
      numbered = (refl, tt);
      allowed = ((can.client_there, (let b : number ≡ was.begun + 1 = can.next in let low : 1 ≤ number = omega arith in low), can.few), can.node_there);
      opened = tt;
      unended = tt;
      answered = tt;
      sound = tt;
      licensed = tt;
      in_order = tt;
      never_falls = none_opened_after client was.begun number old.stored.notes rises was_told.opens;
      last = tt;
      within = refl;
      held = tt;
    }) core.book;
  }

  -- ---- the call is counted, and no session opened for it

  abbrev counted : Seat
  counted = record (seat_of old.seats client) { begun = number }

  abbrev counted_seats : List Seat
  counted_seats = slice_set old.seats client.0 (record (seat_of old.seats client) { begun = number })

  counted_there : slice_get counted_seats client.0 ≡ Some counted
  counted_there = get-set_same old.seats client.0 was counted there

  counted_told : (c : ClientNo) (x : Seat) → slice_get counted_seats c.0 ≡ Some x → IsSeat old.sessions old.stored.notes c x
  counted_told c x e =
      elim (c.0 == client.0) as (λ b. (c.0 == client.0) ≡ b → IsSeat old.sessions old.stored.notes c x) [
        | true ↦ λ is.
            let same : c.0 ≡ client.0 = eqb-true c.0 client.0 is in
            let one : Some x ≡ Some counted = sym e ∙ ap (slice_get counted_seats) same ∙ counted_there in
            let is_counted : x ≡ counted = cc in
            subst (λ (n : ℕ). IsSeat old.sessions old.stored.notes (record { 0 = n }) x) (sym same) (subst (IsSeat old.sessions old.stored.notes client) (sym is_counted)
            (record { opens = none_opened_after client was.begun number old.stored.notes rises was_told.opens; answers = was_told.answers; last = was_told.last; there = was_told.there }))
        | false ↦ λ is. core.seats.told c x (sym (get-set_other old.seats client.0 c.0 counted (eqb-false c.0 client.0 is)) ∙ e)
      ] refl

  -- the client's last session is over
  over : (t : SessionId) (other : Session) → map.get old.sessions t.0 ≡ Some other → was.last ≡ Some t → is_over other.stage ≡ true
  over t other e last = subst (λ (o : Option Session). IfSome o (λ doing. is_over doing.stage ≡ true)) e (subst (λ (l : Option SessionId). IfSome l (λ x. IfSome (map.get old.sessions x.0) (λ doing. is_over doing.stage ≡ true))) last can.idle)

  counted_seated : (t : SessionId) (other : Session) → map.get old.sessions t.0 ≡ Some other → IsSeated counted_seats t other
  counted_seated t other e =
      let is = core.seats.seated t other e in
      elim (other.client.0 == client.0) as (λ b. (other.client.0 == client.0) ≡ b → IsSeated counted_seats t other) [
        | true ↦ λ same.
            let at : other.client.0 ≡ client.0 = eqb-true other.client.0 client.0 same in
            let one : Some is.seat ≡ Some was = sym is.there ∙ ap (slice_get old.seats) at ∙ there in
            let seats_one : is.seat ≡ was = cc in
            let last : was.last ≡ Some t = sym (ap (λ (x : Seat). x.last) seats_one) ∙ is.last in
            let ended : is_over other.stage ≡ true = over t other e last in
            record {
              seat = counted;
              there = ap (slice_get counted_seats) at ∙ counted_there;
              last = last;
              number = λ r. absurd (let bad = sym ended ∙ r in cc);
              low = λ r. absurd (let bad = sym ended ∙ r in cc);
            }
        | false ↦ λ apart.
            record { seat = is.seat; there = get-set_other old.seats client.0 other.client.0 counted (eqb-false other.client.0 client.0 apart) ∙ is.there; last = is.last; number = is.number; low = is.low }
      ] refl

  pub begun_at : IsCore (begun_by old client number)
  begun_at = record {
    stored = core.stored;
    locks = core.locks;
    plans = core.plans;
    reads = core.reads;
    found = core.found;
    old = core.old;
    opened = core.opened;
    seats = record {
      each = length-set old.seats client.0 counted ∙ core.seats.each;
      numbers = all-set (λ (x : Seat). (x.answered ≤ x.begun) × (x.begun ≤ most_calls)) old.seats client.0 counted core.seats.numbers numbers_fit;
      told = counted_told;
      seated = counted_seated;
    };
    ids = subst (λ (n : ℕ). old.stored.next ≤ 2 + most_new_ids * n) (sym (sum-same (λ (x : Seat). x.answered) old.seats client.0 was counted there refl)) core.ids;
    book = core.book;
  }

-- all that the core keeps, once a client's next call is counted
pub begun_core : (old : State) (client : ClientNo) (number : ℕ) (call : Call) (node : NodeNo) → IsCore old → CanOpen old client number call node → IsCore (begun_by old client number)
begun_core old client number call node core can = begun_at old client number call node core can

-- all that the core keeps, once a session is opened
pub opened_core : (old : State) (client : ClientNo) (number : ℕ) (call : Call) (node : NodeNo) → IsCore old → CanOpen old client number call node → IsCore (opened_by old client number call node)
opened_core old client number call node core can = opened_at old client number call node core can
