-- All that is kept, once one thing more has happened.
use Rattle.std.proofs.Common.{◌≡◌, ◌⊎◌, ℕ, ◌+◌, ◌-◌, ◌*◌, ◌<◌, ◌≤◌, ◌^◌, List, [], ◌∷◌, ◌++◌, length, slice_get, slice_set, Option, Some, None, arith, refl, sym, ap, subst, ◌∙◌, inl, inr, unwrap_or, Bool, true, false, ◌≢◌, ◌==◌, cond, eqb-true, IfSome, not}
use Rattle.std.proofs.lemmas.List.{append-nil}
use Rattle.std.proofs.lemmas.List.Sums.{sum_by-cons}
use Rattle.std.specs.List.{sum_by, AllByRecursion}
use Rattle.std.specs.FinMap as map
use Rattle.std.specs.Prelude.{map as list_map}
use Rattle.hops_base.specs.Key.{key_cmp}
use Rattle.std.specs.Ordering.{is_eq}
use Rattle.hops_base.specs.declared.ids.SessionId.{SessionId}
use Rattle.hops_base.specs.declared.ids.ClientNo.{ClientNo}
use Rattle.hops_base.specs.declared.ids.NodeNo.{NodeNo}
use Rattle.hops_base.specs.declared.ids.Mode.{Mode}
use Rattle.hops_base.specs.declared.key.Key.{Key}
use Rattle.name_space.specs.declared.call.Call.{Call}
use Rattle.name_space.specs.declared.reply.Reply.{Reply}
use Rattle.name_space.specs.Script.{most_calls, most_clients}
use Rattle.row_locks.specs.Locks.{Locks, mode_of, IsGivenBack, IsLeastInTheWay}
use Rattle.commit_log.specs.declared.note.Note.{Note}
use Rattle.commit_log.specs.declared.note.Note.TheVariants.{Took, Did, Met}
use Rattle.commit_log.specs.declared.note.Cause.TheVariants.{Locked, Changed}
use Rattle.db_state.specs.declared.session.Seat.{Seat}
use Rattle.db_state.specs.declared.session.Session.{Session}
use Rattle.db_state.specs.declared.session.Stage.{Stage}
use Rattle.db_state.specs.declared.session.Stage.TheVariants.{Answered}
use Rattle.db_state.specs.declared.writes.Row.{Row}
use Rattle.db_state.specs.Stored.{Stored, root_key}
use Rattle.db_state.specs.Settings.{IsSettings, Settings}
use Rattle.db_state.specs.State.{State, empty_seat, opening_state, Sessions}
use Rattle.db_state.specs.Core.{IsCore}
use Rattle.db_state.specs.Reads.{Reads}
use Rattle.db_state.specs.Stages.{keys_in, next_key}
use Rattle.db_state.specs.Written.{committed, next_after}
use Rattle.db_state.specs.Inside.{has_any, one_if, gave_by, IsInside, holders, one_if_holding, named_session}
use Rattle.db_state.specs.Callers.{IsOpen, IsKeptAway, IsBehind, IsAnswer}
use Rattle.db_state.specs.BookParts.{most_new_ids}
use Rattle.db_state.specs.Steps.{seat_of, with_session, one_more, start, given_stored, IsRunning, CanTake, CanMeet, CanChange, CanAnswer, noted, opened_by, CanOpen, next_session, without_last, CanMove, moved_by}
use Rattle.db_state.proofs.TakeLaws.{took_core, next_is_above}
use Rattle.db_state.proofs.MetLaws.{met_lock_core}
use Rattle.db_state.proofs.GiveLaws.{IsBare, start_is_bare, end_is_bare, given_core}
use Rattle.db_state.proofs.DiffersLaws.{changed_core}
use Rattle.db_state.proofs.AnswerLaws.{answered_core}
use Rattle.db_state.proofs.CountedLaws.{counted_note, counted_take, counted_give, counted_answer, counted_change, counted_begun, counted_open, holders_still, length_gave}
use Rattle.std.proofs.lemmas.Option.{slice_get-get_or, unwrap_or-slice_get, slice_get_within}
use Rattle.db_state.proofs.OpenLaws.{opened_core, begun_core, no_session}
use Rattle.db_state.proofs.OpeningCoreLaws.{opening_core}
use Rattle.db_state.proofs.SessionMapLaws.{get-with, get-without}
use Rattle.std.specs.Option.{IsSomeAnd}
use Rattle.std.specs.Cmp.{nat_cmp_total}
use Rattle.db_state.proofs.TookLaws.{key_itself}
use Rattle.db_state.proofs.MoveLaws.{goes_on, moved_core}

-- the session that is there is the one that runs
pub running_at : (state : State) (s : SessionId) (doing : Session) → IsOpen state s → map.get state.sessions s.0 ≡ Some doing → IsRunning state s doing
running_at state s doing runs there =
    let one : Some runs.0 ≡ Some doing = sym runs.1.there ∙ there in
    let same : runs.0 ≡ doing = cc in
    subst (IsRunning state s) same runs.1

-- a stage at which a session holds nothing
pub bare_stage : (stage : Stage) → (stage ≡ start) ⊎ (stage ≡ Answered) → IsBare stage
bare_stage stage (inl e) = subst IsBare (sym e) start_is_bare
bare_stage stage (inr e) = subst IsBare (sym e) end_is_bare

-- the book once a session has given these keys back
given_notes : (stored : Stored) (s : SessionId) (keys : List (Key × Mode)) → record stored { notes = stored.notes ++ gave_by s (has_any keys) } ≡ given_stored stored s keys
given_notes stored s [] = ap (λ (notes : List Note). record stored { notes = notes }) (append-nil stored.notes)
given_notes stored s (k ∷ keys) = refl

-- the key that a session asks for next isn't held by it
pub next_is_free : (state : State) (s : SessionId) (doing : Session) (k : Key × Mode) → IsCore state → map.get state.sessions s.0 ≡ Some doing → next_key doing.stage ≡ Some k → mode_of state.locks s k.0 ≡ None
next_is_free state s doing k core there next = go (mode_of state.locks s k.0) refl
  where
    go : (o : Option Mode) → mode_of state.locks s k.0 ≡ o → o ≡ None
    go None e = refl
    go (Some mode) e = absurd (
        let below = next_is_above state s doing k core there next k.0 mode e in
        let tied : is_eq (key_cmp k.0 k.0) ≡ true = key_itself k.0 in
        let apart : is_eq (key_cmp k.0 k.0) ≡ false = ap is_eq below in
        let bad = sym tied ∙ apart in cc)

module _ (state : State) (top : Key) (room opened holding : ℕ) (inside : IsInside state top room opened holding) (s : SessionId) (doing : Session) where
  -- a session that holds keys is counted
  pub held_counted : map.get state.sessions s.0 ≡ Some doing → one_if (has_any (keys_in doing.stage)) ≤ holding
  held_counted there =
      let still = holders_still state s doing inside.core there (record doing { stage = Answered }) in
      let count = inside.counts.holding in
      omega arith

  -- a key is taken
  pub taken_inside : (k : Key × Mode) (room' : ℕ) → CanTake state s doing k → length state.stored.notes + holding + 2 ≤ room'
      → IsInside (record {
        stored = record state.stored { notes = state.stored.notes ++ Took s k.0 k.1 ∷ [] };
        locks = map.insert state.locks (s.0, k.0) k.1;
        seats = state.seats;
        sessions = with_session state.sessions s (record doing { stage = one_more doing.stage });
      }) top room' opened (holding + one_if (not (has_any (keys_in doing.stage))))
  taken_inside k room' can enough = record {
    core = took_core state s doing k inside.core can;
    top_key = inside.top_key;
    settings = inside.settings;
    counts = counted_take state s doing inside.core can.there room opened holding inside.counts k room' can.next enough;
  }

  -- a lock is met
  pub met_inside : (k : Key × Mode) (h : SessionId) (room' : ℕ) → CanMeet state s doing k h → length state.stored.notes + holding + 1 ≤ room'
      → IsInside (record {
        stored = record state.stored { notes = state.stored.notes ++ Met s (Locked k.0 k.1 h) ∷ [] };
        locks = state.locks;
        seats = state.seats;
        sessions = state.sessions;
      }) top room' opened holding
  met_inside k h room' can enough = record {
    core = met_lock_core state s doing k h inside.core can;
    top_key = inside.top_key;
    settings = inside.settings;
    counts = counted_note state.seats state.sessions state.stored.notes (Met s (Locked k.0 k.1 h)) room room' opened holding inside.counts refl enough;
  }

  -- all is given back
  pub given_inside : (stage : Stage) (locks : Locks) → IsRunning state s doing → IsBare stage → IsGivenBack s state.locks locks
      → IsInside (record {
        stored = record state.stored { notes = state.stored.notes ++ gave_by s (has_any (keys_in doing.stage)) };
        locks = locks;
        seats = state.seats;
        sessions = with_session state.sessions s (record doing { is_first = false; used_hints = false; since = length (state.stored.notes ++ gave_by s (has_any (keys_in doing.stage))); stage = stage });
      }) top room opened (holding - one_if (has_any (keys_in doing.stage)))
  given_inside stage locks runs bare given = record {
    core = given_core state (record {
      stored = record state.stored { notes = state.stored.notes ++ gave_by s (has_any (keys_in doing.stage)) };
      locks = locks;
      seats = state.seats;
      sessions = with_session state.sessions s (record doing { is_first = false; used_hints = false; since = length (state.stored.notes ++ gave_by s (has_any (keys_in doing.stage))); stage = stage });
    }) s doing stage inside.core runs bare (record { stored = given_notes state.stored s (keys_in doing.stage); locks = given; seats = refl; sessions = refl });
    top_key = inside.top_key;
    settings = inside.settings;
    counts = counted_give state s doing inside.core runs.there room opened holding inside.counts (length (state.stored.notes ++ gave_by s (has_any (keys_in doing.stage)))) stage bare.keys;
  }

  -- a change is met
  pub changed_inside : (locks : Locks) (room' : ℕ) → CanChange state s doing false → IsGivenBack s state.locks locks → length state.stored.notes + holding + 1 ≤ room'
      → IsInside (record {
        stored = record state.stored { notes = (state.stored.notes ++ gave_by s (has_any (keys_in doing.stage))) ++ Met s (Changed doing.since) ∷ [] };
        locks = locks;
        seats = state.seats;
        sessions = with_session state.sessions s (record doing { is_first = false; used_hints = false; since = length ((state.stored.notes ++ gave_by s (has_any (keys_in doing.stage))) ++ Met s (Changed doing.since) ∷ []); stage = start });
      }) top room' opened (holding - one_if (has_any (keys_in doing.stage)))
  changed_inside locks room' can given enough =
      let long : ℕ = length ((state.stored.notes ++ gave_by s (has_any (keys_in doing.stage))) ++ Met s (Changed doing.since) ∷ []) in
      record {
        core = changed_core state (record {
          stored = record state.stored { notes = (state.stored.notes ++ gave_by s (has_any (keys_in doing.stage))) ++ Met s (Changed doing.since) ∷ [] };
          locks = locks;
          seats = state.seats;
          sessions = with_session state.sessions s (record doing { is_first = false; used_hints = false; since = long; stage = start });
        }) s doing inside.core can
            (record { stored = ap (λ (stored : Stored). noted stored (Met s (Changed doing.since))) (given_notes state.stored s (keys_in doing.stage)); locks = given; seats = refl; sessions = refl });
        top_key = inside.top_key;
        settings = inside.settings;
        counts = counted_change state s doing inside.core can.runs.there room opened holding inside.counts long room' enough;
      }

  -- the session answers
  pub answered_inside : (reads : Reads) (keys : List (Key × Mode)) (writes : List (Key × Option Row)) (reply : Reply) (locks : Locks) (room' : ℕ) → CanAnswer state s doing reads keys writes reply
      → IsGivenBack s state.locks locks → length state.stored.notes + holding + 1 ≤ room'
      → IsInside (record {
        stored = committed state.stored writes (Did s doing.client doing.number doing.call doing.reads reply ∷ []);
        locks = locks;
        seats = slice_set state.seats doing.client.0 (record (seat_of state.seats doing.client) { answered = doing.number });
        sessions = with_session state.sessions s (record doing { stage = Answered });
      }) top room' opened (holding - one_if (has_any (keys_in doing.stage)))
  answered_inside reads keys writes reply locks room' can given enough = record {
    core = answered_core state (record {
      stored = committed state.stored writes (Did s doing.client doing.number doing.call doing.reads reply ∷ []);
      locks = locks;
      seats = slice_set state.seats doing.client.0 (record (seat_of state.seats doing.client) { answered = doing.number });
      sessions = with_session state.sessions s (record doing { stage = Answered });
    }) s doing reads keys writes reply inside.core can (record { stored = refl; locks = given; seats = refl; sessions = refl });
    top_key = inside.top_key;
    settings = inside.settings;
    counts = counted_answer state s doing inside.core can.there room opened holding inside.counts (Did s doing.client doing.number doing.call doing.reads reply)
        (record (seat_of state.seats doing.client) { answered = doing.number }) room' last refl enough;
  }
    where
      last : (seat_of state.seats doing.client).last ≡ Some s
      last = let seat = inside.core.seats.seated s doing can.there in ap (λ (o : Option Seat). (unwrap_or o empty_seat).last) seat.there ∙ seat.last

  -- ids don't run out
  pub ids_left : (reads : Reads) (keys : List (Key × Mode)) (writes : List (Key × Option Row)) (reply : Reply) → CanAnswer state s doing reads keys writes reply → next_after state.stored.next writes < 2 ^ 64
  ids_left reads keys writes reply can =
      let few : next_after state.stored.next writes ≤ state.stored.next + most_new_ids = can.few in
      let before : state.stored.next ≤ 2 + most_new_ids * sum_by (λ (seat : Seat). seat.answered) state.seats = inside.core.ids in
      let all : sum_by (λ (seat : Seat). seat.answered) state.seats ≤ length state.seats * most_calls = sum_at_most state.seats (all_few state.seats inside.core.seats.numbers) in
      let seats : length state.seats ≡ length state.stored.settings.users = inside.core.seats.each in
      let clients : length state.stored.settings.users ≤ most_clients = inside.settings.clients in
      bounded (next_after state.stored.next writes) state.stored.next (sum_by (λ (seat : Seat). seat.answered) state.seats) (length state.seats) few before all (subst (λ (n : ℕ). n ≤ most_clients) (sym seats) clients)
    where
      bounded : (after next sum count : ℕ) → after ≤ next + 2000 → next ≤ 2 + 2000 * sum → sum ≤ count * 65536 → count ≤ 64 → after < 2 ^ 64
      bounded after next sum count a b c d = omega arith

      all_few : (seats : List Seat) → AllByRecursion (λ (seat : Seat). (seat.answered ≤ seat.begun) × (seat.begun ≤ most_calls)) seats → AllByRecursion (λ (seat : Seat). seat.answered ≤ most_calls) seats
      all_few [] all = tt
      all_few (seat ∷ seats) all = ((let a = all.0.0 in let b = all.0.1 in omega arith), all_few seats all.1)

      sum_at_most : (seats : List Seat) → AllByRecursion (λ (seat : Seat). seat.answered ≤ most_calls) seats → sum_by (λ (seat : Seat). seat.answered) seats ≤ length seats * most_calls
      sum_at_most [] all = omega arith
      sum_at_most (seat ∷ seats) all =
          let rest = sum_at_most seats all.1 in
          let here : seat.answered ≤ most_calls = all.0 in
          let sum = sum_by-cons (λ (seat : Seat). seat.answered) seat seats in
          omega arith

-- ---- a session is opened

-- the seat of a client that may call
seat_at_client : (state : State) (client : ClientNo) (number : ℕ) (call : Call) (node : NodeNo) → IsCore state → CanOpen state client number call node
    → slice_get state.seats client.0 ≡ Some (seat_of state.seats client)
seat_at_client state client number call node core can =
    let within : client.0 < length state.seats = subst (λ (n : ℕ). client.0 < n) (sym core.seats.each) can.client_there in
    slice_get-get_or state.seats client.0 empty_seat within ∙ ap Some (sym (unwrap_or-slice_get state.seats client.0 empty_seat))

module _ (state : State) (top : Key) (room opened holding : ℕ) (inside : IsInside state top room opened holding) (client : ClientNo) (number : ℕ) (call : Call) (node : NodeNo)
    (can : CanOpen state client number call node) where
  -- the call is counted
  pub begun_inside : (room' : ℕ) → room ≤ room'
      → IsInside (record {
        stored = state.stored;
        locks = state.locks;
        seats = slice_set state.seats client.0 (record (seat_of state.seats client) { begun = number });
        sessions = state.sessions;
      }) top room' opened holding
  begun_inside room' more = record {
    core = begun_core state client number call node inside.core can;
    top_key = inside.top_key;
    settings = inside.settings;
    counts = counted_begun state.seats state.sessions state.stored.notes client.0 (seat_of state.seats client) (record (seat_of state.seats client) { begun = number }) room room' opened holding inside.counts (seat_at_client state client number call node inside.core can) refl more;
  }

  -- the session is opened
  pub opened_inside : (room' : ℕ) → length state.stored.notes + holding + 1 ≤ room' → IsInside (opened_by state client number call node) top room' (opened + 1) holding
  opened_inside room' enough = record {
    core = opened_core state client number call node inside.core can;
    top_key = inside.top_key;
    settings = inside.settings;
    counts = counted_open state inside.core room opened holding inside.counts client number call node can room' enough;
  }

-- ---- at the calls

-- the session and the key are those that keep it away
pub kept_at : (state : State) (s h : SessionId) → IsKeptAway state s h → (doing : Session) (k : Key × Mode) → map.get state.sessions s.0 ≡ Some doing → next_key doing.stage ≡ Some k → CanMeet state s doing k h
kept_at state s h kept doing k there next =
    let one : Some kept.0 ≡ Some doing = sym kept.2.there ∙ there in
    let same : kept.0 ≡ doing = cc in
    let two : Some kept.1 ≡ Some k = sym kept.2.next ∙ ap (λ (d : Session). next_key d.stage) same ∙ next in
    let key : kept.1 ≡ k = cc in
    record { there = there; next = next; busy = subst (λ (k' : Key × Mode). IsLeastInTheWay state.locks s k'.0 k'.1 h) key kept.2.busy }

-- the session is the one whose reads are behind
pub behind_at : (state : State) (s : SessionId) (hinted : Bool) → IsBehind state s hinted → (doing : Session) → map.get state.sessions s.0 ≡ Some doing → CanChange state s doing hinted
behind_at state s hinted behind doing there =
    let one : Some behind.0 ≡ Some doing = sym behind.1.runs.there ∙ there in
    let same : behind.0 ≡ doing = cc in
    subst (λ (d : Session). CanChange state s d hinted) same behind.1

-- the session is the one that may answer
pub answer_at : (state : State) (s : SessionId) (writes : List (Key × Option Row)) (reply : Reply) → IsAnswer state s writes reply → (doing : Session) → map.get state.sessions s.0 ≡ Some doing
    → (reads : Reads) × (keys : List (Key × Mode)) × CanAnswer state s doing reads keys writes reply
answer_at state s writes reply answer doing there =
    let one : Some answer.0 ≡ Some doing = sym answer.3.there ∙ there in
    let same : answer.0 ≡ doing = cc in
    (answer.1, answer.2, subst (λ (d : Session). CanAnswer state s d answer.1 answer.2 writes reply) same answer.3)

-- after the locks are given back there is room for one note more
pub room_for_met : (notes : List Note) (s : SessionId) (held : Bool) (holding room : ℕ) → one_if held ≤ holding → length notes + holding + 1 ≤ room
    → length (notes ++ gave_by s held) < room
room_for_met notes s held holding room few enough = let long = length_gave notes s held in omega arith

-- the seat that was found is the client's
pub seat_found : (seats shown : List Seat) (client : ClientNo) (seat : Seat) → shown ≡ seats → slice_get shown client.0 ≡ Some seat → seat ≡ seat_of seats client
seat_found seats shown client seat same there = sym (ap (λ (o : Option Seat). unwrap_or o empty_seat) (ap (λ (xs : List Seat). slice_get xs client.0) (sym same) ∙ there))

-- the client of a session has a seat
pub seat_within : (state : State) (s : SessionId) (doing : Session) → IsCore state → map.get state.sessions s.0 ≡ Some doing → doing.client.0 < length state.seats
seat_within state s doing core there = let seat = core.seats.seated s doing there in slice_get_within state.seats doing.client.0 seat.seat seat.there

-- before anything happened
nobody_holds : (users : List (List ℕ)) → holders (list_map (λ (user : List ℕ). empty_seat) users) map.empty ≡ 0
nobody_holds [] = refl
nobody_holds (user ∷ users) =
    let rest = nobody_holds users in
    let sum = sum_by-cons (λ (seat : Seat). one_if_holding (named_session map.empty seat.last)) empty_seat (list_map (λ (user : List ℕ). empty_seat) users) in
    omega arith

pub opening_inside : (settings : Settings) → IsSettings settings → IsInside (opening_state settings) root_key 0 0 0
opening_inside settings is = record {
  core = opening_core settings;
  top_key = refl;
  settings = is;
  counts = record { opened = refl; holding = sym (nobody_holds settings.users); room = omega arith };
}

-- a client's last session is taken away before or after another is put
pub left_later : (state : State) (client : ClientNo) (number : ℕ) (call : Call) (node : NodeNo) → IsCore state → CanOpen state client number call node → (new : Session)
    → without_last (with_session state.sessions (next_session state) new) (seat_of state.seats client).last ≡ with_session (without_last state.sessions (seat_of state.seats client).last) (next_session state) new
left_later state client number call node core can new = by_last (seat_of state.seats client).last refl
  where
    by_last : (last : Option SessionId) → (seat_of state.seats client).last ≡ last
        → without_last (with_session state.sessions (next_session state) new) last ≡ with_session (without_last state.sessions last) (next_session state) new
    by_last None e = refl
    by_last (Some l) e = map.same_map nat_cmp_total map.nat_cmp-IsAntisymmetric _ _ (λ q.
        get-without (with_session state.sessions (next_session state) new) l (record { 0 = q })
        ∙ ap (cond (q == l.0) None) (get-with state.sessions (next_session state) (record { 0 = q }) new)
        ∙ by_number q (q == l.0) (q == (next_session state).0) refl refl
        ∙ sym (ap (cond (q == (next_session state).0) (Some new)) (get-without state.sessions l (record { 0 = q })))
        ∙ sym (get-with (map.remove state.sessions l.0) (next_session state) (record { 0 = q }) new))
      where
        differ : l.0 ≢ (next_session state).0
        differ same =
            let mine = core.seats.told client (seat_of state.seats client) (seat_at_client state client number call node core can) in
            let there : IsSomeAnd (map.get state.sessions l.0) (λ other. other.client ≡ client) = subst (λ (o : Option SessionId). IfSome o (λ t. IsSomeAnd (map.get state.sessions t.0) (λ other. other.client ≡ client))) e mine.there in
            let none : map.get state.sessions l.0 ≡ None = ap (map.get state.sessions) same ∙ no_session state client number call node core can (map.get state.sessions (next_session state).0) refl in
            subst (λ (o : Option Session). IsSomeAnd o (λ other. other.client ≡ client)) none there

        by_number : (q : ℕ) (a b : Bool) → (q == l.0) ≡ a → (q == (next_session state).0) ≡ b
            → cond a None (cond b (Some new) (map.get state.sessions q)) ≡ cond b (Some new) (cond a None (map.get state.sessions q))
        by_number q false b e' f = refl
        by_number q true false e' f = refl
        by_number q true true e' f = absurd (differ (sym (eqb-true q l.0 e') ∙ eqb-true q (next_session state).0 f))

-- a session that is put as it is changes nothing
put_itself : (sessions : Sessions) (s : SessionId) (doing : Session) → map.get sessions s.0 ≡ Some doing → with_session sessions s doing ≡ sessions
put_itself sessions s doing there = map.same_map nat_cmp_total map.nat_cmp-IsAntisymmetric _ _ (λ q. get-with sessions s (record { 0 = q }) doing ∙ by_test q (q == s.0) refl)
  where
    by_test : (q : ℕ) (b : Bool) → (q == s.0) ≡ b → cond b (Some doing) (map.get sessions q) ≡ map.get sessions q
    by_test q true is = sym (ap (map.get sessions) (eqb-true q s.0 is) ∙ there)
    by_test q false is = refl

-- a session has gone on, or stays as it is
pub moved_inside : (state : State) (top : Key) (room opened holding : ℕ) → IsInside state top room opened holding → (s : SessionId) (doing new : Session) → map.get state.sessions s.0 ≡ Some doing
    → (new ≡ doing) ⊎ CanMove state s doing new → IsInside (moved_by state s new) top room opened holding
moved_inside state top room opened holding inside s doing new there (inl same) =
    let still : state ≡ moved_by state s new = λ i. record state { sessions = sym (ap (with_session state.sessions s) same ∙ put_itself state.sessions s doing there) i } in
    subst (λ (st : State). IsInside st top room opened holding) still inside
moved_inside state top room opened holding inside s doing new there (inr can) = record {
  core = moved_core state s doing new inside.core can;
  top_key = inside.top_key;
  settings = inside.settings;
  counts = record {
    opened = inside.counts.opened;
    holding =
        let still = holders_still state s doing inside.core there new in
        let keys : one_if (has_any (keys_in new.stage)) ≡ one_if (has_any (keys_in doing.stage)) = ap (λ (keys : List (Key × Mode)). one_if (has_any keys)) (goes_on state.stored.inodes doing.stage new.stage can.goes).0 in
        let was = inside.counts.holding in
        omega arith;
    room = inside.counts.room;
  };
}
