-- What is counted beside all that is seen, once one thing more has happened.
use Rattle.std.proofs.Common.{◌≡◌, ◌≢◌, ℕ, ◌+◌, ◌-◌, ◌≤◌, zero, suc, true, false, ◌==◌, cond, if◌then◌else◌, take, List, [], ◌∷◌, ◌++◌, length, slice_get, slice_set, Option, Some, None, is_some, IfSome, arith, refl, sym, ap, subst, ◌∙◌, Bool, ◌<◌, eq-eqb, not}
use Rattle.std.proofs.lemmas.List.{length-append, append-nil}
use Rattle.std.specs.Option.{IsSomeAnd}
use Rattle.std.proofs.lemmas.List.Sums.{sum_by-append}
use Rattle.std.specs.FinMap as map
use Rattle.hops_base.specs.declared.ids.ClientNo.{ClientNo}
use Rattle.hops_base.specs.declared.ids.SessionId.{SessionId}
use Rattle.commit_log.specs.declared.note.Note.{Note}
use Rattle.commit_log.specs.declared.note.Note.TheVariants.{Took, Gave, Met, Open}
use Rattle.hops_base.specs.declared.key.Key.{Key}
use Rattle.hops_base.specs.declared.ids.Mode.{Mode}
use Rattle.commit_log.specs.Parts.{opened}
use Rattle.commit_log.specs.Orderly.{openings}
use Rattle.db_state.specs.declared.session.Seat.{Seat}
use Rattle.db_state.specs.declared.session.Session.{Session}
use Rattle.db_state.specs.State.{State, Sessions, empty_seat}
use Rattle.db_state.specs.declared.session.Stage.{Stage}
use Rattle.db_state.specs.declared.session.Stage.TheVariants.{Resolve, Lock, Read, Reread, Commit, Answered}
use Rattle.db_state.proofs.BookTellLaws.{length-push}
use Rattle.db_state.specs.Core.{IsCore}
use Rattle.db_state.specs.Inside.{has_any, one_if, one_if_holding, holders, gave_by, IsCounted, named_session}
use Rattle.db_state.specs.Stages.{keys_in, next_key, is_over}
use Rattle.db_state.specs.Steps.{with_session, one_more, start, seat_of, next_session, new_session, without_last, opened_by, CanOpen}
use Rattle.db_state.proofs.HoldingLemmas.{holders_moved, set_itself, sum_moved}
use Rattle.commit_log.specs.declared.note.Cause.TheVariants.{Changed}
use Rattle.std.proofs.lemmas.Bool.{ne_eqb}
use Rattle.std.proofs.lemmas.Option.{slice_get-get_or, unwrap_or-slice_get}
use Rattle.hops_base.specs.declared.ids.NodeNo.{NodeNo}
use Rattle.name_space.specs.declared.call.Call.{Call}
use Rattle.db_state.proofs.SessionMapLaws.{get-with, get-without}
use Rattle.db_state.proofs.OpenLaws.{no_session}

-- one more note opens a session, or none
pub openings-push : (notes : List Note) (note : Note) → openings (notes ++ note ∷ []) ≡ openings notes + openings (note ∷ [])
openings-push notes note = sum_by-append (λ (n : Note). cond (is_some (opened n)) 1 0) notes (note ∷ [])

module _ (old : State) (s : SessionId) (doing : Session) (core : IsCore old) (there : map.get old.sessions s.0 ≡ Some doing) where
  -- nobody else's last session is this one
  others : (j : ℕ) (z : Seat) → j ≢ doing.client.0 → slice_get old.seats j ≡ Some z → z.last ≢ Some s
  others j z apart e same =
      let told = core.seats.told (record { 0 = j }) z e in
      apart (by_last (z.last) same told.there)
    where
      by_there : (o : Option Session) → o ≡ Some doing → IsSomeAnd o (λ other. other.client ≡ record { 0 = j }) → j ≡ doing.client.0
      by_there None e' is = absurd (let bad = e' in cc)
      by_there (Some other) e' is = let same : other ≡ doing = cc in sym (ap (λ (c : ClientNo). c.0) (ap (λ (d : Session). d.client) (sym same) ∙ is))

      by_last : (last : Option SessionId) → last ≡ Some s → IfSome last (λ t. IsSomeAnd (map.get old.sessions t.0) (λ other. other.client ≡ record { 0 = j })) → j ≡ doing.client.0
      by_last None e' is = absurd (let bad = e' in cc)
      by_last (Some t) e' is = by_there (map.get old.sessions t.0) (let ids : t ≡ s = cc in ap (λ (u : SessionId). map.get old.sessions u.0) ids ∙ there) is

  -- the session is put as another, and its seat may be another that is its own
  pub holders_with : (y : Seat) (new : Session) → y.last ≡ Some s
      → holders (slice_set old.seats doing.client.0 y) (with_session old.sessions s new) + one_if (has_any (keys_in doing.stage)) ≡ holders old.seats old.sessions + one_if (has_any (keys_in new.stage))
  holders_with y new last =
      let seat = core.seats.seated s doing there in
      ap (λ (o : Option Session). holders (slice_set old.seats doing.client.0 y) (with_session old.sessions s new) + one_if_holding o) (sym there)
      ∙ holders_moved old.seats old.sessions doing.client.0 seat.seat y s new seat.there seat.last last others

  -- the seats stay
  pub holders_still : (new : Session) → holders old.seats (with_session old.sessions s new) + one_if (has_any (keys_in doing.stage)) ≡ holders old.seats old.sessions + one_if (has_any (keys_in new.stage))
  holders_still new =
      let seat = core.seats.seated s doing there in
      ap (λ (seats : List Seat). holders seats (with_session old.sessions s new) + one_if (has_any (keys_in doing.stage))) (sym (set_itself old.seats doing.client.0 seat.seat seat.there))
      ∙ holders_with seat.seat new seat.last

-- ---- what is left of a session's keys

pub at_most_one : (b : Bool) → one_if b ≤ 1
at_most_one true = omega arith
at_most_one false = omega arith

one_or_other : (b : Bool) → one_if (not b) + one_if b ≡ 1
one_or_other true = refl
one_or_other false = refl

some_taken : (keys : List (Key × Mode)) (taken : ℕ) (k : Key × Mode) → slice_get keys taken ≡ Some k → has_any (take (taken + 1) keys) ≡ true
some_taken keys taken k e = by_suc (taken + 1) keys (omega arith) e
  where
    by_suc : (n : ℕ) (ks : List (Key × Mode)) → n ≡ suc taken → slice_get ks taken ≡ Some k → has_any (take n ks) ≡ true
    by_suc n [] is e' = absurd (let bad = e' in cc)
    by_suc zero (x ∷ ks) is e' = absurd (omega arith)
    by_suc (suc n) (x ∷ ks) is e' = refl

some_planned : (keys : List (Key × Mode)) (taken : ℕ) (k : Key × Mode) → slice_get keys taken ≡ Some k → has_any keys ≡ true
some_planned [] taken k e = absurd (let bad = e in cc)
some_planned (x ∷ keys) taken k e = refl

-- a session that has taken a key holds one
one_more_holds : (stage : Stage) (k : Key × Mode) → next_key stage ≡ Some k → has_any (keys_in (one_more stage)) ≡ true
one_more_holds (Resolve places found) k e = absurd (let bad = e in cc)
one_more_holds (Lock places keys taken) k e =
    elim (taken + 1 == length keys) as (λ b. has_any (keys_in (if b then Read places keys else Lock places keys (taken + 1))) ≡ true) [
      | true ↦ some_planned keys taken k e
      | false ↦ some_taken keys taken k e
    ]
one_more_holds (Read places keys) k e = absurd (let bad = e in cc)
one_more_holds (Reread reads keys) k e = absurd (let bad = e in cc)
one_more_holds (Commit reads keys) k e = absurd (let bad = e in cc)
one_more_holds Answered k e = absurd (let bad = e in cc)

-- ---- the counts

pub length_gave : (notes : List Note) (s : SessionId) (held : Bool) → length (notes ++ gave_by s held) ≡ length notes + one_if held
length_gave notes s held = length-append notes (gave_by s held) ∙ ap (λ (n : ℕ). length notes + n) (by_test held)
  where
    by_test : (b : Bool) → length (gave_by s b) ≡ one_if b
    by_test true = refl
    by_test false = refl

openings_gave : (notes : List Note) (s : SessionId) (held : Bool) → openings (notes ++ gave_by s held) ≡ openings notes
openings_gave notes s true = let more = openings-push notes (Gave s) in omega arith
openings_gave notes s false = ap openings (append-nil notes)

-- one note more that opens nothing
pub counted_note : (seats : List Seat) (sessions : Sessions) (notes : List Note) (note : Note) (room room' opened holding : ℕ) → IsCounted seats sessions notes room opened holding
    → openings (note ∷ []) ≡ 0 → length notes + holding + 1 ≤ room' → IsCounted seats sessions (notes ++ note ∷ []) room' opened holding
counted_note seats sessions notes note room room' opened holding counted none enough =
    let more = openings-push notes note in
    let long = length-push notes note in
    record { opened = (let a = counted.opened in omega arith); holding = counted.holding; room = omega arith }

module _ (old : State) (s : SessionId) (doing : Session) (core : IsCore old) (there : map.get old.sessions s.0 ≡ Some doing) (room opened holding : ℕ)
    (counted : IsCounted old.seats old.sessions old.stored.notes room opened holding) where
  -- a key is taken
  pub counted_take : (k : Key × Mode) (room' : ℕ) → next_key doing.stage ≡ Some k → length old.stored.notes + holding + 2 ≤ room'
      → IsCounted old.seats (with_session old.sessions s (record doing { stage = one_more doing.stage })) (old.stored.notes ++ Took s k.0 k.1 ∷ []) room' opened (holding + one_if (not (has_any (keys_in doing.stage))))
  counted_take k room' next enough =
      let more = openings-push old.stored.notes (Took s k.0 k.1) in
      let long = length-push old.stored.notes (Took s k.0 k.1) in
      let still = holders_still old s doing core there (record doing { stage = one_more doing.stage }) in
      let one = ap one_if (one_more_holds doing.stage k next) in
      let other = one_or_other (has_any (keys_in doing.stage)) in
      let few = at_most_one (has_any (keys_in doing.stage)) in
      let was = counted.holding in
      record { opened = (let a = counted.opened in omega arith); holding = omega arith; room = omega arith }

  -- all is given back
  pub counted_give : (since : ℕ) (stage : Stage) → keys_in stage ≡ []
      → IsCounted old.seats (with_session old.sessions s (record doing { is_first = false; used_hints = false; since = since; stage = stage })) (old.stored.notes ++ gave_by s (has_any (keys_in doing.stage))) room opened
      (holding - one_if (has_any (keys_in doing.stage)))
  counted_give since stage bare =
      let more = openings_gave old.stored.notes s (has_any (keys_in doing.stage)) in
      let few = at_most_one (has_any (keys_in doing.stage)) in
      let long = length_gave old.stored.notes s (has_any (keys_in doing.stage)) in
      let still = holders_still old s doing core there (record doing { is_first = false; used_hints = false; since = since; stage = stage }) in
      let none : one_if (has_any (keys_in stage)) ≡ 0 = ap (λ (keys : List (Key × Mode)). one_if (has_any keys)) bare in
      let was = counted.holding in
      let a = counted.opened in
      let b = counted.room in
      record { opened = omega arith; holding = omega arith; room = omega arith }

  -- the session answers
  pub counted_answer : (note : Note) (y : Seat) (room' : ℕ) → y.last ≡ Some s → openings (note ∷ []) ≡ 0 → length old.stored.notes + holding + 1 ≤ room'
      → IsCounted (slice_set old.seats doing.client.0 y) (with_session old.sessions s (record doing { stage = Answered })) (old.stored.notes ++ note ∷ []) room' opened (holding - one_if (has_any (keys_in doing.stage)))
  counted_answer note y room' last none enough =
      let more = openings-push old.stored.notes note in
      let long = length-push old.stored.notes note in
      let few = at_most_one (has_any (keys_in doing.stage)) in
      let moved = holders_with old s doing core there y (record doing { stage = Answered }) last in
      let was = counted.holding in
      let a = counted.opened in
      record { opened = omega arith; holding = omega arith; room = omega arith }

  -- all is given back, and a change is met
  pub counted_change : (since : ℕ) (room' : ℕ) → length old.stored.notes + holding + 1 ≤ room'
      → IsCounted old.seats (with_session old.sessions s (record doing { is_first = false; used_hints = false; since = since; stage = start })) ((old.stored.notes ++ gave_by s (has_any (keys_in doing.stage))) ++ Met s (Changed doing.since) ∷ []) room' opened
      (holding - one_if (has_any (keys_in doing.stage)))
  counted_change since room' enough =
      let gave = openings_gave old.stored.notes s (has_any (keys_in doing.stage)) in
      let more = openings-push (old.stored.notes ++ gave_by s (has_any (keys_in doing.stage))) (Met s (Changed doing.since)) in
      let few = at_most_one (has_any (keys_in doing.stage)) in
      let long = length_gave old.stored.notes s (has_any (keys_in doing.stage)) in
      let longer = length-push (old.stored.notes ++ gave_by s (has_any (keys_in doing.stage))) (Met s (Changed doing.since)) in
      let still = holders_still old s doing core there (record doing { is_first = false; used_hints = false; since = since; stage = start }) in
      let was = counted.holding in
      let a = counted.opened in
      record { opened = omega arith; holding = omega arith; room = omega arith }

-- a seat that keeps its last session is set
pub counted_begun : (seats : List Seat) (sessions : Sessions) (notes : List Note) (i : ℕ) (x y : Seat) (room room' opened holding : ℕ) → IsCounted seats sessions notes room opened holding
    → slice_get seats i ≡ Some x → y.last ≡ x.last → room ≤ room' → IsCounted (slice_set seats i y) sessions notes room' opened holding
counted_begun seats sessions notes i x y room room' opened holding counted there last more =
    let f : Seat → ℕ = λ seat. one_if_holding (named_session sessions seat.last) in
    let moved = sum_moved f f seats i x y there (λ j z apart e. refl) in
    let same : f y ≡ f x = ap (λ (o : Option SessionId). one_if_holding (named_session sessions o)) last in
    let was = counted.holding in
    let enough = counted.room in
    record { opened = counted.opened; holding = omega arith; room = omega arith }

-- ---- a session is opened

over_holds_none : (o : Option Session) → IfSome o (λ last. is_over last.stage ≡ true) → one_if_holding o ≡ 0
over_holds_none None over = refl
over_holds_none (Some doing) over = by_stage doing.stage over
  where
    by_stage : (stage : Stage) → is_over stage ≡ true → one_if (has_any (keys_in stage)) ≡ 0
    by_stage (Resolve places found) is = refl
    by_stage (Lock places keys taken) is = absurd (let bad = is in cc)
    by_stage (Read places keys) is = absurd (let bad = is in cc)
    by_stage (Reread reads keys) is = absurd (let bad = is in cc)
    by_stage (Commit reads keys) is = absurd (let bad = is in cc)
    by_stage Answered is = refl

-- a client's last session that isn't open holds nothing
last_holds_none : (sessions : Sessions) (last : Option SessionId) → IfSome last (λ t. IfSome (map.get sessions t.0) (λ doing. is_over doing.stage ≡ true)) → one_if_holding (named_session sessions last) ≡ 0
last_holds_none sessions None idle = refl
last_holds_none sessions (Some t) idle = over_holds_none (map.get sessions t.0) idle

module _ (old : State) (core : IsCore old) (room opened holding : ℕ) (counted : IsCounted old.seats old.sessions old.stored.notes room opened holding)
    (client : ClientNo) (number : ℕ) (call : Call) (node : NodeNo) (can : CanOpen old client number call node) where
  abbrev was : Seat
  was = seat_of old.seats client

  abbrev now : Seat
  now = record (seat_of old.seats client) { begun = number; last = Some (next_session old) }

  was_there : slice_get old.seats client.0 ≡ Some was
  was_there =
      let within : client.0 < length old.seats = subst (λ (n : ℕ). client.0 < n) (sym core.seats.each) can.client_there in
      slice_get-get_or old.seats client.0 empty_seat within ∙ ap Some (sym (unwrap_or-slice_get old.seats client.0 empty_seat))

  -- no session has the new number
  not_new : (t : SessionId) (other : Session) → map.get old.sessions t.0 ≡ Some other → t.0 ≢ (next_session old).0
  not_new t other is same =
      let none : Some other ≡ None = no_session old client number call node core can (Some other) (ap (map.get old.sessions) (sym same) ∙ is) in
      let bad = none in cc

  -- the last sessions of the other clients are what they were
  other_still : (z : Seat) (j : ℕ) → j ≢ client.0 → slice_get old.seats j ≡ Some z
      → named_session (opened_by old client number call node).sessions z.last ≡ named_session old.sessions z.last
  other_still z j apart e = by_last z.last (core.seats.told (record { 0 = j }) z e).there
    where
      by_last : (last : Option SessionId) → IfSome last (λ t. IsSomeAnd (map.get old.sessions t.0) (λ other. other.client ≡ record { 0 = j }))
          → named_session (opened_by old client number call node).sessions last ≡ named_session old.sessions last
      by_last None there = refl
      by_last (Some t) there = by_there (map.get old.sessions t.0) refl there
        where
          by_there : (o : Option Session) → map.get old.sessions t.0 ≡ o → IsSomeAnd o (λ other. other.client ≡ record { 0 = j })
              → map.get (opened_by old client number call node).sessions t.0 ≡ map.get old.sessions t.0
          by_there None is of = absurd of
          by_there (Some other) is of =
              get-with (without_last old.sessions was.last) (next_session old) t (new_session client number call node (length old.stored.notes))
              ∙ ap (λ (b : Bool). cond b (Some (new_session client number call node (length old.stored.notes))) (map.get (without_last old.sessions was.last) t.0)) (ne_eqb t.0 (next_session old).0 (not_new t other is))
              ∙ left_of was.last refl
            where
              left_of : (last : Option SessionId) → was.last ≡ last → map.get (without_last old.sessions last) t.0 ≡ map.get old.sessions t.0
              left_of None e' = refl
              left_of (Some l) e' = get-without old.sessions l t ∙ ap (λ (b : Bool). cond b None (map.get old.sessions t.0)) (ne_eqb t.0 l.0 (λ same.
                  let mine = core.seats.told client was was_there in
                  let of_last : IsSomeAnd (map.get old.sessions l.0) (λ other. other.client ≡ client) = subst (λ (o : Option SessionId). IfSome o (λ t. IsSomeAnd (map.get old.sessions t.0) (λ other. other.client ≡ client))) e' mine.there in
                  let of_t : IsSomeAnd (map.get old.sessions t.0) (λ other. other.client ≡ client) = subst (λ (n : ℕ). IsSomeAnd (map.get old.sessions n) (λ other. other.client ≡ client)) (sym same) of_last in
                  let one : other.client ≡ client = subst (λ (o : Option Session). IsSomeAnd o (λ other. other.client ≡ client)) is of_t in
                  apart (ap (λ (c : ClientNo). c.0) (sym of ∙ one))))

  pub counted_open : (room' : ℕ) → length old.stored.notes + holding + 1 ≤ room'
      → IsCounted (opened_by old client number call node).seats (opened_by old client number call node).sessions (old.stored.notes ++ Open (next_session old) client number node ∷ []) room' (opened + 1) holding
  counted_open room' enough =
      let f : Seat → ℕ = λ seat. one_if_holding (named_session old.sessions seat.last) in
      let g : Seat → ℕ = λ seat. one_if_holding (named_session (opened_by old client number call node).sessions seat.last) in
      let moved = sum_moved f g old.seats client.0 was now was_there (λ j z apart e. ap one_if_holding (other_still z j apart e)) in
      let before : f was ≡ 0 = last_holds_none old.sessions was.last can.idle in
      let after : g now ≡ 0 = ap one_if_holding (get-with (without_last old.sessions was.last) (next_session old) (next_session old) (new_session client number call node (length old.stored.notes))
      ∙ ap (λ (b : Bool). cond b (Some (new_session client number call node (length old.stored.notes))) (map.get (without_last old.sessions was.last) (next_session old).0)) (eq-eqb (next_session old).0 (next_session old).0 refl)) in
      let more = openings-push old.stored.notes (Open (next_session old) client number node) in
      let long = length-push old.stored.notes (Open (next_session old) client number node) in
      let was_count = counted.holding in
      let a = counted.opened in
      record { opened = omega arith; holding = omega arith; room = omega arith }
