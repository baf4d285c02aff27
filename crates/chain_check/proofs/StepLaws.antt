-- Laws of a session that reads the next row again.
use Rattle.std.proofs.Common.{◌≡◌, ◌≢◌, ℕ, ◌<◌, ◌≤◌, zero, suc, Bool, true, false, nat_lt, if◌then◌else◌, List, [], ◌∷◌, length, set, slice_get, Option, Some, None, is_some, arith, refl, sym, ap, subst, ◌∙◌, inl, inr}
use Rattle.hops_base.specs.Devices.{counted_on}
use Rattle.hops_base.specs.declared.ids.Mode.{Mode}
use Rattle.hops_base.specs.declared.ids.SessionId.{SessionId}
use Rattle.hops_base.specs.declared.key.Key.{Key}
use Rattle.inode_table.specs.declared.inode.Inode.{Inode}
use Rattle.row_locks.specs.Plans.{planned_mode}
use Rattle.db_state.specs.declared.session.Position.{Position}
use Rattle.db_state.specs.declared.session.Session.{Session}
use Rattle.db_state.specs.declared.session.Stage.{Stage}
use Rattle.db_state.specs.declared.session.Stage.TheVariants.{Reread, Commit}
use Rattle.db_state.specs.declared.view.Place.{Place}
use Rattle.db_state.specs.Core.{IsCore}
use Rattle.db_state.specs.Current.{is_locked}
use Rattle.db_state.specs.Moves.{AreLowered, GoesOn, IsTrail, RereadsOne, left_in, left_of_all, since_after, reads_after, read_in}
use Rattle.db_state.specs.Plan.{plan}
use Rattle.db_state.specs.Reads.{Reads, AllStand, IsChain}
use Rattle.db_state.specs.ReadSteps.{IsFoundAgain}
use Rattle.db_state.specs.Holding.{StandsIn}
use Rattle.db_state.specs.SessionParts.{asked_in, AreQuotasSeen, IsPlanned, IsStillFound}
use Rattle.db_state.specs.Stages.{keys_in, position_of, with_position}
use Rattle.db_state.specs.State.{State}
use Rattle.db_state.specs.Steps.{moved_by, CanMove, IsRunning}
use Rattle.db_state.proofs.MoveLaws.{holds_by_stage}
use Rattle.db_state.proofs.SeatLaws.{not_below}
use Rattle.chain_check.specs.declared.passing.Passed.{Passed}
use Rattle.chain_check.specs.declared.reread.Reread as answer
use Rattle.chain_check.specs.declared.row.Halt.{Halt}
use Rattle.chain_check.specs.declared.row.Halt.TheVariants as halt
use Rattle.chain_check.specs.declared.search.Spot.{Spot}
use Rattle.chain_check.specs.Passing.{lowest, lowered_to, stage_past, told_of, told_past, HasSome, IsHalt, IsPassed, IsPast}
use Rattle.chain_check.specs.Rereading.{HasLeft, IsRereadStep}
use Rattle.chain_check.specs.Rows.{IsPlain}
use Rattle.chain_check.specs.Search.{is_held, AreMarked, IsNext, IsNextAt, LeavesAny, LeavesNone}
use Rattle.chain_check.proofs.SpotLaws.{order, get_set_same, get_set_other}
use Rattle.chain_check.proofs.LeftLaws.{some_at, planned_locked, none_left, next_left, left_lowest}
use Rattle.chain_check.proofs.StandLaws.{marked_by, lowered_set, lowered_lowest, all_lowest, stand_past, stand_lowest}
use Rattle.chain_check.proofs.CountLaws.{all_at, has_read, since_stays}

-- marks that one of is lowered to a row are marks still
marked_past : (marks : List ℕ) (places : List Place) (spot : Spot) (place : Place) (mark : ℕ) → slice_get places spot.place ≡ Some place → slice_get marks spot.place ≡ Some mark
    → spot.row ≤ length place.found.items → AreMarked marks places → AreMarked (set marks spot.place spot.row) places
marked_past marks places spot place mark placed at low marked i p is = elim (order i spot.place) [
  | inl h ↦ other (λ same. absurd (omega arith))
  | inr h ↦ elim h [
    | inl same ↦
        (let places_same : Some place ≡ Some p = sym placed ∙ ap (slice_get places) (sym same) ∙ is in
        let one : place ≡ p = cc in
        (spot.row, ap (slice_get (set marks spot.place spot.row)) same ∙ get_set_same marks spot.place mark spot.row at, subst (λ (q : Place). spot.row ≤ length q.found.items) one low))
    | inr g ↦ other (λ same. absurd (omega arith))
  ]
]
  where
    other : i ≢ spot.place → (m : ℕ) × (slice_get (set marks spot.place spot.row) i ≡ Some m) × (m ≤ length p.found.items)
    other apart = let here = marked i p is in (here.0, get_set_other marks spot.place i spot.row apart ∙ here.1, here.2)

module _ (state : State) (s : SessionId) (doing : Session) (reads : Reads) (keys : List (Key × Mode)) (core : IsCore state) (runs : IsRunning state s doing) (stage : doing.stage ≡ Reread reads keys) where
  reading : IsPlanned doing.client doing.call reads.places keys × StandsIn state.stored s (asked_in doing) reads × AreQuotasSeen keys reads
  reading = rw stage at (core.reads s doing runs.there)

  holds : (at : Key) → is_held state.locks s at ≡ is_locked keys at
  holds at = ap is_some (holds_by_stage state s doing core runs.there at ∙ ap (λ (st : Stage). planned_mode (keys_in st) at) stage) ∙ planned_locked keys at

  holds_locked : (at : Key) → is_held state.locks s at ≡ is_locked (plan doing.client doing.call reads.places) at
  holds_locked at = holds at ∙ sym (reading.0.of.any at)

  pub marked : AreMarked reads.marks reads.places
  marked = marked_by state.stored.inodes (plan doing.client doing.call reads.places) reads.marks reads.places reading.1.stand.chains

  pub has_some : left_in keys reads ≢ [] → HasSome state.locks s reads.marks reads.places
  has_some some none = some (none_left state.locks s keys holds reads.marks reads.places marked none)

  -- ---- the session that has passed a row

  module _ (spot : Spot) (at : IsNextAt state.locks s reads.marks reads.places 0 spot) where
    left_past : left_in keys reads ≡ at.next.row ∷ left_of_all keys (set reads.marks spot.place spot.row) reads.places
    left_past = next_left state.locks s keys holds reads.marks reads.places marked spot at

    long : spot.row < length at.place.found.items
    long = let here = marked spot.place at.place at.placed in
        let same : Some here.0 ≡ Some at.mark = sym here.1 ∙ at.marked in
        let one : here.0 ≡ at.mark = cc in
        let fits : here.0 ≤ length at.place.found.items = here.2 in
        let high : spot.row < at.mark = at.next.high in
        omega arith

    marked_then : AreMarked (set reads.marks spot.place spot.row) reads.places
    marked_then = marked_past reads.marks reads.places spot at.place at.mark at.placed at.marked (let h = long in omega arith) marked

    read_some : 1 ≤ read_in (Reread reads keys)
    read_some =
        let low : 1 ≤ spot.row = at.next.low in
        let h = long in
        let second = some_at at.place.found.items 1 (omega arith) in
        let chain = all_at (IsChain (plan doing.client doing.call reads.places) None) reads.places spot.place at.place reading.1.reads.chains at.placed in
        has_read reads keys (plan doing.client doing.call reads.places) None spot.place at.place at.placed chain second.0 second.1

    module _ (plain : IsPlain state.stored.inodes at.next.row) where
      again : IsFoundAgain state.stored.inodes at.next.row
      again = plain.again

      stand_then : AllStand state.stored.inodes (plan doing.client doing.call reads.places) (set reads.marks spot.place spot.row) reads.places
      stand_then = stand_past state.stored.inodes state.locks s (plan doing.client doing.call reads.places) holds_locked reads.marks reads.places spot at again reading.1.stand.chains

      -- the session stands with other marks
      stands_with : (marks : List ℕ) → AllStand state.stored.inodes (plan doing.client doing.call reads.places) marks reads.places
          → StandsIn state.stored s (asked_in doing) (record reads { marks = marks })
      stands_with marks all = record {
        reads = record { places = reading.1.reads.places; chains = reading.1.reads.chains };
        holds = reading.1.holds;
        stand = record { chains = all; quotas = reading.1.stand.quotas };
      }

      one : (marks : List ℕ) → left_of_all keys marks reads.places ≡ left_of_all keys (set reads.marks spot.place spot.row) reads.places → AreLowered reads.marks marks
          → RereadsOne state.stored.inodes keys reads (record reads { marks = marks })
      one marks same low = record { row = at.next.row; left = left_past ∙ ap (λ l. at.next.row ∷ l) (sym same); found = again; places = refl; quotas = refl; marks = low }

      low_then : AreLowered reads.marks (set reads.marks spot.place spot.row)
      low_then = lowered_set reads.marks spot.place at.mark spot.row at.marked (let high : spot.row < at.mark = at.next.high in omega arith)

      -- what is counted of its reads stays
      counts : (st : Stage) → read_in st ≡ read_in (Reread reads keys)
          → record doing { stage = st } ≡ record doing { since = since_after doing.stage doing.since (length state.stored.notes); reads = reads_after doing.stage st doing.reads; trail = doing.trail; stage = st }
      counts st count =
          let since : doing.since ≡ since_after doing.stage doing.since (length state.stored.notes) =
          sym (ap (λ (x : Stage). since_after x doing.since (length state.stored.notes)) stage ∙ since_stays reads keys doing.since (length state.stored.notes) read_some) in
          let none : nat_lt (read_in (Reread reads keys)) (read_in st) ≡ false = ap (nat_lt (read_in (Reread reads keys))) count ∙ not_below (read_in (Reread reads keys)) in
          let times : doing.reads ≡ reads_after doing.stage st doing.reads =
          sym (ap (λ (x : Stage). reads_after x st doing.reads) stage ∙ ap (λ (b : Bool). if b then counted_on doing.reads else doing.reads) none) in
          λ i. record doing { since = since i; reads = times i; stage = st }

      -- it reads on
      more : left_of_all keys (set reads.marks spot.place spot.row) reads.places ≢ [] → CanMove state s doing (record doing { stage = Reread (lowered_to reads spot) keys })
      more some = record {
        runs = runs;
        goes = subst (λ (x : Stage). GoesOn state.stored.inodes x (Reread (lowered_to reads spot) keys)) (sym stage) (one (set reads.marks spot.place spot.row) refl low_then, some, refl);
        same = counts (Reread (lowered_to reads spot) keys) refl;
        trail = subst (λ (x : Stage). IsTrail x (Reread (lowered_to reads spot) keys) doing.trail.items doing.trail.items) (sym stage) refl;
        reading = (reading.0, stands_with (set reads.marks spot.place spot.row) stand_then, reading.2);
        found = λ quiet. subst (IsStillFound state.stored.inodes) stage (core.found s doing runs.there quiet);
      }

      -- or comes to answer
      last : LeavesNone state.locks s (set reads.marks spot.place spot.row) reads.places 0 (length reads.places)
          → CanMove state s doing (record doing { stage = Commit (record reads { marks = lowest (set reads.marks spot.place spot.row) }) keys })
      last none =
          let empty : left_of_all keys (lowest (set reads.marks spot.place spot.row)) reads.places ≡ [] = left_lowest keys (set reads.marks spot.place spot.row) reads.places in
          let was : left_of_all keys (set reads.marks spot.place spot.row) reads.places ≡ [] = none_left state.locks s keys holds (set reads.marks spot.place spot.row) reads.places marked_then none in
          record {
            runs = runs;
            goes = subst (λ (x : Stage). GoesOn state.stored.inodes x (Commit (record reads { marks = lowest (set reads.marks spot.place spot.row) }) keys)) (sym stage)
                (one (lowest (set reads.marks spot.place spot.row)) (empty ∙ sym was) (lowered_lowest reads.marks (set reads.marks spot.place spot.row) low_then), empty, refl);
            same = counts (Commit (record reads { marks = lowest (set reads.marks spot.place spot.row) }) keys) refl;
            trail = subst (λ (x : Stage). IsTrail x (Commit (record reads { marks = lowest (set reads.marks spot.place spot.row) }) keys) doing.trail.items doing.trail.items) (sym stage) refl;
            reading = (
              reading.0,
              stands_with (lowest (set reads.marks spot.place spot.row))
                  (stand_lowest state.stored.inodes state.locks s (plan doing.client doing.call reads.places) holds_locked (set reads.marks spot.place spot.row) reads.places none stand_then),
              reading.2,
              all_lowest (set reads.marks spot.place spot.row),
            );
            found = λ quiet. subst (IsStillFound state.stored.inodes) stage (core.found s doing runs.there quiet);
          }

      -- so it goes on, as it is told
      goes_to : (any : Bool) → LeavesAny state.locks s reads.marks reads.places spot any
          → CanMove state s doing (record doing { stage = stage_past reads keys spot any })
          × IsRereadStep state s doing reads keys (told_past any) (moved_by state s (record doing { stage = stage_past reads keys spot any }))
      unfolding one again
      goes_to any after = go any after.0 after.1 after.2
        where
          go : (any : Bool) (next : Option Spot) → any ≡ is_some next → IsNext state.locks s (set reads.marks spot.place spot.row) reads.places 0 next
              → CanMove state s doing (record doing { stage = stage_past reads keys spot any })
              × IsRereadStep state s doing reads keys (told_past any) (moved_by state s (record doing { stage = stage_past reads keys spot any }))
          go true None is next = absurd (let bad = is in cc)
          go false (Some later) is next = absurd (let bad = is in cc)
          go true (Some later) is next =
              let left = next_left state.locks s keys holds (set reads.marks spot.place spot.row) reads.places marked_then later next in
              let some : left_of_all keys (set reads.marks spot.place spot.row) reads.places ≢ [] = λ none. (let bad = sym left ∙ none in cc) in
              (more some, (lowered_to reads spot, some, record { one = one (set reads.marks spot.place spot.row) refl low_then; plain = plain.none; moved = refl }))
          go false None is next =
              let empty : left_of_all keys (lowest (set reads.marks spot.place spot.row)) reads.places ≡ [] = left_lowest keys (set reads.marks spot.place spot.row) reads.places in
              let was : left_of_all keys (set reads.marks spot.place spot.row) reads.places ≡ [] = none_left state.locks s keys holds (set reads.marks spot.place spot.row) reads.places marked_then next in (
                last next,
                (
                  record reads { marks = lowest (set reads.marks spot.place spot.row) },
                  empty,
                  record {
                    one = one (lowest (set reads.marks spot.place spot.row)) (empty ∙ sym was) (lowered_lowest reads.marks (set reads.marks spot.place spot.row) low_then);
                    plain = plain.none;
                    moved = refl;
                  },
                ),
              )

  -- where the next row is found again, the session may go on so, and that is a step
  pub passes : (passed : Passed) → IsPassed state s reads.marks reads.places passed → (new : Position) (told : answer.Reread) → IsPast (position_of doing) passed new told reads keys
      → CanMove state s doing (with_position doing new) × IsRereadStep state s doing reads keys told (moved_by state s (with_position doing new))
  passes passed is new told past =
      let to = goes_to passed.spot is.at is.plain passed.more is.after in
      subst (λ (p : Position). CanMove state s doing (with_position doing p) × IsRereadStep state s doing reads keys told (moved_by state s (with_position doing p))) (sym past.position)
      (to.0, subst (λ (t : answer.Reread). IsRereadStep state s doing reads keys t (moved_by state s (record doing { stage = stage_past reads keys passed.spot passed.more }))) (sym past.answer) to.1)

  -- where it isn't, or bears a flag, nothing is changed
  next_is : (spot : Spot) (at : IsNextAt state.locks s reads.marks reads.places 0 spot) → slice_get (left_in keys reads) 0 ≡ Some at.next.row
  next_is spot at = ap (λ (l : List (Key × Inode)). slice_get l 0) (left_past spot at)

  pub halts : (why : Halt) → IsHalt state s reads.marks reads.places why → IsRereadStep state s doing reads keys (told_of why) state
  halts halt.Changed is = (is.at.next.row, next_is is.spot is.at, is.so, refl)
  halts (halt.Flagged op) is = (is.at.next.row, next_is is.spot is.at, (is.so.again, is.so.flag), refl)

-- the session that runs is the one that reads rows again
pub same_left : (state : State) (s : SessionId) (doing other : Session) (reads : Reads) (keys : List (Key × Mode)) → IsRunning state s doing → IsRunning state s other → HasLeft other reads keys → HasLeft doing reads keys
same_left state s doing other reads keys runs others left =
    let there : Some other ≡ Some doing = sym others.there ∙ runs.there in
    let same : other ≡ doing = cc in
    subst (λ (d : Session). HasLeft d reads keys) same left

-- the place of the next row has a mark
pub has_mark : (state : State) (s : SessionId) (reads : Reads) (passed : Passed) → IsPassed state s reads.marks reads.places passed → passed.spot.place < length reads.marks
has_mark state s reads passed is = go reads.marks passed.spot.place is.at.mark is.at.marked
  where
    go : (marks : List ℕ) (i mark : ℕ) → slice_get marks i ≡ Some mark → i < length marks
    go [] i mark at = absurd (let bad = at in cc)
    go (m ∷ marks) zero mark at = omega arith
    go (m ∷ marks) (suc i) mark at = let low = go marks i mark at in omega arith
