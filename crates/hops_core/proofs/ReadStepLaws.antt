-- Laws of a session that reads what it has locked.
use Rattle.std.proofs.Common.{◌≡◌, ◌≢◌, ℕ, ◌+◌, ◌-◌, ◌≤◌, ◌==◌, zero, suc, min, nat_le, nat_lt, Bool, true, false, ◌&&◌, if◌then◌else◌, List, [], ◌∷◌, ◌++◌, length, drop, map as list_map, slice_get, Option, Some, None, is_some, is_none, option_to_list, arith, refl, sym, ap, subst, ◌∙◌}
use Rattle.std.specs.FinMap as map
use Rattle.std.specs.List.{list_any, AllByRecursion}
use Rattle.std.proofs.lemmas.Bool.{ne_eqb}
use Rattle.std.proofs.lemmas.Bool.Decides.{nat_tests}
use Rattle.std.proofs.lemmas.List.{append-nil}
use Rattle.hops_base.specs.Devices.{counted_on}
use Rattle.hops_base.specs.declared.ids.Mode.{Mode}
use Rattle.hops_base.specs.declared.ids.SessionId.{SessionId}
use Rattle.hops_base.specs.declared.key.Key.{Key}
use Rattle.hops_base.specs.declared.key.Key.TheVariants as key
use Rattle.hops_base.specs.declared.ids.InodeId.{InodeId}
use Rattle.quota_table.specs.declared.quota.QuotaRow.{QuotaRow}
use Rattle.inode_table.specs.declared.inode.Inode.{Inode}
use Rattle.name_space.specs.declared.call.Call.{Call}
use Rattle.name_space.specs.declared.call.Call.TheVariants as call
use Rattle.commit_log.specs.Licensed.{is_change_beside}
use Rattle.commit_log.specs.Locks.{held}
use Rattle.commit_log.specs.Parts.{Taking}
use Rattle.row_locks.specs.Locks.{mode_of}
use Rattle.row_locks.specs.Plans.{planned_mode}
use Rattle.db_state.specs.declared.session.Position.{Position}
use Rattle.db_state.specs.declared.session.Session.{Session}
use Rattle.db_state.specs.declared.session.Stage.{Stage}
use Rattle.db_state.specs.declared.session.Stage.TheVariants.{Resolve, Lock, Read, Reread, Commit, Answered}
use Rattle.db_state.specs.declared.session.Phase.TheVariants as phase
use Rattle.db_state.specs.declared.view.Place.{Place}
use Rattle.db_state.specs.Core.{IsCore}
use Rattle.db_state.specs.Current.{is_locked, IsMissing, places_of, Leads, SeesQuotas, Spells}
use Rattle.db_state.specs.Holding.{AreSameLocks, HoldsAll, StandsIn}
use Rattle.db_state.specs.Moves.{GoesOn, IsReadAsFound, IsTrail, left_of_all, since_after, reads_after, read_in}
use Rattle.db_state.specs.Plan.{plan}
use Rattle.db_state.specs.PlaceOf.{IsFound}
use Rattle.db_state.specs.Reads.{locked_by, AllStand, AreReads, IsChain, Reads, ReadsStand}
use Rattle.db_state.specs.ReadSteps.{last_marks, IsFoundAgain, IsPlaceRead, LeadsTo}
use Rattle.db_state.specs.SessionParts.{asked_in, unread, AreQuotasSeen, IsPlanned, IsReading, IsStillFound, LeadAlong}
use Rattle.db_state.specs.Stages.{keys_in, phase_of, position_of, rows_in, with_position}
use Rattle.db_state.specs.State.{State}
use Rattle.db_state.specs.Steps.{CanMove, IsRunning}
use Rattle.db_state.specs.Stored.{Inodes, Quotas, root_key, root_row}
use Rattle.db_state.proofs.MoveLaws.{holds_by_stage}
use Rattle.db_state.proofs.ReadsAgainLaws.{plan_read, read_stands}
use Rattle.db_state.proofs.ReadsHoldLaws.{holds_plan}
use Rattle.db_state.proofs.SeatLaws.{not_below}
use Rattle.path_resolver.proofs.CountLaws.{read_of, read_none}
use Rattle.chain_check.specs.Passing.{lowest}
use Rattle.chain_check.specs.Search.{is_held, AreMarked, HoldsRows, IsLastFree, IsNextAt, LeavesNone}
use Rattle.chain_check.proofs.LeftLaws.{next_left, none_left, planned_locked}
use Rattle.chain_check.proofs.StandLaws.{all_lowest, stand_lowest}
use Rattle.hops_core.specs.declared.read.Again.{Again}
use Rattle.hops_core.specs.declared.read.Locked as answer
use Rattle.hops_core.specs.ReadLocked.{mark_of, refreshed, refreshed_place, since_of, stage_of, HasOne, IsAgain, IsGone, IsHeldAgain, IsOne, IsRow, IsUnchanged}
use Rattle.hops_core.specs.Built.{IsBuilt}
use Rattle.hops_core.specs.Steady.{IsSteady}
use Rattle.hops_core.specs.Steps.{IsAt}
use Rattle.hops_core.proofs.QuotaLaws.{no_quota, sees_none}
use Rattle.hops_core.proofs.ReadHoldLaws.{holds_keys}
use Rattle.hops_core.proofs.ReadRowLaws.{count_again, flags_again, found_again, free_again, limits_again, pairs_long, refreshed_long, rows_again}

-- ---- one place

-- the rows of one place alone
rows_one : (items : List (Key × Inode)) → (items ++ []) ++ [] ≡ items
rows_one items = append-nil (items ++ []) ∙ append-nil items

-- rows that lead to a first missing key lead along the path
leads_to : (row : Inode) (names : List (List ℕ)) (rows : List (Key × Inode)) (missing : Option Key) → Leads row names rows missing → (last : Inode) × (rest : List (List ℕ)) × LeadsTo row names rows last rest
leads_to row [] [] missing leads = (row, [], (refl, refl))
leads_to row [] (next ∷ rows) missing leads = absurd (let bad : next ∷ rows ≡ [] = leads.0 in cc)
leads_to row (name ∷ names) [] missing leads = (row, name ∷ names, (refl, refl))
leads_to row (name ∷ names) (next ∷ rows) missing leads = let further = leads_to next.1 names rows missing leads.2 in (further.0, further.1, (leads.0, leads.1, further.2))

-- so do those of a place
lead_along : (locked : List (Key × Mode)) (place : Place) → IsChain locked None place → LeadAlong place.path place.found.items
lead_along locked place chain = go place.found.items chain.root chain.spells
  where
    go : (items : List (Key × Inode)) → slice_get items 0 ≡ Some (root_key, root_row) → Spells place.path items place.missing → LeadAlong place.path items
    go [] root spells = tt
    go (first ∷ rows) root spells =
        let same : first ≡ (root_key, root_row) = cc in
        let to = leads_to first.1 place.path rows place.missing spells.1 in
        (same, to.0, to.1, to.2)

-- nothing was read of a place exactly where it has the root's row alone
none_read : (n : ℕ) (bare : Bool) (missing : Option Key) → (n == 0) ≡ bare → ((n + length (option_to_list missing ++ [])) == 0) ≡ (bare && is_none missing)
none_read n bare None is = ap (λ (m : ℕ). m == 0) none ∙ is ∙ all bare
  where
    none : n + 0 ≡ n
    none = omega arith

    all : (b : Bool) → b ≡ (b && true)
    all true = refl
    all false = refl
none_read n bare (Some k) is = ne_eqb (n + 1) 0 (λ e. absurd (omega arith)) ∙ never bare
  where
    never : (b : Bool) → false ≡ (b && false)
    never true = refl
    never false = refl

-- the root's row alone is the table's
root_alone : (inodes : Inodes) (items : List (Key × Inode)) → map.get inodes root_key ≡ Some root_row → slice_get items 0 ≡ Some (root_key, root_row) → nat_le (length items) 1 ≡ true → AllByRecursion (IsFound inodes) items
root_alone inodes [] rooted first low = tt
root_alone inodes (x ∷ []) rooted first low =
    let same : x ≡ (root_key, root_row) = cc in
    (subst (IsFound inodes) (sym same) rooted, tt)
root_alone inodes (x ∷ y ∷ items) rooted first low = absurd (grind (arith, nat_tests))

-- nothing is at a first missing key
gap_one : (inodes : Inodes) (missing : Option Key) → IsMissing inodes missing → AllByRecursion (λ (at : Key). map.get inodes at ≡ None) (option_to_list missing ++ [])
gap_one inodes None gone = tt
gap_one inodes (Some at) gone = (gone, tt)

gap_back : (inodes : Inodes) (missing : Option Key) → AllByRecursion (λ (at : Key). map.get inodes at ≡ None) (option_to_list missing ++ []) → IsMissing inodes missing
gap_back inodes None all = tt
gap_back inodes (Some at) all = all.0

-- rows without a quota have no quota row to be seen
unlimited_seen : (keys : List (Key × Mode)) (reads : Reads) (rows : List (Key × Inode)) → AllByRecursion (λ (r : Key × Inode). r.1.has_quota ≡ false) rows
    → AllByRecursion (λ (r : Key × Inode). r.1.has_quota ≡ true → is_locked keys (key.Quota r.1.id) ≡ true
    → list_any (λ (q : InodeId × QuotaRow). q.0.0 == r.1.id.0) reads.quotas ≡ true) rows
unlimited_seen keys reads [] bare = tt
unlimited_seen keys reads (r ∷ rows) bare = (λ has lock. absurd (let bad : true ≡ false = sym has ∙ bare.0 in cc), unlimited_seen keys reads rows bare.1)

module _ (state : State) (s : SessionId) (doing : Session) (place : Place) (keys : List (Key × Mode)) (core : IsCore state) (runs : IsRunning state s doing) (one : IsOne doing.stage place keys) where
  planned : IsPlanned doing.client doing.call (place ∷ []) keys
  planned = rw one.here at (core.reads s doing runs.there)

  chain : IsChain (plan doing.client doing.call (place ∷ [])) None place
  chain = planned.are.chains.0

  has_planned : (at : Key) → mode_of state.locks s at ≡ planned_mode keys at
  has_planned at = holds_by_stage state s doing core runs.there at ∙ ap (λ (st : Stage). planned_mode (keys_in st) at) one.here

  holds : (at : Key) → is_held state.locks s at ≡ is_locked keys at
  holds at = ap is_some (has_planned at) ∙ planned_locked keys at

  holds_locked : (at : Key) → is_held state.locks s at ≡ is_locked (plan doing.client doing.call (place ∷ [])) at
  holds_locked at = holds at ∙ sym (planned.of.any at)

  -- ---- something isn't as it was found

  held_back : (rows : List (Key × Inode)) → AllByRecursion (λ (r : Key × Inode). is_locked keys r.0 ≡ true → IsFoundAgain state.stored.inodes r) rows → AllByRecursion (IsHeldAgain state s) rows
  held_back [] all = tt
  held_back (r ∷ rows) all = (λ lock. all.0 (sym (holds r.0) ∙ lock), held_back rows all.1)

  pub differs : (IsUnchanged state s place → ⊥) → IsReadAsFound state.stored doing.stage → ⊥
  differs other all = other (record {
    rows = held_back place.found.items (subst (AllByRecursion (λ (r : Key × Inode). is_locked keys r.0 ≡ true → IsFoundAgain state.stored.inodes r)) (rows_one place.found.items) here.0);
    missing = gap_back state.stored.inodes place.missing here.2;
  })
    where
      here : IsReadAsFound state.stored (Read (record { items = place ∷ []; room = one.room }) keys)
      here = subst (IsReadAsFound state.stored) one.here all

  -- ---- all is as it was found

  -- where the session had come upon nothing yet, its attempt begins to read now
  pub since_read : (since long : ℕ) → since_of place since long ≡ since_after doing.stage since long
  since_read since long = ap (λ (b : Bool). if b then long else since) (sym same) ∙ ap (λ (st : Stage). since_after st since long) (sym one.here)
    where
      same : (read_in (Read (record { items = place ∷ []; room = one.room }) keys) == 0) ≡ (nat_le (length place.found.items) 1 && is_none place.missing)
      same = ap (λ (rows : List (Key × Inode)). (read_of rows + length (option_to_list place.missing ++ [])) == 0) (rows_one place.found.items)
          ∙ none_read (read_of place.found.items) (nat_le (length place.found.items) 1) place.missing
          (read_none place.path place.found.items (lead_along (plan doing.client doing.call (place ∷ [])) place chain))

  module _ (steady : IsSteady state) (again : Again) (is : IsAgain state s place doing.since again) where
    -- the rows, once they were read, and the place with them
    abbrev rows_now : List (Key × Inode)
    rows_now = refreshed place.found.items again.rows.items

    abbrev now : Place
    now = refreshed_place place again.rows.items

    -- its mark, at its last row
    abbrev ends : List ℕ
    ends = last_marks (now ∷ [])

    length_now : length rows_now ≡ length place.found.items
    length_now = refreshed_long place.found.items again.rows.items

    place_now : (locked : List (Key × Mode)) → ((at : Key) → is_held state.locks s at ≡ is_locked locked at) → IsPlaceRead state.stored.inodes locked None place now
    place_now locked same = record {
      path = refl;
      same_missing = refl;
      rows = rows_again state s locked same place.found.items again.rows.items is.rows;
      missing = is.missing;
      unflagged = flags_again state s core.stored.flags place.found.items again.rows.items is.rows chain.unflagged;
    }

    -- what the session has then read, with these marks
    abbrev with_marks : List ℕ → Reads
    with_marks marks = record { places = now ∷ []; marks = marks; quotas = [] }

    none_limited : SeesQuotas state.stored.quotas (plan doing.client doing.call (place ∷ [])) []
    none_limited = sees_none state.stored.quotas (plan doing.client doing.call (place ∷ [])) [] (no_quota state.stored core.stored steady.limitless) refl

    stand : AreReads (asked_in doing) (with_marks ends) × ReadsStand state.stored.inodes state.stored.quotas (locked_by (asked_in doing) (with_marks ends)) (with_marks ends)
    stand = read_stands state.stored.inodes state.stored.next state.stored.quotas core.stored.tree (asked_in doing) (unread (place ∷ [])) (with_marks ends) planned.are
        (place_now (plan doing.client doing.call (place ∷ [])) holds_locked, tt) refl none_limited

    plans : plan doing.client doing.call (now ∷ []) ≡ plan doing.client doing.call (place ∷ [])
    plans = plan_read state.stored.inodes (asked_in doing) (unread (place ∷ [])) (with_marks []) (place_now (plan doing.client doing.call (place ∷ [])) holds_locked, tt)

    planned_now : IsPlanned doing.client doing.call (now ∷ []) keys
    planned_now = record {
      are = record { places = stand.0.places; chains = stand.0.chains };
      of = subst (AreSameLocks keys) (sym plans) planned.of;
      rises = planned.rises;
    }

    holds_now : HoldsAll (held state.stored.notes) s (plan doing.client doing.call (now ∷ []))
    holds_now = subst (HoldsAll (held state.stored.notes) s) (sym plans)
        (holds_plan (held state.stored.notes) s keys (plan doing.client doing.call (place ∷ [])) planned.of (holds_keys state.locks state.stored.notes s keys planned.rises has_planned core.locks))

    -- the session stands with marks with which its places do
    stands_with : (marks : List ℕ) → AllStand state.stored.inodes (plan doing.client doing.call (now ∷ [])) marks (now ∷ [])
        → StandsIn state.stored s (asked_in doing) (with_marks marks)
    stands_with marks all = record {
      reads = record { places = stand.0.places; chains = stand.0.chains };
      holds = holds_now;
      stand = record { chains = all; quotas = stand.1.quotas };
    }

    unlimited : AllByRecursion (λ (r : Key × Inode). r.1.has_quota ≡ false) rows_now
    unlimited = limits_again state s place.found.items again.rows.items is.rows
        (subst (AllByRecursion (λ (r : Key × Inode). r.1.has_quota ≡ false)) (rows_one place.found.items)
        (subst (λ (st : Stage). AllByRecursion (λ (r : Key × Inode). r.1.has_quota ≡ false) (rows_in st)) one.here (steady.each s doing runs).unlimited))

    seen : (marks : List ℕ) → AreQuotasSeen keys (with_marks marks)
    seen marks = unlimited_seen keys (with_marks marks) (rows_now ++ [])
        (subst (AllByRecursion (λ (r : Key × Inode). r.1.has_quota ≡ false)) (sym (append-nil rows_now)) unlimited)

    -- what it has found is found still, unless another has changed it since
    still : list_any (is_change_beside s) (drop again.since state.stored.notes) ≡ false → AllByRecursion (IsFound state.stored.inodes) place.found.items
    still quiet = go (nat_le (length place.found.items) 1) (is_none place.missing) refl (subst (λ (n : ℕ). list_any (is_change_beside s) (drop n state.stored.notes) ≡ false) is.began quiet)
      where
        since_old : list_any (is_change_beside s) (drop doing.since state.stored.notes) ≡ false → AllByRecursion (IsFound state.stored.inodes) place.found.items
        since_old quiet = subst (AllByRecursion (IsFound state.stored.inodes)) (rows_one place.found.items) (subst (IsStillFound state.stored.inodes) one.here (core.found s doing runs.there quiet)).0

        go : (low none : Bool) → nat_le (length place.found.items) 1 ≡ low → list_any (is_change_beside s) (drop (if low && none then length state.stored.notes else doing.since) state.stored.notes) ≡ false
            → AllByRecursion (IsFound state.stored.inodes) place.found.items
        go true none few quiet = root_alone state.stored.inodes place.found.items core.stored.tree.root chain.root few
        go false none few quiet = since_old quiet

    still_now : list_any (is_change_beside s) (drop again.since state.stored.notes) ≡ false
        → AllByRecursion (IsFound state.stored.inodes) ((rows_now ++ []) ++ []) × AllByRecursion (λ (at : Key). map.get state.stored.inodes at ≡ None) (option_to_list place.missing ++ [])
    still_now quiet = (
      subst (AllByRecursion (IsFound state.stored.inodes)) (sym (rows_one rows_now)) (found_again state s place.found.items again.rows.items is.rows (still quiet)),
      gap_one state.stored.inodes place.missing is.missing,
    )

    -- it has come upon as much as before
    counted : read_of ((rows_now ++ []) ++ []) ≡ read_of ((place.found.items ++ []) ++ [])
    counted = ap read_of (rows_one rows_now) ∙ count_again place.found.items again.rows.items ∙ ap read_of (sym (rows_one place.found.items))

    -- what is counted of its reads is as it is to be
    counts : (st : Stage) → read_in st ≡ read_of ((rows_now ++ []) ++ []) + length (option_to_list place.missing ++ [])
        → record doing { since = again.since; stage = st } ≡ record doing { since = since_after doing.stage doing.since (length state.stored.notes); reads = reads_after doing.stage st doing.reads; trail = doing.trail; stage = st }
    counts st count =
        let since : again.since ≡ since_after doing.stage doing.since (length state.stored.notes) = is.began ∙ since_read doing.since (length state.stored.notes) in
        let old : read_in doing.stage ≡ read_of ((place.found.items ++ []) ++ []) + length (option_to_list place.missing ++ []) = ap read_in one.here in
        let same : read_in st ≡ read_in doing.stage = count ∙ ap (λ (n : ℕ). n + length (option_to_list place.missing ++ [])) counted ∙ sym old in
        let none : nat_lt (read_in doing.stage) (read_in st) ≡ false = ap (nat_lt (read_in doing.stage)) same ∙ not_below (read_in doing.stage) in
        let times : doing.reads ≡ reads_after doing.stage st doing.reads = sym (ap (λ (b : Bool). if b then counted_on doing.reads else doing.reads) none) in
        λ i. record doing { since = since i; reads = times i; stage = st }

    -- ---- what is left

    holds_rows : (marks : List ℕ) → marks ≡ ends → AreMarked marks (now ∷ [])
    holds_rows marks same zero p at =
        let one_place : now ≡ p = cc in (
          length rows_now - 1,
          ap (λ (l : List ℕ). slice_get l 0) same,
          subst (λ (q : Place). length rows_now - 1 ≤ length q.found.items) one_place (omega arith),
        )
    holds_rows marks same (suc i) p at = absurd (let bad = at in cc)

    last_now : (next : Option ℕ) → IsLastFree state.locks s place.found.items (length place.found.items - 1) next
        → IsLastFree state.locks s rows_now (length rows_now - 1) next
    last_now next last = subst (λ (n : ℕ). IsLastFree state.locks s rows_now (n - 1) next) (sym length_now) (free_again state.locks s place.found.items again.rows.items (length place.found.items - 1) next last)

    -- a row is left
    some_left : (number : ℕ) → IsLastFree state.locks s place.found.items (length place.found.items - 1) (Some number)
        → left_of_all keys ends (now ∷ []) ≢ []
    some_left number last none =
        let free = last_now (Some number) last in
        let at : IsNextAt state.locks s ends (now ∷ []) 0 (record { place = 0; row = number }) = record {
          place = now;
          mark = length rows_now - 1;
          placed = refl;
          marked = refl;
          later = omega arith;
          before = λ i mark p low high a b. absurd (omega arith);
          next = free;
        } in
        let left = next_left state.locks s keys holds ends (now ∷ []) (holds_rows ends refl) (record { place = 0; row = number }) at in
        let bad = sym left ∙ none in
        cc

    -- none is
    none_at : IsLastFree state.locks s place.found.items (length place.found.items - 1) None → LeavesNone state.locks s ends (now ∷ []) 0 1
    none_at last zero mark p low high marked placed =
        let same_place : now ≡ p = cc in
        let same_mark : length rows_now - 1 ≡ mark = cc in
        subst (λ (n : ℕ). HoldsRows state.locks s p.found.items 1 n) same_mark
        (subst (λ (q : Place). HoldsRows state.locks s q.found.items 1 (length rows_now - 1)) same_place (last_now None last))
    none_at last (suc i) mark p low high marked placed = absurd (omega arith)

    -- ---- where the session goes

    -- it reads the rows above again
    reads_on : (number : ℕ) → IsLastFree state.locks s place.found.items (length place.found.items - 1) (Some number)
        → CanMove state s doing (record doing { since = again.since; stage = Reread (with_marks ends) keys })
    reads_on number last = record {
      runs = runs;
      goes = subst (λ (st : Stage). GoesOn state.stored.inodes st (Reread (with_marks ends) keys)) (sym one.here) ((place_now keys holds, tt), refl, some_left number last, refl);
      same = counts (Reread (with_marks ends) keys) refl;
      trail = subst (λ (st : Stage). IsTrail st (Reread (with_marks ends) keys) doing.trail.items doing.trail.items) (sym one.here) refl;
      reading = (planned_now, stands_with ends stand.1.chains, seen ends);
      found = still_now;
    }

    -- or comes to answer
    answers : IsLastFree state.locks s place.found.items (length place.found.items - 1) None
        → CanMove state s doing (record doing { since = again.since; stage = Commit (with_marks (lowest ends)) keys })
    answers last = record {
      runs = runs;
      goes = subst (λ (st : Stage). GoesOn state.stored.inodes st (Commit (with_marks (lowest ends)) keys)) (sym one.here) (
        (place_now keys holds, tt),
        none_left state.locks s keys holds ends (now ∷ []) (holds_rows ends refl) (none_at last),
        refl,
      );
      same = counts (Commit (with_marks (lowest ends)) keys) refl;
      trail = subst (λ (st : Stage). IsTrail st (Commit (with_marks (lowest ends)) keys) doing.trail.items doing.trail.items) (sym one.here) refl;
      reading = (
        planned_now,
        stands_with (lowest ends)
            (stand_lowest state.stored.inodes state.locks s (plan doing.client doing.call (now ∷ [])) (λ at. holds_locked at ∙ ap (λ (l : List (Key × Mode)). is_locked l at) (sym plans))
            ends (now ∷ []) (none_at last) stand.1.chains),
        seen (lowest ends),
        all_lowest ends,
      );
      found = still_now;
    }

    -- so it goes to the stage that it is given
    goes_to : CanMove state s doing (record doing { since = again.since; stage = stage_of place keys again })
    goes_to = go again.left is.left.0 is.left.1 is.left.2 again.marks.items is.marks
      where
        go : (left : Bool) (next : Option ℕ) → left ≡ is_some next → IsLastFree state.locks s place.found.items (length place.found.items - 1) next → (marks : List ℕ) → marks ≡ mark_of (length place.found.items - 1) left ∷ []
            → CanMove state s doing (record doing { since = again.since; stage = if left then Reread (with_marks marks) keys else Commit (with_marks marks) keys })
        go true None told last marks are = absurd (let bad = told in cc)
        go false (Some number) told last marks are = absurd (let bad = told in cc)
        go true (Some number) told last marks are =
            let same : marks ≡ ends = are ∙ ap (λ (n : ℕ). (n - 1) ∷ []) (sym length_now) in
            subst (λ (ms : List ℕ). CanMove state s doing (record doing { since = again.since; stage = Reread (with_marks ms) keys })) (sym same) (reads_on number last)
        go false None told last marks are =
            let same : marks ≡ lowest ends = are ∙ ap (λ (n : ℕ). min (n - 1) 1 ∷ []) (sym length_now) in
            subst (λ (ms : List ℕ). CanMove state s doing (record doing { since = again.since; stage = Commit (with_marks ms) keys })) (sym same) (answers last)

    pub goes : (new : Position) (told : answer.Locked) → IsGone (position_of doing) again new told place keys → CanMove state s doing (with_position doing new)
    goes new told gone = subst (λ (p : Position). CanMove state s doing (with_position doing p)) (sym gone.position) goes_to

    -- there are no more rows read than the place has
    pub rows_fit : length again.rows.items ≤ length place.found.items
    rows_fit = let same : length again.rows.items ≡ length place.found.items = pairs_long (IsRow state s) place.found.items again.rows.items is.rows in omega arith

-- ---- a session that is to read has one place

-- a call that is built has one path
path_one : (asked : Call) (places : List Place) → IsBuilt asked → (path : List (List ℕ)) × (places_of asked places ≡ path ∷ [])
path_one (call.Mkdirs path) places built = (path, refl)
path_one (call.Create path overwrite) places built = (path, refl)
path_one (call.Append path) places built = (path, refl)
path_one (call.Grow path bytes) places built = (path, refl)
path_one (call.Close path) places built = (path, refl)
path_one (call.Stat path) places built = (path, refl)
path_one (call.List path) places built = (path, refl)
path_one (call.Delete path recursive) places built = (path, refl)
path_one (call.Rename source target) places built = absurd (let bad = built in cc)
path_one (call.Chmod path mode) places built = (path, refl)
path_one (call.SetQuota path names bytes) places built = (path, refl)
path_one (call.Usage path) places built = (path, refl)

place_one : (places : List Place) (path : List (List ℕ)) → list_map (λ (place : Place). place.path) places ≡ path ∷ [] → (place : Place) × (places ≡ place ∷ [])
place_one [] path is = absurd (let bad = is in cc)
place_one (place ∷ []) path is = (place, refl)
place_one (place ∷ other ∷ places) path is = absurd (let bad = is in cc)

one_of : (inodes : Inodes) (quotas : Quotas) (locks : List Taking) (s : SessionId) (doing : Session) → IsBuilt doing.call → (st : Stage) → phase_of st ≡ phase.Read → IsReading inodes quotas locks s doing st → HasOne st
one_of inodes quotas locks s doing built (Resolve places found) here reading = absurd (let bad = here in cc)
one_of inodes quotas locks s doing built (Lock places keys taken) here reading = absurd (let bad = here in cc)
one_of inodes quotas locks s doing built (Read places keys) here reading =
    let path = path_one doing.call places.items built in
    let place = place_one places.items path.0 (reading.are.places ∙ path.1) in
    (place.0, keys, record { room = places.room; here = λ i. Read (record { items = place.1 i; room = places.room }) keys })
one_of inodes quotas locks s doing built (Reread reads keys) here reading = absurd (let bad = here in cc)
one_of inodes quotas locks s doing built (Commit reads keys) here reading = absurd (let bad = here in cc)
one_of inodes quotas locks s doing built Answered here reading = absurd (let bad = here in cc)

-- the session at its Read phase
pub has_one : (state : State) (s : SessionId) → IsCore state → (at : IsAt state s phase.Read) → HasOne at.doing.stage
has_one state s core at =
    one_of state.stored.inodes state.stored.quotas (held state.stored.notes) s at.doing (at.steady.each s at.doing at.runs).built at.doing.stage at.here (core.reads s at.doing at.runs.there)

-- so it is of the session that runs
pub same_one : (state : State) (s : SessionId) (doing other : Session) → IsRunning state s doing → IsRunning state s other → HasOne other.stage → HasOne doing.stage
same_one state s doing other runs others one =
    let there : Some other ≡ Some doing = sym others.there ∙ runs.there in
    let same : other ≡ doing = cc in
    subst (λ (d : Session). HasOne d.stage) same one
