-- What a session gets by its next read, and how it may go on with it.
use Rattle.std.proofs.Common.{◌≡◌, ◌≢◌, ℕ, ◌+◌, ◌-◌, ◌≤◌, ◌<◌, Bool, true, false, ◌&&◌, ◌==◌, nat_lt, nat_le, if◌then◌else◌, List, [], ◌∷◌, ◌++◌, length, drop, slice_get, Option, Some, None, IfSome, option_to_list, option_and_then, MatchOption, arith, refl, sym, ap, subst, ◌∙◌, ◌⊎◌, inl, inr, append-nil}
use Rattle.std.specs.FinMap as map
use Rattle.std.specs.List.{list_all, list_any, AllByRecursion}
use Rattle.std.proofs.lemmas.List.Folds.{list_all-append}
use Rattle.std.proofs.lemmas.Bool.Decides.{nat_tests}
use Rattle.hops_base.specs.Devices.{counted_on}
use Rattle.hops_base.specs.Key.{same_key}
use Rattle.hops_base.specs.Roomy.{Roomy}
use Rattle.hops_base.specs.declared.hint.Hint.{Hint}
use Rattle.hops_base.specs.declared.ids.Mode.{Mode}
use Rattle.hops_base.specs.declared.ids.SessionId.{SessionId}
use Rattle.hops_base.specs.declared.key.Key.{Key}
use Rattle.hops_base.specs.declared.key.Key.TheVariants as key
use Rattle.inode_table.specs.declared.inode.Inode.{Inode}
use Rattle.inode_table.specs.declared.inode.Kind.{Kind}
use Rattle.inode_table.specs.declared.inode.Kind.TheVariants.{Dir, File}
use Rattle.name_space.specs.Call.{paths_of}
use Rattle.name_space.specs.Namespace.{Path}
use Rattle.name_space.specs.declared.call.Call.{Call}
use Rattle.name_space.specs.declared.call.Call.TheVariants as call
use Rattle.commit_log.specs.Licensed.{is_change_beside}
use Rattle.commit_log.specs.Locks.{held}
use Rattle.row_locks.specs.Plans.{IsPlan}
use Rattle.db_state.specs.declared.session.Session.{Session}
use Rattle.db_state.specs.declared.session.Stage.{Stage}
use Rattle.db_state.specs.declared.session.Stage.TheVariants.{Resolve, Lock}
use Rattle.db_state.specs.declared.view.Place.{Place}
use Rattle.db_state.specs.Core.{IsCore}
use Rattle.db_state.specs.Current.{is_unflagged, places_of, stops_at}
use Rattle.db_state.specs.Moves.{GoesOn, IsOneOf, IsTrail, LooksFor, hints_of, read_in, reads_after, since_after}
use Rattle.db_state.specs.Plan.{last, plan}
use Rattle.db_state.specs.PlaceOf.{IsFound}
use Rattle.db_state.specs.ReadSteps.{IsOfPath}
use Rattle.db_state.specs.Reads.{IsChain}
use Rattle.db_state.specs.SessionParts.{asked_as, unread, IsPlanned, IsReading, IsAsFound, IsStillFound, LeadAlong}
use Rattle.db_state.specs.SessionParts as parts
use Rattle.db_state.specs.Stages.{rows_in, missing_in, places_in}
use Rattle.db_state.specs.State.{State}
use Rattle.db_state.specs.Steps.{CanMove, IsRunning}
use Rattle.db_state.specs.Stored.{Inodes, root_key, root_row}
use Rattle.db_state.proofs.AllLemmas.{all_both}
use Rattle.db_state.proofs.ReadsEndLaws.{ends_locked}
use Rattle.db_state.proofs.SeatLaws.{not_below}
use Rattle.path_resolver.specs.Resolving.{begun, counted_for, got_by, next_read, stepped, IsPlainRead, IsResolved, IsUnfinished, IsUnresolved}
use Rattle.path_resolver.proofs.CountLaws.{read_of, read_of-append, read_root, read_all, read_none, apart_by, not_root}
use Rattle.path_resolver.proofs.PlanLaws.{same_locks, locks_some}
use Rattle.path_resolver.proofs.RowLaws.{Along, Gets, along_begun, lead_along, next_along, gets}

-- ---- what was found so far

paths_alone : (call : Call) (places : List Place) → IsOfPath call → places_of call places ≡ paths_of call
paths_alone (call.Mkdirs path) places of = refl
paths_alone (call.Create path overwrite) places of = refl
paths_alone (call.Append path) places of = refl
paths_alone (call.Grow path bytes) places of = refl
paths_alone (call.Close path) places of = refl
paths_alone (call.Stat path) places of = refl
paths_alone (call.List path) places of = refl
paths_alone (call.Delete path recursive) places of = refl
paths_alone (call.Rename source destination) places of = absurd of
paths_alone (call.Chmod path mode) places of = refl
paths_alone (call.SetQuota path names bytes) places of = refl
paths_alone (call.Usage path) places of = refl

-- the root's row, where no row was found yet
abbrev pub again_for : List (Key × Inode) → List (Key × Inode)
again_for [] = (root_key, root_row) ∷ []
again_for (row ∷ rows) = []

begun_is : (found : List (Key × Inode)) → begun found ≡ found ++ again_for found
begun_is [] = refl
begun_is (row ∷ rows) = sym (append-nil (row ∷ rows))

again_old : (found : List (Key × Inode)) → AllByRecursion (IsOneOf ((root_key, root_row) ∷ found)) (again_for found)
again_old [] = ((0, refl), tt)
again_old (row ∷ rows) = tt

again_uncounted : (found : List (Key × Inode)) → read_of (again_for found) ≡ 0
again_uncounted [] = read_root root_row
again_uncounted (row ∷ rows) = refl

-- a stage that resolves a first path, with these rows
abbrev pub at_rows : ℕ → ℕ → List (Key × Inode) → Stage
at_rows place_room room rows = Resolve (record { items = []; room = place_room }) (record { items = rows; room = room })

module _ (state : State) (s : SessionId) (doing : Session) (path : Path) (found : List (Key × Inode)) (core : IsCore state) (runs : IsRunning state s doing) (un : IsUnresolved doing path found) where
  abbrev pub inodes : Inodes
  inodes = state.stored.inodes

  abbrev pub next : Option Key
  next = next_read path (begun found)

  abbrev pub got : List (Key × Inode) × Option Key
  got = got_by state path found

  abbrev pub before : Stage
  before = at_rows un.place_room un.room found

  resolving : parts.IsResolving doing.call [] found
  resolving = subst (λ (stage : Stage). IsReading inodes state.stored.quotas (held state.stored.notes) s doing stage) un.stage (core.reads s doing runs.there)

  pub lead : LeadAlong path found
  lead = subst (λ (paths : List Path). MatchOption (slice_get paths 0) (found ≡ []) (λ p. LeadAlong p found)) (paths_alone doing.call [] un.of ∙ un.one) resolving.next

  pub along : Along path (begun found)
  along = along_begun path found lead

  -- what is read isn't the root's row
  pub other : (at : Key) → next ≡ Some at → same_key at root_key ≡ false
  other at is = go found refl un.unfinished
    where
      go : (rows : List (Key × Inode)) → found ≡ rows → (rows ≡ []) ⊎ (IsUnfinished path rows × (length path + 1 ≤ un.room) × (1 ≤ un.place_room)) → same_key at root_key ≡ false
      go [] e u = first path (sym (ap (λ (rs : List (Key × Inode)). next_read path (begun rs)) e) ∙ is)
        where
          first : (names : Path) → next_read names ((root_key, root_row) ∷ []) ≡ Some at → same_key at root_key ≡ false
          first [] h = absurd (let bad : None ≡ Some at = h in cc)
          first (name ∷ names) h =
              let keys : Some (key.Inode root_row.id name) ≡ Some at = h in
              let one : key.Inode root_row.id name ≡ at = cc in
              apart_by at root_key (λ same. not_root root_row.id name (omega arith) (one ∙ same))
      go (row ∷ rows) e (inl none) = absurd (let bad : row ∷ rows ≡ [] = none in cc)
      go (row ∷ rows) e (inr u) =
          let keys : Some u.0.at ≡ Some at = sym u.0.next ∙ sym (ap (λ (rs : List (Key × Inode)). next_read path (begun rs)) e) ∙ is in
          let one : u.0.at ≡ at = cc in
          apart_by at root_key (λ same. u.0.other (one ∙ same))

  -- something is to be read, but for the path `/`
  some_next : (name : List ℕ) (names : List (List ℕ)) → path ≡ name ∷ names → next ≢ None
  some_next name names is = go found refl un.unfinished
    where
      go : (rows : List (Key × Inode)) → found ≡ rows → (rows ≡ []) ⊎ (IsUnfinished path rows × (length path + 1 ≤ un.room) × (1 ≤ un.place_room)) → next ≢ None
      go [] e u none =
          let here : Some (key.Inode root_row.id name) ≡ None = ap (λ (p : Path). next_read p ((root_key, root_row) ∷ [])) (sym is) ∙ ap (λ (rs : List (Key × Inode)). next_read path (begun rs)) (sym e) ∙ none in
          absurd (let bad : Some (key.Inode root_row.id name) ≡ None = here in cc)
      go (row ∷ rows) e (inl empty) none = absurd (let bad : row ∷ rows ≡ [] = empty in cc)
      go (row ∷ rows) e (inr u) none =
          let here : Some u.0.at ≡ None = sym u.0.next ∙ ap (λ (rs : List (Key × Inode)). next_read path (begun rs)) (sym e) ∙ none in
          absurd (let bad : Some u.0.at ≡ None = here in cc)

  no_next : path ≡ [] → next ≡ None
  no_next is = ap (λ (p : Path). next_read p (begun found)) is ∙ none_of (begun found)
    where
      none_of : (rows : List (Key × Inode)) → next_read [] rows ≡ None
      none_of rows = elim (last rows) as (λ o. option_and_then (λ (r : Key × Inode). option_and_then (stops_at r.1.kind r.1.id) (slice_get [] (length rows - 1))) o ≡ None) [ None ↦ refl | Some r ↦ refl ]

  pub gives : Gets inodes path (begun found) next got
  gives = gets inodes path (begun found) along (λ at row there. (core.stored.tree.range at row there).0) other

  -- ---- no row bears a flag

  pub plain : IsPlainRead state path found
  plain = go next refl
    where
      looked : (at : Key) → (o : Option Inode) → map.get inodes at ≡ o → IfSome o (λ row. is_unflagged None row.flag ≡ true)
      looked at None there = tt
      looked at (Some row) there = ap (is_unflagged None) (core.stored.flags at row there)

      go : (o : Option Key) → next ≡ o → IfSome (option_and_then (map.get inodes) o) (λ row. is_unflagged None row.flag ≡ true)
      go None is = tt
      go (Some at) is = looked at (map.get inodes at) refl

  found_unflagged : (rows : List (Key × Inode)) → AllByRecursion (IsFound inodes) rows → list_all (λ (r : Key × Inode). is_unflagged None r.1.flag) rows ≡ true
  found_unflagged [] all = refl
  found_unflagged (row ∷ rows) all = ap (λ b. b && list_all (λ (r : Key × Inode). is_unflagged None r.1.flag) rows) (ap (is_unflagged None) (core.stored.flags row.0 row.1 all.0)) ∙ found_unflagged rows all.1

  begun_unflagged : list_all (λ (r : Key × Inode). is_unflagged None r.1.flag) (begun found) ≡ true
  begun_unflagged = go found resolving.unflagged
    where
      go : (rows : List (Key × Inode)) → list_all (λ (r : Key × Inode). is_unflagged None r.1.flag) rows ≡ true → list_all (λ (r : Key × Inode). is_unflagged None r.1.flag) (begun rows) ≡ true
      go [] e = refl
      go (row ∷ rows) e = e

  unflagged : list_all (λ (r : Key × Inode). is_unflagged None r.1.flag) got.0 ≡ true
  unflagged =
      ap (list_all (λ (r : Key × Inode). is_unflagged None r.1.flag)) gives.has ∙ list_all-append (λ (r : Key × Inode). is_unflagged None r.1.flag) (begun found) gives.row
      ∙ ap (λ b. b && list_all (λ (r : Key × Inode). is_unflagged None r.1.flag) gives.row) begun_unflagged ∙ found_unflagged gives.row gives.there

  -- ---- what was found is the table's

  total : got.0 ≡ found ++ again_for found ++ gives.row
  total = gives.has ∙ ap (λ (rs : List (Key × Inode)). rs ++ gives.row) (begun_is found)

  counted : read_of got.0 ≡ read_of found + length gives.row
  counted =
      let whole : read_of got.0 ≡ read_of (found ++ again_for found) + read_of gives.row = ap read_of total ∙ read_of-append (found ++ again_for found) gives.row in
      let front : read_of (found ++ again_for found) ≡ read_of found + read_of (again_for found) = read_of-append found (again_for found) in
      let again : read_of (again_for found) ≡ 0 = again_uncounted found in
      let rest : read_of gives.row ≡ length gives.row = read_all gives.row gives.apart in
      omega arith

  pub old_count : read_in doing.stage ≡ read_of found
  old_count = ap read_in un.stage ∙ plus_none (read_of found)
    where
      plus_none : (n : ℕ) → n + 0 ≡ n
      plus_none n = omega arith

  again_there : AllByRecursion (IsFound inodes) (again_for found)
  again_there = go found
    where
      go : (rows : List (Key × Inode)) → AllByRecursion (IsFound inodes) (again_for rows)
      go [] = (core.stored.tree.root, tt)
      go (row ∷ rows) = tt

  few_there : (rows : List (Key × Inode)) → LeadAlong path rows → nat_le (length rows) 1 ≡ true → AllByRecursion (IsFound inodes) rows
  few_there [] led few = tt
  few_there (root ∷ []) led few = (subst (IsFound inodes) (sym led.0) core.stored.tree.root, tt)
  few_there (root ∷ row ∷ rows) led few = absurd (grind (arith, nat_tests))

  -- so it is where another hasn't committed a change since the attempt's first read
  still_found : list_any (is_change_beside s) (drop (since_after doing.stage doing.since (length state.stored.notes)) state.stored.notes) ≡ false → AllByRecursion (IsFound inodes) found
  still_found quiet = go (read_in doing.stage == 0) refl quiet
    where
      go : (b : Bool) → (read_in doing.stage == 0) ≡ b → list_any (is_change_beside s) (drop (if b then length state.stored.notes else doing.since) state.stored.notes) ≡ false → AllByRecursion (IsFound inodes) found
      go true none calm = few_there found lead (sym (read_none path found lead) ∙ ap (λ (n : ℕ). n == 0) (sym old_count) ∙ none)
      go false none calm = subst (λ (stage : Stage). AllByRecursion (IsFound inodes) (rows_in stage)) un.stage (core.found s doing runs.there calm).0

  -- ---- the session goes on

  module _ (new : Stage) (has : rows_in new ≡ got.0) (lacks : missing_in new ≡ option_to_list got.1) where
    looks : LooksFor inodes doing.stage new
    looks = subst (λ (stage : Stage). LooksFor inodes stage new) (sym un.stage) (record {
      again = again_for found;
      found = gives.row;
      missed = gives.missed;
      places = (places_in new, refl);
      rows = has ∙ total;
      gaps = lacks ∙ gives.lacks;
      before = again_old found;
      there = gives.there;
      gone = gives.gone;
      one = gives.one;
    })

    new_count : read_in new ≡ read_of found + (length gives.row + length gives.missed)
    new_count =
        let rows : read_of (rows_in new) ≡ read_of found + length gives.row = ap read_of has ∙ counted in
        let gaps : length (missing_in new) ≡ length gives.missed = ap length (lacks ∙ gives.lacks) in
        let whole : read_in new ≡ read_of (rows_in new) + length (missing_in new) = refl in
        omega arith

    reads_are : reads_after doing.stage new doing.reads ≡ counted_for path doing.reads
    reads_are = go path refl
      where
        go : (names : Path) → path ≡ names → reads_after doing.stage new doing.reads ≡ counted_for names doing.reads
        go [] is =
            let none : length gives.row + length gives.missed ≡ 0 = gives.none (no_next is) in
            let same : read_in new ≡ read_in doing.stage = let a = new_count in let b = old_count in omega arith in
            ap (λ (b : Bool). if b then counted_on doing.reads else doing.reads) (ap (nat_lt (read_in doing.stage)) same ∙ not_below (read_in doing.stage))
        go (name ∷ names) is =
            let some : length gives.row + length gives.missed ≡ 1 = gives.some (some_next name names is) in
            let more : read_in doing.stage < read_in new = let a = new_count in let b = old_count in omega arith in
            let above : nat_lt (read_in doing.stage) (read_in new) ≡ true = grind (arith, nat_tests) in
            ap (λ (b : Bool). if b then counted_on doing.reads else doing.reads) above

    abbrev after : Roomy Hint → Session
    after trail = record (stepped state doing path new) { trail = trail }

    as_found : (trail : Roomy Hint) → IsAsFound inodes state.stored.notes s (after trail)
    as_found trail = λ quiet. (
      subst (AllByRecursion (IsFound inodes)) (sym (has ∙ total)) (all_both (IsFound inodes) (found ++ again_for found) gives.row (all_both (IsFound inodes) found (again_for found) (still_found quiet) again_there) gives.there),
      subst (AllByRecursion (λ (at : Key). map.get inodes at ≡ None)) (sym (lacks ∙ gives.lacks)) gives.gone,
    )

    moves : (trail : Roomy Hint) → GoesOn inodes doing.stage new → IsTrail doing.stage new doing.trail.items trail.items → IsReading inodes state.stored.quotas (held state.stored.notes) s (after trail) new
        → CanMove state s doing (after trail)
    moves trail goes told reading = record {
      runs = runs;
      goes = goes;
      same = ap (λ (n : ℕ). record doing { since = since_after doing.stage doing.since (length state.stored.notes); reads = n; trail = trail; stage = new }) (sym reads_are);
      trail = told;
      reading = reading;
      found = as_found trail;
    }

  -- ---- more is to be read

  no_gap : (IsResolved path got → ⊥) → got.1 ≡ None
  no_gap more = go got.1 refl
    where
      go : (o : Option Key) → got.1 ≡ o → o ≡ None
      go None is = refl
      go (Some at) is = absurd (more (inl (λ e. absurd (let bad : Some at ≡ None = sym is ∙ e in cc))))

  pub moves_on : (place_room room : ℕ) → (IsResolved path got → ⊥) → CanMove state s doing (stepped state doing path (at_rows place_room room got.0))
  moves_on place_room room more =
      let new : Stage = at_rows place_room room got.0 in
      let gaps : missing_in (at_rows place_room room got.0) ≡ option_to_list got.1 = sym (ap (λ (o : Option Key). option_to_list o) (no_gap more)) in
      moves new refl gaps doing.trail
      (subst (λ (stage : Stage). GoesOn inodes stage new) (sym un.stage) (subst (λ (stage : Stage). LooksFor inodes stage new) un.stage (looks new refl gaps)))
      (subst (λ (stage : Stage). IsTrail stage new doing.trail.items doing.trail.items) (sym un.stage) refl)
      (record {
        paths = refl;
        whole = tt;
        next = subst (λ (paths : List Path). MatchOption (slice_get paths 0) (got.0 ≡ []) (λ p. LeadAlong p got.0)) (sym (paths_alone doing.call [] un.of ∙ un.one)) (lead_along path got.0 gives.along);
        unflagged = unflagged;
      })

  -- the session is to read on
  pub unfinished : (IsResolved path got → ⊥) → IsUnfinished path got.0
  unfinished more = go (next_read path got.0) refl
    where
      at_name : (rest : List (List ℕ)) (kind : Kind) (at : Key) → gives.along.end.kind ≡ kind → option_and_then (stops_at gives.along.end.kind gives.along.end.id) (slice_get rest 0) ≡ Some at → at ≢ root_key
      at_name [] kind at so here = absurd (let bad : None ≡ Some at = here in cc)
      at_name (name ∷ rest) File at so here = absurd (let bad : None ≡ Some at = sym (ap (λ (k : Kind). stops_at k gives.along.end.id name) so) ∙ here in cc)
      at_name (name ∷ rest) Dir at so here =
          let keys : Some (key.Inode gives.along.end.id name) ≡ Some at = sym (ap (λ (k : Kind). stops_at k gives.along.end.id name) so) ∙ here in
          let one : key.Inode gives.along.end.id name ≡ at = cc in
          λ same. not_root gives.along.end.id name (gives.low more) (one ∙ same)

      go : (o : Option Key) → next_read path got.0 ≡ o → IsUnfinished path got.0
      go None is = absurd (more (inr is))
      go (Some at) is = record { at = at; next = is; other = at_name gives.along.rest gives.along.end.kind at refl (sym (next_along path got.0 gives.along) ∙ is) }

  -- ---- the path is resolved

  abbrev pub place_of : ℕ → Place
  place_of room = record { path = path; found = record { items = got.0; room = room }; missing = got.1; has_child = false }

  abbrev pub at_plan : ℕ → ℕ → List (Key × Mode) → Stage
  at_plan place_room room keys = Lock (record { items = place_of room ∷ []; room = place_room }) keys 0

  chain : (room : ℕ) → IsResolved path got → IsChain (plan doing.client doing.call (place_of room ∷ [])) None (place_of room)
  chain room done = record {
    spells = gives.spells done;
    root = ap (λ (rs : List (Key × Inode)). slice_get rs 0) gives.along.are;
    ends = ends_locked doing.client doing.call (place_of room) un.of (gives.spells done);
    unflagged = unflagged;
  }

  planned : (room : ℕ) (keys : List (Key × Mode)) → IsResolved path got → IsPlan (plan doing.client doing.call (place_of room ∷ [])) keys → IsPlanned doing.client doing.call (place_of room ∷ []) keys
  planned room keys done is = record {
    are = record { places = sym (paths_alone doing.call (place_of room ∷ []) un.of ∙ un.one); chains = (chain room done, tt) };
    of = same_locks (plan doing.client doing.call (place_of room ∷ [])) keys is;
    rises = is.rising;
  }

  pub ends_with : (place_room room trail_room : ℕ) (keys : List (Key × Mode)) → IsResolved path got → IsPlan (plan doing.client doing.call (place_of room ∷ [])) keys
      → CanMove state s doing (record (stepped state doing path (at_plan place_room room keys)) { trail = record { items = hints_of (place_of room ∷ []); room = trail_room } })
  ends_with place_room room trail_room keys done is =
      let new : Stage = at_plan place_room room keys in
      let rows : rows_in (at_plan place_room room keys) ≡ got.0 = append-nil (got.0 ++ []) ∙ append-nil got.0 in
      let gaps : missing_in (at_plan place_room room keys) ≡ option_to_list got.1 = append-nil (option_to_list got.1) in
      moves new rows gaps (record { items = hints_of (place_of room ∷ []); room = trail_room })
      (subst (λ (stage : Stage). GoesOn inodes stage new) (sym un.stage) (subst (λ (stage : Stage). LooksFor inodes stage new) un.stage (looks new rows gaps), refl))
      (subst (λ (stage : Stage). IsTrail stage new doing.trail.items (hints_of (place_of room ∷ []))) (sym un.stage) refl)
      (planned room keys done is, locks_some doing.client doing.call (place_of room) keys un.of is)
