-- A step that is taken is a move of the session.
use Rattle.std.proofs.Common.{◌≡◌, ℕ, ◌+◌, ◌≤◌, ◌<◌, Bool, false, ◌==◌, if◌then◌else◌, List, [], ◌∷◌, length, Option, Some, None, IfSome, option_map, arith, refl, sym, ap, subst, ◌∙◌, ◌⊎◌, inl, inr}
use Rattle.std.specs.FinMap as map
use Rattle.hops_base.specs.declared.hint.Hint.{Hint}
use Rattle.hops_base.specs.declared.ids.ClientNo.{ClientNo}
use Rattle.hops_base.specs.declared.ids.Mode.{Mode}
use Rattle.hops_base.specs.declared.ids.SessionId.{SessionId}
use Rattle.hops_base.specs.declared.key.Key.{Key}
use Rattle.inode_table.specs.declared.inode.Inode.{Inode}
use Rattle.name_space.specs.Namespace.{Path}
use Rattle.name_space.specs.declared.call.Call.{Call}
use Rattle.name_space.specs.declared.call.Call.TheVariants as call
use Rattle.row_locks.specs.Plans.{IsPlan}
use Rattle.db_state.specs.declared.session.Position.{Position}
use Rattle.db_state.specs.declared.session.Session.{Session}
use Rattle.db_state.specs.declared.session.Stage.TheVariants.{Lock}
use Rattle.db_state.specs.declared.view.Place.{Place}
use Rattle.db_state.specs.Core.{IsCore}
use Rattle.db_state.specs.Moves.{hints_of, since_after}
use Rattle.db_state.specs.Plan.{plan}
use Rattle.db_state.specs.Stages.{position_of, with_position}
use Rattle.db_state.specs.State.{State}
use Rattle.db_state.specs.Steps.{CanMove, IsRunning, moved_by}
use Rattle.db_state.specs.Stored.{Inodes}
use Rattle.path_resolver.specs.declared.step.End.{End}
use Rattle.path_resolver.specs.declared.step.Lists.{Lists}
use Rattle.path_resolver.specs.declared.step.Step.{Step}
use Rattle.path_resolver.specs.Resolving.{begun, counted_for, got_by, next_read, read_at, stepped, with_read, IsResolved, CanResolve, IsResolveStep, IsUnfinished, IsUnresolved}
use Rattle.path_resolver.specs.Stepping.{come, gap_at, gap_if, list_after, lists_for, place_at, row_at, rows_after, taken, told_by, HasRoom, IsBegun, IsEnd, IsEndOf, IsStepBy, IsStepOf}
use Rattle.path_resolver.proofs.CountLaws.{read_none}
use Rattle.path_resolver.proofs.RowLaws.{room_along}
use Rattle.path_resolver.proofs.StepLaws.{at_rows, at_plan, along, lead, old_count, plain, unfinished, moves_on, ends_with}

-- ---- what was looked for

got_at : (inodes : Inodes) (rows : List (Key × Inode)) (next : Option Key) → (rows_after rows (row_at inodes next), gap_at inodes next) ≡ read_at inodes rows next
got_at inodes rows None = refl
got_at inodes rows (Some at) = go (map.get inodes at)
  where
    go : (o : Option Inode) → (rows_after rows (option_map (λ (row : Inode). (at, row)) o), gap_if at o) ≡ with_read rows at o
    go None = refl
    go (Some row) = refl

-- the plan doesn't tell how much room a place has
plan_roomy : (client : ClientNo) (asked : Call) (path : Path) (rows : List (Key × Inode)) (missing : Option Key) (room : ℕ)
    → plan client asked (place_at path rows missing ∷ []) ≡ plan client asked (record { path = path; found = record { items = rows; room = room }; missing = missing; has_child = false } ∷ [])
plan_roomy client (call.Mkdirs p) path rows missing room = refl
plan_roomy client (call.Create p overwrite) path rows missing room = refl
plan_roomy client (call.Append p) path rows missing room = refl
plan_roomy client (call.Grow p bytes) path rows missing room = refl
plan_roomy client (call.Close p) path rows missing room = refl
plan_roomy client (call.Stat p) path rows missing room = refl
plan_roomy client (call.List p) path rows missing room = refl
plan_roomy client (call.Delete p recursive) path rows missing room = refl
plan_roomy client (call.Rename p q) path rows missing room = refl
plan_roomy client (call.Chmod p mode) path rows missing room = refl
plan_roomy client (call.SetQuota p names bytes) path rows missing room = refl
plan_roomy client (call.Usage p) path rows missing room = refl

-- ---- the lists to which a step adds

-- they hold no place and the rows found so far, and have room
record AreReady (path : Path) (found : List (Key × Inode)) (lists : Lists) : Type 0 where
  place_room : ℕ
  room : ℕ
  are : lists ≡ record { places = record { items = []; room = place_room }; found = record { items = begun found; room = room } }
  has_place : 1 ≤ place_room
  has_rows : length path + 1 ≤ room

lists_ready : (path : Path) (found : List (Key × Inode)) (lists : Option Lists) (place_room room : ℕ) → IsBegun path found lists
    → (found ≡ []) ⊎ (IsUnfinished path found × (length path + 1 ≤ room) × (1 ≤ place_room)) → AreReady path found (lists_for lists (at_rows place_room room found))
lists_ready path [] None place_room room is un = absurd is
lists_ready path [] (Some lists) place_room room is un = record {
  place_room = lists.places.room;
  room = lists.found.room;
  are = ap (λ (ps : List Place). record { places = record { items = ps; room = lists.places.room }; found = lists.found }) is.places
      ∙ ap (λ (rs : List (Key × Inode)). record { places = record { items = []; room = lists.places.room }; found = record { items = rs; room = lists.found.room } }) is.found;
  has_place = is.place_room;
  has_rows = is.room;
}
lists_ready path (row ∷ rows) lists place_room room is (inl none) = absurd (let bad : row ∷ rows ≡ [] = none in cc)
lists_ready path (row ∷ rows) lists place_room room is (inr un) = record {
  place_room = place_room;
  room = room;
  are = ap (λ (o : Option Lists). lists_for o (at_rows place_room room (row ∷ rows))) is;
  has_place = un.2;
  has_rows = un.1;
}

-- ---- the step

module _ (state : State) (s : SessionId) (doing : Session) (path : Path) (found : List (Key × Inode)) (core : IsCore state) (runs : IsRunning state s doing) (un : IsUnresolved doing path found) (step : Step) (is : IsStepOf state.stored doing path found step) where
  abbrev got : List (Key × Inode) × Option Key
  got = got_by state path found

  abbrev long : ℕ
  long = since_after doing.stage doing.since (length state.stored.notes)

  ready : AreReady path found (lists_for step.begun (at_rows un.place_room un.room found))
  ready = lists_ready path found step.begun un.place_room un.room is.lists un.unfinished

  lists_are : lists_for step.begun doing.stage ≡ record { places = record { items = []; room = ready.place_room }; found = record { items = begun found; room = ready.room } }
  lists_are = ap (lists_for step.begun) un.stage ∙ ready.are

  looked : (rows_after (begun found) step.look.row, step.look.missing) ≡ got
  looked =
      ap (λ (o : Option (Key × Inode)). (rows_after (begun found) o, step.look.missing)) is.look.row
      ∙ ap (λ (o : Option Key). (rows_after (begun found) (row_at state.stored.inodes (next_read path (begun found))), o)) is.look.missing
      ∙ got_at state.stored.inodes (begun found) (next_read path (begun found))

  since_is : step.since ≡ long
  since_is = is.since ∙ ap (λ (b : Bool). if b then length state.stored.notes else doing.since)
      (sym (ap (λ (n : ℕ). n == 0) (old_count state s doing path found core runs un) ∙ read_none path found (lead state s doing path found core runs un)))

  -- there is room for it
  pub has_room : HasRoom step doing.stage
  has_room = record {
    places = record { items = []; room = un.place_room };
    found = record { items = found; room = un.room };
    is = un.stage;
    row = subst (λ (lists : Lists). IfSome step.look.row (λ row. length lists.found.items < lists.found.room)) (sym lists_are) (row_room (next_read path (begun found)) refl step.look.row is.look.row);
    place = subst (λ (lists : Lists). IfSome step.end (λ end. length lists.places.items < lists.places.room)) (sym lists_are) (place_room step.end);
  }
    where
      row_room : (next : Option Key) → next_read path (begun found) ≡ next → (o : Option (Key × Inode)) → o ≡ row_at state.stored.inodes next → IfSome o (λ row. length (begun found) < ready.room)
      row_room next e None row = tt
      row_room None e (Some r) row = absurd (let bad : Some r ≡ None = row in cc)
      row_room (Some at) e (Some r) row =
          let few : length (begun found) ≤ length path = room_along path (begun found) at (along state s doing path found core runs un) e in
          let room : length path + 1 ≤ ready.room = ready.has_rows in
          omega arith

      place_room : (o : Option End) → IfSome o (λ end. 0 < ready.place_room)
      place_room None = tt
      place_room (Some end) = ready.has_place

  -- what becomes of the session, by what is known of the step
  made : ℕ → ℕ → List (Key × Inode) → Option Key → Option End → Position
  made since reads rows missing None = record { since = since; reads = reads; trail = doing.trail; stage = at_rows ready.place_room ready.room rows }
  made since reads rows missing (Some end) = record {
    since = since;
    reads = reads;
    trail = end.trail;
    stage = Lock (record { items = record { path = end.path; found = record { items = rows; room = ready.room }; missing = missing; has_child = false } ∷ []; room = ready.place_room }) end.plan 0;
  }

  come_is : (o : Option End) → come step (position_of doing) (record { places = record { items = []; room = ready.place_room }; found = record { items = rows_after (begun found) step.look.row; room = ready.room } }) o
      ≡ made step.since step.reads (rows_after (begun found) step.look.row) step.look.missing o
  unfolding made
  come_is None = refl
  come_is (Some end) = refl

  taken_is : taken step (position_of doing) ≡ made long (counted_for path doing.reads) got.0 got.1 step.end
  taken_is =
      ap (λ (lists : Lists). come step (position_of doing) (record { places = lists.places; found = list_after lists.found step.look.row }) step.end) lists_are
      ∙ come_is step.end
      ∙ ap (λ (n : ℕ). made n step.reads (rows_after (begun found) step.look.row) step.look.missing step.end) since_is
      ∙ ap (λ (n : ℕ). made long n (rows_after (begun found) step.look.row) step.look.missing step.end) is.reads
      ∙ ap (λ (p : List (Key × Inode) × Option Key). made long (counted_for path doing.reads) p.0 p.1 step.end) looked

  abbrev Goes : Option End → Type 0
  Goes o = (new : State) → new ≡ moved_by state s (with_position doing (made long (counted_for path doing.reads) got.0 got.1 o))
      → CanMove state s doing (with_position doing (made long (counted_for path doing.reads) got.0 got.1 o)) × IsResolveStep state s doing path found (told_by o) new

  goes_on : (IsResolved path got → ⊥) → Goes None
  unfolding made
  goes_on more = λ new moved. (
    moves_on state s doing path found core runs un ready.place_room ready.room more,
    record {
      after = stepped state doing path (at_rows ready.place_room ready.room got.0);
      room = ready.room;
      place_room = ready.place_room;
      unfinished = more;
      plain = plain state s doing path found core runs un;
      is = refl;
      unresolved = record {
        of = un.of;
        one = un.one;
        room = ready.room;
        place_room = ready.place_room;
        stage = refl;
        unfinished = inr (unfinished state s doing path found core runs un more, ready.has_rows, ready.has_place);
      };
      moved = moved;
    },
  )

  abbrev rowed : ℕ → Place
  rowed room = record { path = path; found = record { items = got.0; room = room }; missing = got.1; has_child = false }

  ends : (end : End) → IsEndOf doing path got.0 got.1 end → Goes (Some end)
  unfolding made
  ends end ended = λ new moved. (
    subst (CanMove state s doing) (sym same) can,
    record {
      place = rowed ready.room;
      keys = end.plan;
      room = ready.place_room;
      trail_room = end.trail.room;
      done = ended.done;
      plain = plain state s doing path found core runs un;
      of = refl;
      rows = refl;
      missing = refl;
      planned = planned;
      moved = moved ∙ ap (moved_by state s) same;
    },
  )
    where
      planned : IsPlan (plan doing.client doing.call (rowed ready.room ∷ [])) end.plan
      planned = subst (λ (wanted : List (Key × Mode)). IsPlan wanted end.plan) (plan_roomy doing.client doing.call path got.0 got.1 ready.room) ended.planned

      can : CanMove state s doing (record (stepped state doing path (at_plan state s doing path found core runs un ready.place_room ready.room end.plan)) { trail = record { items = hints_of (rowed ready.room ∷ []); room = end.trail.room } })
      can = ends_with state s doing path found core runs un ready.place_room ready.room end.trail.room end.plan ended.done planned

      same : with_position doing (made long (counted_for path doing.reads) got.0 got.1 (Some end))
          ≡ record (stepped state doing path (at_plan state s doing path found core runs un ready.place_room ready.room end.plan)) { trail = record { items = hints_of (rowed ready.room ∷ []); room = end.trail.room } }
      same =
          ap (λ (p : Path). record doing { since = long; reads = counted_for path doing.reads; trail = end.trail; stage = Lock (record { items = record { path = p; found = record { items = got.0; room = ready.room }; missing = got.1; has_child = false } ∷ []; room = ready.place_room }) end.plan 0 }) ended.of
          ∙ ap (λ (hints : List Hint). record doing { since = long; reads = counted_for path doing.reads; trail = record { items = hints; room = end.trail.room }; stage = at_plan state s doing path found core runs un ready.place_room ready.room end.plan }) ended.trail

  goes : (o : Option End) → IsEnd doing path got.0 got.1 o → Goes o
  goes None more = goes_on more
  goes (Some end) ended = ends end ended

  -- a step that is taken is a move, and is told
  pub step_goes : (new : State) → new ≡ moved_by state s (with_position doing (taken step (position_of doing)))
      → CanMove state s doing (with_position doing (taken step (position_of doing))) × IsResolveStep state s doing path found (told_by step.end) new
  step_goes = subst (λ (position : Position). (new : State) → new ≡ moved_by state s (with_position doing position) → CanMove state s doing (with_position doing position) × IsResolveStep state s doing path found (told_by step.end) new)
      (sym taken_is) (goes step.end (subst (λ (p : List (Key × Inode) × Option Key). IsEnd doing path p.0 p.1 step.end) looked is.end))

-- ---- which session it is

-- the session that runs resolves a path
pub resolves : (state : State) (s : SessionId) (doing : Session) → CanResolve state s → IsRunning state s doing → (path : Path) × (found : List (Key × Inode)) × IsUnresolved doing path found
resolves state s doing is runs =
    let both : Some is.0 ≡ Some doing = sym is.3.there ∙ runs.there in
    let one : is.0 ≡ doing = cc in
    (is.1, is.2, subst (λ (d : Session). IsUnresolved d is.1 is.2) one is.4)

-- a step that was made for the session under the number is made for it
pub step_for : (state : State) (s : SessionId) (doing seen : Session) (path : Path) (found : List (Key × Inode)) (step : Step) → Some seen ≡ map.get state.sessions s.0 → IsRunning state s doing
    → IsStepBy state.stored seen step → IsUnresolved doing path found → IsStepOf state.stored doing path found step
step_for state s doing seen path found step there runs by un =
    let both : Some seen ≡ Some doing = there ∙ runs.there in
    let one : seen ≡ doing = cc in
    subst (λ (d : Session). IsStepBy state.stored d step) one by path found un
