-- A session that answers its call.
use Rattle.std.proofs.Common.{◌≡◌, ℕ, zero, suc, ◌+◌, ◌*◌, ◌-◌, ◌<◌, ◌≤◌, ◌^◌, Bool, true, false, ◌&&◌, nat_le, ◌==◌, cond, if◌then◌else◌, List, [], ◌∷◌, ◌++◌, map as list_map, length, slice_get, unwrap_or, Option, Some, None, IfSome, IsSome, option_map, refl, sym, ap, subst, ◌∙◌, arith}
use Rattle.std.proofs.lemmas.Bool.{and_parts}
use Rattle.std.proofs.lemmas.Bool.Decides.{nat_tests}
use Rattle.std.specs.Cmp.{first_so}
use Rattle.std.specs.List.{find, flat_map, list_all, sum_by, AllByRecursion}
use Rattle.hops_base.specs.Name.{is_name}
use Rattle.hops_base.specs.Path.{is_short, most_path_names}
use Rattle.hops_base.specs.Roomy.{Roomy}
use Rattle.hops_base.specs.declared.ids.ClientNo.{ClientNo}
use Rattle.hops_base.specs.declared.ids.InodeId.{InodeId}
use Rattle.hops_base.specs.declared.ids.Mode.{Mode}
use Rattle.hops_base.specs.declared.ids.SessionId.{SessionId}
use Rattle.hops_base.specs.declared.key.Key.{Key}
use Rattle.hops_base.specs.declared.key.Key.TheVariants as key
use Rattle.name_space.specs.declared.call.Call.{Call}
use Rattle.name_space.specs.declared.call.Call.TheVariants as call
use Rattle.name_space.specs.declared.reply.Reply.{Reply}
use Rattle.name_space.specs.Call.{a_path, is_in_range, is_valid, paths_of}
use Rattle.name_space.specs.Calls.{as_read, plain}
use Rattle.name_space.specs.Laws.{PlainKeepsANamespace}
use Rattle.name_space.specs.Namespace.{Namespace, Path, IsNamespace}
use Rattle.name_space.specs.Plain.{Answered}
use Rattle.name_space.specs.Script.{most_calls, most_clients}
use Rattle.name_space.proofs.CallForms.{valid_paths}
use Rattle.name_space.proofs.SumLaws.{total, total-is}
use Rattle.inode_table.specs.declared.inode.Inode.{Inode}
use Rattle.quota_table.specs.declared.quota.QuotaRow.{QuotaRow}
use Rattle.commit_log.specs.declared.note.Note.{Note}
use Rattle.commit_log.specs.declared.note.Note.TheVariants.{Did}
use Rattle.commit_log.specs.Ids.{ids, numbering_after, Numbering}
use Rattle.commit_log.specs.Legal.{applied, space, Legal, LegalAt}
use Rattle.commit_log.specs.Locks.{held}
use Rattle.commit_log.proofs.AlongLaws.{Each-push}
use Rattle.commit_log.proofs.IdLaws.{ids-exists}
use Rattle.commit_log.proofs.NumberingLaws.{ids-push}
use Rattle.commit_log.proofs.SpaceLaws.{space-push}
use Rattle.db_state.specs.declared.outcome.Outcome.{Outcome}
use Rattle.db_state.specs.declared.outcome.Outcome.TheVariants.{Answer}
use Rattle.db_state.specs.declared.session.Seat.{Seat}
use Rattle.db_state.specs.declared.session.Session.{Session}
use Rattle.db_state.specs.declared.session.Stage.{Stage}
use Rattle.db_state.specs.declared.session.Stage.TheVariants.{Commit}
use Rattle.db_state.specs.declared.view.Place.{Place}
use Rattle.db_state.specs.declared.view.View.{View}
use Rattle.db_state.specs.declared.writes.Row.{Row}
use Rattle.db_state.specs.BookParts.{most_new_ids}
use Rattle.db_state.specs.CallsTable.{IsAnswer, IsCallsTable, IsNumberedBy}
use Rattle.db_state.specs.Consistent.{IsConsistent}
use Rattle.db_state.specs.Core.{IsCore}
use Rattle.db_state.specs.Counts.{Counts}
use Rattle.db_state.specs.Current.{children_told, is_locked, IsCurrent, IsCurrentPlace, KnowsChild, SeesQuotas, SpellsPlace}
use Rattle.db_state.specs.Effects.{KeepsOthers, KeepsRows}
use Rattle.db_state.specs.Holding.{HoldsAll, StandsIn}
use Rattle.db_state.specs.Locked.{MayWrite, WritesOwn}
use Rattle.db_state.specs.Plan.{deepest, plan}
use Rattle.db_state.specs.PlaceOf.{IsPlaceOf}
use Rattle.db_state.specs.Reads.{locked_by, AllRead, IsChain, Reads}
use Rattle.db_state.specs.ReadSteps.{AllPairs, IsAsRead, IsViewOfReads}
use Rattle.db_state.specs.SessionParts.{asked_in, AreQuotasSeen, IsPlanned}
use Rattle.db_state.specs.Spelled.{AreGiven}
use Rattle.db_state.specs.Stages.{rows_in}
use Rattle.db_state.specs.Stands.{quota_of, Stands}
use Rattle.db_state.specs.State.{State}
use Rattle.db_state.specs.Steps.{CanAnswer, Completes, IsRunning}
use Rattle.db_state.specs.Stored.{Quotas, Stored, Tables}
use Rattle.db_state.specs.Written.{committed, next_after, state_of, tables_of, written}
use Rattle.db_state.proofs.AllLemmas.{all_front}
use Rattle.db_state.proofs.FlagLaws.{unflagged_stays}
use Rattle.db_state.proofs.ReadsEndLaws.{ends_locked}
use Rattle.db_state.proofs.ReadsViewLaws.{plan_of_view, view_current}
use Rattle.db_state.proofs.ViewLaws.{one_path}
use Rattle.inode_ops.specs.Outcomes.{path_of, CanMake, CanRaise, IsViewOf}
use Rattle.inode_ops.proofs.ViewLaws.{can_make, view_of_one}
use Rattle.hops_core.specs.declared.view.Asked.{Asked}
use Rattle.hops_core.specs.Commits.{Answers, HoldsPlanNow}
use Rattle.hops_core.specs.Steady.{IsInStep, IsSteady}
use Rattle.hops_core.specs.Views.{with_child, IsAskedFor, IsCommitting, IsMadeOf, IsOutcomeIn}
use Rattle.hops_core.proofs.HeldLemmas.{answer_held}
use Rattle.hops_core.proofs.NowLemmas.{alike_now, is_now, now_place, of_path, same_plan, IsBare}
use Rattle.hops_core.proofs.QuotaLaws.{no_mark, no_quota}

-- ---- the path of a call

some_of : {A : Type 0} (o : Option A) → IsSome o → (x : A) × (o ≡ Some x)
some_of None is = absurd (let bad = is in cc)
some_of (Some x) is = (x, refl)

paths_named : (asked : Call) (path : Path) → path_of asked ≡ Some path → paths_of asked ≡ path ∷ []
paths_named (call.Mkdirs own) path is = cc
paths_named (call.Create own overwrite) path is = cc
paths_named (call.Append own) path is = absurd (let bad = is in cc)
paths_named (call.Grow own bytes) path is = absurd (let bad = is in cc)
paths_named (call.Close own) path is = absurd (let bad = is in cc)
paths_named (call.Stat own) path is = cc
paths_named (call.List own) path is = cc
paths_named (call.Delete own true) path is = absurd (let bad = is in cc)
paths_named (call.Delete own false) path is = cc
paths_named (call.Rename source target) path is = absurd (let bad = is in cc)
paths_named (call.Chmod own mode) path is = cc
paths_named (call.SetQuota own names bytes) path is = absurd (let bad = is in cc)
paths_named (call.Usage own) path is = absurd (let bad = is in cc)

one_item : (places : List Place) (path : Path) → list_map (λ (place : Place). place.path) places ≡ path ∷ [] → (place : Place) × (places ≡ place ∷ []) × (place.path ≡ path)
one_item [] path is = absurd (let bad = is in cc)
one_item (place ∷ []) path is = (place, refl, cc)
one_item (place ∷ other ∷ places) path is = absurd (let bad = is in cc)

one_pair : {A B : Type 0} (R : A → B → Type 0) (x : A) (ys : List B) → AllPairs R (x ∷ []) ys → (y : B) × (ys ≡ y ∷ []) × R x y
one_pair R x [] all = absurd all
one_pair R x (y ∷ []) all = (y, refl, all.0)
one_pair R x (y ∷ z ∷ ys) all = absurd all.1

-- a valid path has at most a thousand names, each of them good
short_call : (asked : Call) (path : Path) → is_valid asked ≡ true → paths_of asked ≡ path ∷ [] → (list_all is_name path ≡ true) × (is_short path ≡ true)
short_call asked path valid one =
    let all = subst (λ (paths : List Path). list_all (λ (p : Path). is_in_range (a_path p)) paths ≡ true) one (valid_paths asked valid) in
    and_parts (list_all is_name path) (is_short path) (and_parts (is_in_range (a_path path)) true all).0

few_names : (path : Path) → is_short path ≡ true → length path ≤ 1000
few_names path short = let few : nat_le (length path) most_path_names ≡ true = first_so _ _ short in grind (arith, nat_tests)

-- what is told of a child says nothing of the children that a call tells
same_told : (inodes : _) (asked : Call) (place : Place) (says : Bool) → children_told inodes asked (record place { has_child = says } ∷ []) ≡ children_told inodes asked (place ∷ [])
same_told inodes (call.Mkdirs path) place says = refl
same_told inodes (call.Create path overwrite) place says = refl
same_told inodes (call.Append path) place says = refl
same_told inodes (call.Grow path bytes) place says = refl
same_told inodes (call.Close path) place says = refl
same_told inodes (call.Stat path) place says = refl
same_told inodes (call.List path) place says = refl
same_told inodes (call.Delete path recursive) place says = refl
same_told inodes (call.Rename source target) place says = refl
same_told inodes (call.Chmod path mode) place says = refl
same_told inodes (call.SetQuota path names bytes) place says = refl
same_told inodes (call.Usage path) place says = refl

-- ---- numbers

has_some : {A : Type 0} (xs : List A) (i : ℕ) (x : A) → slice_get xs i ≡ Some x → i < length xs
has_some [] i x at = absurd (let bad = at in cc)
has_some (y ∷ xs) zero x at = omega arith
has_some (y ∷ xs) (suc i) x at = let low = has_some xs i x at in omega arith

at_place : {A : Type 0} (xs : List A) (i : ℕ) → i < length xs → (x : A) × (slice_get xs i ≡ Some x)
at_place [] i low = absurd (omega arith)
at_place (x ∷ xs) zero low = (x, refl)
at_place (x ∷ xs) (suc i) low = at_place xs i (omega arith)

few_answered : (seats : List Seat) → AllByRecursion (λ (seat : Seat). (seat.answered ≤ seat.begun) × (seat.begun ≤ most_calls)) seats → total (λ (seat : Seat). seat.answered) seats ≤ 65536 * length seats
few_answered [] all = omega arith
few_answered (seat ∷ seats) all =
    let rest = few_answered seats all.1 in
    let low : seat.answered ≤ seat.begun = all.0.0 in
    let high : seat.begun ≤ 65536 = all.0.1 in
    omega arith

-- what holds of all rows holds of the last of them
of_row : (P : Inode → Type 0) (rows : List (Key × Inode)) (i : ℕ) → AllByRecursion (λ (r : Key × Inode). P r.1) rows → IfSome (option_map (λ (r : Key × Inode). r.1) (slice_get rows i)) P
of_row P [] i all = tt
of_row P (r ∷ rows) zero all = all.0
of_row P (r ∷ rows) (suc i) all = of_row P rows i all.1

-- where there are no quota rows, none is seen
none_seen : (quotas : Quotas) (locked : List (Key × Mode)) (seen : List (InodeId × QuotaRow)) → ((id : InodeId) → quota_of quotas id ≡ None) → SeesQuotas quotas locked seen → seen ≡ []
none_seen quotas locked [] none sees = refl
none_seen quotas locked (q ∷ seen) none sees = absurd (
    let self : (q.0.0 == q.0.0) ≡ true = grind (arith, nat_tests) in
    let here : option_map (λ (x : InodeId × QuotaRow). x.1) (find (λ (x : InodeId × QuotaRow). x.0.0 == q.0.0) (q ∷ seen)) ≡ Some q.1 =
    ap (λ (b : Bool). option_map (λ (x : InodeId × QuotaRow). x.1) (cond b (Some q) (find (λ (x : InodeId × QuotaRow). x.0.0 == q.0.0) seen))) self in
    let gone : option_map (λ (x : InodeId × QuotaRow). x.1) (find (λ (x : InodeId × QuotaRow). x.0.0 == q.0.0) (q ∷ seen)) ≡ None =
    sees.rows q.0 ∙ either (is_locked locked (key.Quota q.0)) (quota_of quotas q.0) (none q.0) in
    let bad : Some q.1 ≡ None = sym here ∙ gone in
    cc)
  where
    either : (b : Bool) (o : Option QuotaRow) → o ≡ None → (if b then o else None) ≡ None
    either true o is = is
    either false o is = refl

-- ---- the book and the rows once the session has answered

module _ (state : Stored) (s : SessionId) (by : ClientNo) (number reads : ℕ) (asked : Call) (user : List ℕ) (reply : Reply)
    (kept : IsConsistent state) (acts : slice_get state.settings.users by.0 ≡ Some user) where
  abbrev before : Namespace
  before = space state.settings.users state.notes

  abbrev answered : Answered
  answered = plain (space state.settings.users state.notes) by user asked

  abbrev note : Note
  note = Did s by number asked reads reply

  -- the client acts for the user
  applies : applied state.settings.users before by asked ≡ answered
  applies = ap (λ (o : Option (List ℕ)). plain before by (unwrap_or o []) asked) acts

  new_space : space state.settings.users (state.notes ++ note ∷ []) ≡ answered.space
  new_space = space-push state.settings.users state.notes note ∙ ap (λ (a : Answered). a.space) applies

  legal_after : as_read reply ≡ answered.reply → Legal state.settings.users (state.notes ++ note ∷ [])
  legal_after told = Each-push (LegalAt state.settings.users) state.notes note kept.legal (told ∙ sym (ap (λ (a : Answered). a.reply) applies))

  new_ids : ids state.settings.users (state.notes ++ note ∷ []) ≡ numbering_after (ids state.settings.users state.notes) before answered.space note
  new_ids = ids-push state.settings.users state.notes note ∙ ap (λ (a : Answered). numbering_after (ids state.settings.users state.notes) before a.space note) applies

  -- they are consistent
  pub consistent_then : (view : View) (writes : List (Key × Option Row)) → PlainKeepsANamespace → list_all (list_all is_name) (paths_of asked) ≡ true → view.next.0 ≡ state.next
      → IsAnswer (tables_of state) (space state.settings.users state.notes) by user asked view reply writes → IsConsistent (committed state writes (Did s by number asked reads reply ∷ []))
  consistent_then view writes keeps names next answer =
      let tables : Tables = written (tables_of state) writes in
      let first : IsNumberedBy (ids state.settings.users state.notes) state.inodes view.next.0 (space state.settings.users state.notes) = record {
        all = ids-exists state.settings.users state.notes;
        given = kept.numbered.given;
        least = next ∙ kept.numbered.least;
      } in
      let numbered = answer.ids (ids state.settings.users state.notes) s number reads reply first in
      let there : IsConsistent (state_of tables state.settings (state.notes ++ note ∷ []) (next_after view.next.0 writes)) = record {
        tree = answer.rows.tree;
        numbered = record {
          given = subst (AreGiven tables.inodes) (sym new_ids) numbered.given;
          least = numbered.least ∙ sym (ap (λ (n : Numbering). n.next) new_ids);
        };
        legal = legal_after answer.told;
        names = subst IsNamespace (sym new_space) (keeps before by user asked kept.names names);
        stands = subst (Stands tables.inodes tables.quotas []) (sym new_space) answer.rows.stands;
        counts = subst (Counts tables.inodes tables.quotas) (sym new_space) answer.rows.counts;
        flags = unflagged_stays state.inodes tables.inodes kept.flags answer.flags;
      } in
      subst (λ (n : ℕ). IsConsistent (state_of tables state.settings (state.notes ++ note ∷ []) (next_after n writes))) next there

-- ---- the session

module _ (state : State) (s : SessionId) (doing : Session) (reads : Reads) (keys : List (Key × Mode)) (core : IsCore state) (steady : IsSteady state) (runs : IsRunning state s doing) (stage : doing.stage ≡ Commit reads keys) where
  reading : IsPlanned doing.client doing.call reads.places keys × StandsIn state.stored s (asked_in doing) reads × AreQuotasSeen keys reads × AllRead reads.marks
  reading = rw stage at (core.reads s doing runs.there)

  in_step : IsInStep doing
  in_step = steady.each s doing runs

  pub path : (p : Path) × (path_of doing.call ≡ Some p)
  path = some_of (path_of doing.call) in_step.built

  one : paths_of doing.call ≡ path.0 ∷ []
  one = paths_named doing.call path.0 path.1

  user : (name : List ℕ) × (slice_get state.stored.settings.users doing.client.0 ≡ Some name)
  user =
      let seated = core.seats.seated s doing runs.there in
      let low : doing.client.0 < length state.seats = has_some state.seats doing.client.0 seated.seat seated.there in
      let each : length state.seats ≡ length state.stored.settings.users = core.seats.each in
      at_place state.stored.settings.users doing.client.0 (omega arith)

  pub place : (p : Place) × (reads.places ≡ p ∷ []) × (p.path ≡ path.0)
  place = one_item reads.places path.0 (reading.1.reads.places ∙ one_path doing.call path.0 reads.places one)

  pub committing : IsCommitting state s
  committing = (doing, reads, keys, place.0, user.0, record { runs = runs; stage = stage; read = place.1; acts = user.1 })

  -- what holds of all rows holds of those of the place
  of_rows : (P : Key × Inode → Type 0) → AllByRecursion P (rows_in doing.stage) → AllByRecursion P place.0.found.items
  of_rows P all = all_front P place.0.found.items [] (all_front P (place.0.found.items ++ []) []
      (subst (λ (places : List Place). AllByRecursion P (flat_map (λ (p : Place). p.found.items) places ++ [])) place.1 (subst (λ (st : Stage). AllByRecursion P (rows_in st)) stage all)))

  spells : SpellsPlace place.0
  spells = (subst (AllByRecursion (IsChain (locked_by (asked_in doing) reads) None)) place.1 reading.1.reads.chains).0.spells

  valid : (list_all is_name path.0 ≡ true) × (is_short path.0 ≡ true)
  valid = short_call doing.call path.0 (core.opened s doing runs.there).valid one

  -- ids don't run out
  room : length state.stored.settings.users ≤ most_clients → state.stored.next + length path.0 < 2 ^ 64
  room few =
      let names : length path.0 ≤ 1000 = few_names path.0 valid.1 in
      let seats : length state.seats ≡ length state.stored.settings.users = core.seats.each in
      let sum : sum_by (λ (seat : Seat). seat.answered) state.seats ≡ total (λ (seat : Seat). seat.answered) state.seats = total-is (λ (seat : Seat). seat.answered) state.seats in
      let most : total (λ (seat : Seat). seat.answered) state.seats ≤ 65536 * length state.seats = few_answered state.seats core.seats.numbers in
      let next : state.stored.next ≤ 2 + 2000 * sum_by (λ (seat : Seat). seat.answered) state.seats = core.ids in
      let clients : length state.stored.settings.users ≤ 64 = few in
      omega arith

  no_quotas_seen : reads.quotas ≡ []
  no_quotas_seen = none_seen state.stored.quotas (locked_by (asked_in doing) reads) reads.quotas (no_quota state.stored core.stored steady.limitless) reading.1.stand.quotas

  -- ---- a view that is made of what it has read

  module _ (asked : Asked) (for : IsAskedFor state doing place.0 asked) (view : View) (made : IsMadeOf reads asked view) where
    abbrev seen : Place
    seen = record place.0 { has_child = asked.has_child }

    seen_alone : view.places.items ≡ seen ∷ []
    seen_alone = made.places ∙ ap (with_child asked.has_child) place.1

    next_is : view.next.0 ≡ state.stored.next
    next_is = ap (λ (id : InodeId). id.0) made.next ∙ for.next

    fits : CanMake seen view.quotas.items view.next.0
    fits =
        let ids : state.stored.next + length path.0 < 2 ^ 64 = room for.few in
        let long : length place.0.path ≡ length path.0 = ap length place.2 in
        let next : view.next.0 ≡ state.stored.next = next_is in
        can_make seen view.quotas.items view.next.0
        (subst (λ (n : ℕ). IfSome (deepest seen) (λ (row : Inode). row.id.0 < n)) (sym next)
        (of_row (λ (row : Inode). row.id.0 < state.stored.next) place.0.found.items (length place.0.found.items - 1) (of_rows (λ (r : Key × Inode). r.1.id.0 < state.stored.next) (core.old s doing runs.there))))
        (omega arith)
        (subst (CanRaise (length place.0.path)) (sym (made.quotas ∙ no_quotas_seen)) tt)

    pub enough : IsViewOf view asked.call
    enough = subst (IsViewOf view) (sym for.call) (view_of_one doing.call seen view seen_alone (path.1 ∙ ap (λ (p : Path). Some p) (sym place.2)) spells fits)

    pub viewed : IsViewOfReads state.stored.inodes state.stored.next doing.call reads view
    viewed = record {
      places = subst (λ (ps : List Place). AllPairs IsAsRead ps view.places.items) (sym place.1) (subst (AllPairs IsAsRead (place.0 ∷ [])) (sym seen_alone) (record { path = refl; found = refl; missing = refl }, tt));
      child = subst (AllByRecursion (KnowsChild state.stored.inodes)) (sym seen_alone) (for.child, tt);
      quotas = made.quotas;
      children = ap (λ (l : Roomy _). l.items) made.children ∙ for.children ∙ sym (same_told state.stored.inodes doing.call place.0 asked.has_child) ∙ sym (ap (children_told state.stored.inodes doing.call) seen_alone);
      next_id = next_is;
    }

  -- ---- its answer

  module _ (outcome : Outcome) (out : IsOutcomeIn state doing reads outcome) (reply : Reply) (writes : Roomy (Key × Option Row)) (is : outcome ≡ Answer reply writes) (keeps_names : PlainKeepsANamespace) where
    abbrev locked : List (Key × Mode)
    locked = locked_by (asked_in doing) reads

    current : IsCurrent state.stored.inodes state.stored.quotas None doing.client doing.call out.view
    current = view_current state.stored.inodes state.stored.next state.stored.quotas core.stored.tree (asked_in doing) reads out.view reading.1.reads reading.1.stand reading.3 out.viewed

    same_locks : plan doing.client doing.call out.view.places.items ≡ locked_by (asked_in doing) reads
    same_locks = plan_of_view state.stored.inodes state.stored.next (asked_in doing) reads out.view out.viewed

    answer : IsAnswer (tables_of state.stored) (space state.stored.settings.users state.stored.notes) doing.client out.user doing.call out.view reply writes.items
    answer = subst (IsCallsTable out.view doing.client out.user doing.call) is out.table (tables_of state.stored) state.stored.next (space state.stored.settings.users state.stored.notes) None (record {
      tree = core.stored.tree;
      names = core.stored.names;
      stands = core.stored.stands;
      counts = core.stored.counts;
      current = current;
    })

    few : next_after state.stored.next writes.items ≤ state.stored.next + most_new_ids
    few =
        let taken : next_after state.stored.next writes.items ≤ state.stored.next + sum_by length (paths_of doing.call) = subst (λ (n : ℕ). next_after n writes.items ≤ n + sum_by length (paths_of doing.call)) out.viewed.next_id answer.few in
        let names : length path.0 ≤ 1000 = few_names path.0 valid.1 in
        let sum : sum_by length (paths_of doing.call) ≡ length path.0 + 0 = ap (sum_by length) one ∙ total-is length (path.0 ∷ []) in
        omega arith

    own : AllByRecursion (MayWrite (locked_by (asked_in doing) reads) state.stored.next) writes.items
    own =
        subst (λ (n : ℕ). AllByRecursion (MayWrite (locked_by (asked_in doing) reads) n) writes.items) out.viewed.next_id
        (subst (λ (l : List (Key × Mode)). AllByRecursion (MayWrite l out.view.next.0) writes.items) same_locks
        (subst (WritesOwn out.view doing.client doing.call) is out.own state.stored.inodes state.stored.quotas None current))

    keeps : KeepsRows (locked_by (asked_in doing) reads) state.stored.next None state.stored.inodes (committed state.stored writes.items []).inodes
    keeps =
        subst (λ (n : ℕ). KeepsRows (locked_by (asked_in doing) reads) n None state.stored.inodes (committed state.stored writes.items []).inodes) out.viewed.next_id
        (subst (λ (l : List (Key × Mode)). KeepsRows l out.view.next.0 None state.stored.inodes (committed state.stored writes.items []).inodes) same_locks
        (subst (KeepsOthers out.view doing.client doing.call) is out.keeps (tables_of state.stored) None current))

    -- the place of its view, and the one that the rows have now
    looked : (p : Place) × (out.view.places.items ≡ p ∷ []) × IsAsRead place.0 p
    looked = one_pair IsAsRead place.0 out.view.places.items (subst (λ (ps : List Place). AllPairs IsAsRead ps out.view.places.items) place.1 out.viewed.places)

    current_place : IsCurrentPlace state.stored.inodes (plan doing.client doing.call (looked.0 ∷ [])) None looked.0
    current_place = (subst (λ (ps : List Place). AllByRecursion (IsCurrentPlace state.stored.inodes (plan doing.client doing.call ps) None) ps) looked.1 current.current).0

    now : (p : Place) × IsPlaceOf state.stored.inodes path.0 p × HoldsAll (held state.stored.notes) s (plan doing.client doing.call (p ∷ []))
    now =
        let ends = ends_locked doing.client doing.call looked.0 (of_path doing.call in_step.built) current_place.spells in
        let bare : AllByRecursion IsBare looked.0.found.items = subst (λ (l : Roomy (Key × Inode)). AllByRecursion IsBare l.items) (sym looked.2.found) (of_rows IsBare in_step.unlimited) in
        let alike = alike_now state.stored.inodes (plan doing.client doing.call (looked.0 ∷ [])) None looked.0 current_place ends bare (no_mark state.stored core.stored steady.limitless) in
        let holds : HoldsAll (held state.stored.notes) s (plan doing.client doing.call (looked.0 ∷ [])) =
        subst (λ (ps : List Place). HoldsAll (held state.stored.notes) s (plan doing.client doing.call ps)) looked.1 (subst (HoldsAll (held state.stored.notes) s) (sym same_locks) reading.1.holds) in
        let there : IsPlaceOf state.stored.inodes looked.0.path (now_place state.stored.inodes (plan doing.client doing.call (looked.0 ∷ [])) looked.0 current_place.there) =
        is_now state.stored.inodes (plan doing.client doing.call (looked.0 ∷ [])) None looked.0 current_place ends in (
          now_place state.stored.inodes (plan doing.client doing.call (looked.0 ∷ [])) looked.0 current_place.there,
          subst (λ (p : Path). IsPlaceOf state.stored.inodes p (now_place state.stored.inodes (plan doing.client doing.call (looked.0 ∷ [])) looked.0 current_place.there)) (looked.2.path ∙ place.2) there,
          subst (HoldsAll (held state.stored.notes) s) (sym (same_plan doing.client looked.0 (now_place state.stored.inodes (plan doing.client doing.call (looked.0 ∷ [])) looked.0 current_place.there) alike doing.call in_step.built)) holds,
        )

    pub can : CanAnswer state s doing reads keys writes.items reply
    can = record {
      there = runs.there;
      stage = stage;
      consistent = consistent_then state.stored s doing.client doing.number doing.reads doing.call out.user reply core.stored out.acts out.view writes.items keeps_names
          (ap (list_all (list_all is_name)) one ∙ ap (λ (b : Bool). b && true) valid.0) out.viewed.next_id answer;
      few = few;
      looks = answer.looks;
      own = own;
      keeps = keeps;
      held = answer_held state.stored s doing.client doing.number doing.reads doing.call reply path.0 now.0 core.stored (of_path doing.call in_step.built) one now.1 now.2;
    }

    holds_now : HoldsPlanNow state s doing
    holds_now = record {
      places = now.0 ∷ [];
      now = record {
        paths = ap (λ (p : Path). p ∷ []) now.1.of ∙ sym (one_path doing.call path.0 (now.0 ∷ []) one);
        are = (subst (λ (p : Path). IsPlaceOf state.stored.inodes p now.0) (sym now.1.of) now.1, tt);
      };
      holds = now.2;
    }

    -- so it has answered
    pub answers : (new : State) (count : ℕ) (told : Reply) → Completes state new s doing writes.items reply → count ≡ length state.stored.notes → told ≡ reply → Answers state new s doing count told
    answers new count told completes counted copied = subst (Answers state new s doing count) (sym copied) (record {
      reads = reads;
      keys = keys;
      writes = writes.items;
      can = can;
      completes = completes;
      note = counted;
      built = in_step.built;
      plain = record { user = out.user; acts = out.acts; told = answer.told };
      holds = holds_now;
    })
