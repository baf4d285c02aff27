-- The outcomes of the calls write no keys but their own.
use Rattle.std.proofs.Common.{◌≡◌, ℕ, ◌-◌, Bool, true, false, not, ◌||◌, List, [], ◌∷◌, ◌++◌, length, take, slice_get, Option, Some, None, IfSome, Result, Ok, Err, IfOk, refl, sym, ap, subst, ◌∙◌}
use Rattle.std.proofs.lemmas.Bool.{or_left, or_right}
use Rattle.std.proofs.lemmas.List.Folds.{list_any-append}
use Rattle.std.specs.List.{AllByRecursion, list_any}
use Rattle.hops_base.specs.Roomy.{Roomy}
use Rattle.hops_base.specs.declared.ids.ClientNo.{ClientNo}
use Rattle.hops_base.specs.declared.ids.InodeId.{InodeId}
use Rattle.hops_base.specs.declared.ids.OpId.{OpId}
use Rattle.hops_base.specs.declared.ids.Mode.{Mode}
use Rattle.hops_base.specs.declared.ids.Mode.TheVariants.{Exclusive}
use Rattle.hops_base.specs.declared.key.Key.{Key}
use Rattle.hops_base.specs.declared.key.Key.TheVariants as key
use Rattle.hops_base.specs.declared.memory.NoMemory.{NoMemory}
use Rattle.hops_base.specs.Key.{same_key}
use Rattle.name_space.specs.declared.call.Call.{Call}
use Rattle.name_space.specs.declared.call.Call.TheVariants as call
use Rattle.name_space.specs.declared.reply.Reply.{Reply}
use Rattle.name_space.specs.declared.reply.Exception.{Exception}
use Rattle.inode_table.specs.declared.inode.Inode.{Inode}
use Rattle.inode_table.specs.declared.inode.Kind.{Kind}
use Rattle.inode_table.specs.declared.inode.Kind.TheVariants.{Dir, File}
use Rattle.quota_table.specs.declared.quota.QuotaRow.{QuotaRow}
use Rattle.name_space.specs.Plain.{is_root}
use Rattle.db_state.specs.Spelled.{Inodes}
use Rattle.db_state.specs.Stands.{Quotas}
use Rattle.db_state.specs.Current.{Leads, IsCurrent, IsCurrentPlace, SeesQuotas}
use Rattle.db_state.specs.Locked.{is_own, is_in_new, MayWrite, WritesOwn}
use Rattle.db_state.specs.NewDirs.{new_dirs}
use Rattle.inode_ops.specs.NewFile.{new_file_rows}
use Rattle.db_state.specs.Plan.{plan, in_mode, where_so, is_whole, low, next, parent, quotas, lease, writer_lease, last_found}
use Rattle.db_state.specs.QuotaWrites.{quota_writes}
use Rattle.db_state.specs.declared.outcome.Outcome.{Outcome}
use Rattle.db_state.specs.declared.outcome.Outcome.TheVariants.{Answer, Subtree}
use Rattle.db_state.specs.declared.view.Place.{Place}
use Rattle.db_state.specs.declared.view.View.{View}
use Rattle.db_state.specs.declared.writes.Row.{Row}
use Rattle.db_state.specs.declared.writes.Row.TheVariants as row
use Rattle.inode_ops.specs.ChmodSteps.{IsModeSet}
use Rattle.inode_ops.specs.CreateSteps.{overwritten, IsFiledUnless, IsOverwritten, CreateOf, AnswersCreate}
use Rattle.inode_ops.specs.DeleteSteps.{removals, RemovesLast, DeleteOf, AnswersDelete}
use Rattle.inode_ops.specs.Outcomes.{IsViewOf}
use Rattle.inode_ops.specs.QuotaSteps.{first_full, GoesOnCounted}
use Rattle.inode_ops.specs.Steps.{missing_names, IsTold, IsMadeUnless, MkdirsOf, AnswersMkdirs, StatOf, AnswersStat}
use Rattle.inode_ops.proofs.CreateLemmas.{first_parts}
use Rattle.inode_ops.proofs.DeleteLemmas.{delete_locks_quotas}
use Rattle.inode_ops.proofs.OutcomeLemmas.{of_path}
use Rattle.inode_ops.proofs.OwnLemmas.{own_is, own_among, seen_own, low_among, next_among, all_append, quotas_may, dirs_may, file_may, each_at}
use Rattle.inode_ops.proofs.PlaceLemmas.{IsWalk, walk_of, last_from, deepest_from, rest_from, some_deepest}
use Rattle.inode_ops.proofs.QuotaLemmas.{LocksQuota}

-- ---- what a current view has

-- the keys that are locked, where these are locked Exclusive
abbrev pub all_own : List Key → ClientNo → List (Key × Mode)
all_own ks client = (in_mode Exclusive ks ++ []) ++ (key.Reply client, Exclusive) ∷ []

module _ (inodes : Inodes) (quota_rows : Quotas) (own : Option OpId) (client : ClientNo) (asked : Call) (view : View) (place : Place) (one : view.places.items ≡ place ∷ []) (current : IsCurrent inodes quota_rows own client asked view) where
  pub sees_of : SeesQuotas quota_rows (plan client asked (place ∷ [])) view.quotas.items
  sees_of = subst (λ (places : List Place). SeesQuotas quota_rows (plan client asked places) view.quotas.items) one current.quotas

  pub rows_of : IsWalk inodes (plan client asked (place ∷ [])) place
  rows_of =
      let here : AllByRecursion (IsCurrentPlace inodes (plan client asked (place ∷ [])) own) (place ∷ []) = subst (λ (places : List Place). AllByRecursion (IsCurrentPlace inodes (plan client asked places) own) places) one current.current in
      walk_of inodes (plan client asked (place ∷ [])) place here.0.spells here.0.there

-- what may be written by the plan over the place may be by that over the view
by_view : (view : View) (client : ClientNo) (asked : Call) (place : Place) (writes : List (Key × Option Row)) → view.places.items ≡ place ∷ []
    → AllByRecursion (MayWrite (plan client asked (place ∷ [])) view.next.0) writes → AllByRecursion (MayWrite (plan client asked view.places.items) view.next.0) writes
by_view view client asked place writes one all = subst (λ (places : List Place). AllByRecursion (MayWrite (plan client asked places) view.next.0) writes) (sym one) all

none_may : (locked : List (Key × Mode)) (next : ℕ) (writes : List (Key × Option Row)) → writes ≡ [] → AllByRecursion (MayWrite locked next) writes
none_may locked next writes is = subst (AllByRecursion (MayWrite locked next)) (sym is) tt

module _ (inodes : Inodes) (quota_rows : Quotas) (ks : List Key) (client : ClientNo) (view : View) (place : Place) (sees : SeesQuotas quota_rows (all_own ks client) view.quotas.items) (walk : IsWalk inodes (all_own ks client) place) where
  pub last_is : last_found place ≡ Some walk.down.bottom
  last_is = last_from place walk.first walk.down.bottom walk.rows walk.items walk.down.found

  -- the quota rows found may be written behind other rows
  counted_may : (before : List (Key × Option Row)) (rows : List (Key × Inode)) (change : QuotaRow → QuotaRow) (writes : List (Key × Option Row)) → AllByRecursion (MayWrite (all_own ks client) view.next.0) before
      → GoesOnCounted before rows view.quotas.items change writes → AllByRecursion (MayWrite (all_own ks client) view.next.0) writes
  counted_may before rows change writes first goes =
      subst (AllByRecursion (MayWrite (all_own ks client) view.next.0)) (sym goes.1) (all_append (all_own ks client) view.next.0 before (quota_writes change goes.0) first
      (quotas_may (all_own ks client) view.next.0 rows view.quotas.items goes.0 change (seen_own quota_rows ks client view.quotas.items sees) goes.2.each))

  -- the last row found may be, where its key is locked
  pub low_may : ((k : Key) → list_any (same_key k) (low place) ≡ true → list_any (same_key k) ks ≡ true) → is_own (all_own ks client) walk.down.bottom.0 ≡ true
  low_may low_in = own_among ks client walk.down.bottom.0 (low_in walk.down.bottom.0 (low_among place walk.down.bottom last_is))

  -- the first missing name may be, where the next key is locked
  next_may : ((k : Key) → list_any (same_key k) (next place) ≡ true → list_any (same_key k) ks ≡ true) → walk.down.bottom.1.kind ≡ Dir
      → (name : List ℕ) → slice_get (missing_names place) 0 ≡ Some name → is_own (all_own ks client) (key.Inode walk.down.bottom.1.id name) ≡ true
  next_may next_in dir name first =
      let rest = rest_from place walk.first walk.rows walk.down.rest walk.items walk.down.drops in
      own_among ks client (key.Inode walk.down.bottom.1.id name) (next_in (key.Inode walk.down.bottom.1.id name)
      (next_among place walk.down.bottom.1 (missing_names place) (subst (λ (names : List (List ℕ)). Leads walk.down.bottom.1 names [] place.missing) (sym rest) walk.down.stops) dir name first))

-- ---- what is told alone

pub told_own : (view : View) (asked : Call) (reply : Reply) (r : Result Outcome NoMemory) → IfOk r (IsTold reply) → IfOk r (λ outcome. (client : ClientNo) → WritesOwn view client asked outcome)
told_own view asked reply (Err e) is = tt
told_own view asked reply (Ok (Subtree kind)) is = absurd is
told_own view asked reply (Ok (Answer said writes)) is = λ client inodes quota_rows own current. none_may (plan client asked view.places.items) view.next.0 writes.items is.1

-- ---- `mkdirs`

among_second : (a b c : List Key) (k : Key) → list_any (same_key k) b ≡ true → list_any (same_key k) (a ++ b ++ c) ≡ true
among_second a b c k e =
    list_any-append (same_key k) (a ++ b) c ∙ or_left (list_any (same_key k) (a ++ b)) (list_any (same_key k) c)
    (list_any-append (same_key k) a b ∙ or_right (list_any (same_key k) a) (list_any (same_key k) b) e)

abbrev pub mkdirs_keys : Place → List Key
mkdirs_keys place = low place ++ next place ++ where_so (not (is_whole place)) (quotas place)

module _ (inodes : Inodes) (quota_rows : Quotas) (client : ClientNo) (user : List ℕ) (view : View) (place : Place) (sees : SeesQuotas quota_rows (all_own (mkdirs_keys place) client) view.quotas.items) (walk : IsWalk inodes (all_own (mkdirs_keys place) client) place) where
  made_own : (full : Option Exception) (reply : Reply) (writes : Roomy (Key × Option Row)) → walk.down.bottom.1.kind ≡ Dir → IsMadeUnless full walk.down.bottom.1 place view.quotas.items view.next.0 user (missing_names place) (Answer reply writes)
      → AllByRecursion (MayWrite (all_own (mkdirs_keys place) client) view.next.0) writes.items
  made_own (Some exception) reply writes dir is = none_may (all_own (mkdirs_keys place) client) view.next.0 writes.items is.1
  made_own None reply writes dir is =
      counted_may inodes quota_rows (mkdirs_keys place) client view place sees walk (new_dirs walk.down.bottom.1.id.0 view.next.0 user (missing_names place)) place.found.items _ writes.items
      (dirs_may (all_own (mkdirs_keys place) client) view.next.0 walk.down.bottom.1.id.0 user (missing_names place)
      (next_may inodes quota_rows (mkdirs_keys place) client view place sees walk (among_second (low place) (next place) (where_so (not (is_whole place)) (quotas place))) dir)) is.1

  mkdirs_answer : (kind : Kind) (whole : Bool) (reply : Reply) (writes : Roomy (Key × Option Row)) → walk.down.bottom.1.kind ≡ kind → MkdirsOf kind whole walk.down.bottom.1 place view.quotas.items view.next.0 user (Answer reply writes)
      → AllByRecursion (MayWrite (all_own (mkdirs_keys place) client) view.next.0) writes.items
  mkdirs_answer Dir true reply writes kind_is is = none_may (all_own (mkdirs_keys place) client) view.next.0 writes.items is.1
  mkdirs_answer File true reply writes kind_is is = none_may (all_own (mkdirs_keys place) client) view.next.0 writes.items is.1
  mkdirs_answer File false reply writes kind_is is = none_may (all_own (mkdirs_keys place) client) view.next.0 writes.items is.1
  mkdirs_answer Dir false reply writes kind_is is = made_own (first_full place.path place.found.items view.quotas.items (length (missing_names place))) reply writes kind_is is

mkdirs_writes : (view : View) (client : ClientNo) (user : List ℕ) (place : Place) → view.places.items ≡ place ∷ [] → (outcome : Outcome) → AnswersMkdirs place view.quotas.items view.next.0 user outcome → WritesOwn view client (call.Mkdirs place.path) outcome
mkdirs_writes view client user place one (Subtree kind) answers = tt
mkdirs_writes view client user place one (Answer reply writes) answers = λ inodes quota_rows own current.
    let sees = sees_of inodes quota_rows own client (call.Mkdirs place.path) view place one current in
    let walk = rows_of inodes quota_rows own client (call.Mkdirs place.path) view place one current in
    let last = deepest_from place walk.first walk.down.bottom walk.rows walk.items walk.down.found in
    by_view view client (call.Mkdirs place.path) place writes.items one (mkdirs_answer inodes quota_rows client user view place sees walk walk.down.bottom.1.kind (is_whole place) reply writes refl
    (subst (λ (o : Option Inode). IfSome o (λ last. MkdirsOf last.kind (is_whole place) last place view.quotas.items view.next.0 user (Answer reply writes))) last answers))

pub mkdirs_own : (view : View) (client : ClientNo) (user : List ℕ) (asked : Call) (place : Place) (path : List (List ℕ)) (seen : List (InodeId × QuotaRow)) (r : Result Outcome NoMemory) → IsViewOf view asked → slice_get view.places.items 0 ≡ Some place → asked ≡ call.Mkdirs path → seen ≡ view.quotas.items
    → IfOk r (AnswersMkdirs place seen view.next.0 user) → IfOk r (WritesOwn view client asked)
mkdirs_own view client user asked place path seen r is first call_is same answers =
    of_path view asked call.Mkdirs place path is first call_is refl (WritesOwn view client) (AnswersMkdirs place seen view.next.0 user)
    (λ one spells outcome answer. mkdirs_writes view client user place one outcome (subst (λ (s : List (InodeId × QuotaRow)). AnswersMkdirs place s view.next.0 user outcome) same answer)) r answers

-- ---- `stat`

stat_writes : (view : View) (client : ClientNo) (asked : Call) (whole : Bool) (last : Inode) (outcome : Outcome) → StatOf whole last outcome → WritesOwn view client asked outcome
stat_writes view client asked whole last (Subtree kind) is = tt
stat_writes view client asked true last (Answer reply writes) is = λ inodes quota_rows own current. none_may (plan client asked view.places.items) view.next.0 writes.items is.1
stat_writes view client asked false last (Answer reply writes) is = λ inodes quota_rows own current. none_may (plan client asked view.places.items) view.next.0 writes.items is.1

pub stat_own : (view : View) (client : ClientNo) (asked : Call) (place : Place) (path : List (List ℕ)) (r : Result Outcome NoMemory) → IsViewOf view asked → slice_get view.places.items 0 ≡ Some place → asked ≡ call.Stat path
    → IfOk r (AnswersStat place) → IfOk r (WritesOwn view client asked)
stat_own view client asked place path r is first call_is answers =
    of_path view asked call.Stat place path is first call_is refl (λ c. WritesOwn view client asked) (AnswersStat place)
    (λ one spells outcome answer. let last = some_deepest place spells in
    stat_writes view client asked (is_whole place) last.0 outcome (subst (λ (o : Option Inode). IfSome o (λ last. StatOf (is_whole place) last outcome)) last.1 answer)) r answers

-- ---- `create`

abbrev pub create_keys : ClientNo → Place → List Key
create_keys client place = low place ++ next place ++ quotas place ++ writer_lease place ++ lease client place

module _ (inodes : Inodes) (quota_rows : Quotas) (client : ClientNo) (user : List ℕ) (view : View) (place : Place) (sees : SeesQuotas quota_rows (all_own (create_keys client place) client) view.quotas.items) (walk : IsWalk inodes (all_own (create_keys client place) client) place) where
  pub low_in : (k : Key) → list_any (same_key k) (low place) ≡ true → list_any (same_key k) (create_keys client place) ≡ true
  low_in k e = first_parts k (low place) (next place) (quotas place) (writer_lease place) (lease client place)
      (list_any-append (same_key k) (low place ++ next place) (quotas place) ∙ or_left (list_any (same_key k) (low place ++ next place)) (list_any (same_key k) (quotas place))
      (list_any-append (same_key k) (low place) (next place) ∙ or_left (list_any (same_key k) (low place)) (list_any (same_key k) (next place)) e))

  next_in : (k : Key) → list_any (same_key k) (next place) ≡ true → list_any (same_key k) (create_keys client place) ≡ true
  next_in k e = first_parts k (low place) (next place) (quotas place) (writer_lease place) (lease client place) (among_second (low place) (next place) (quotas place) k e)

  filed_own : (full : Option Exception) (reply : Reply) (writes : Roomy (Key × Option Row)) → walk.down.bottom.1.kind ≡ Dir → IsFiledUnless full walk.down.bottom.1 place view client user (missing_names place) (Answer reply writes)
      → AllByRecursion (MayWrite (all_own (create_keys client place) client) view.next.0) writes.items
  filed_own (Some exception) reply writes dir is = none_may (all_own (create_keys client place) client) view.next.0 writes.items is.1
  filed_own None reply writes dir is =
      counted_may inodes quota_rows (create_keys client place) client view place sees walk (new_file_rows walk.down.bottom.1.id.0 view.next.0 user is.1 is.2 client) place.found.items _ writes.items
      (file_may (all_own (create_keys client place) client) view.next.0 walk.down.bottom.1.id.0 user is.1 is.2 client (λ name first.
      next_may inodes quota_rows (create_keys client place) client view place sees walk next_in dir name (ap (λ (names : List (List ℕ)). slice_get names 0) is.3 ∙ first))) is.4

  over_own : (reply : Reply) (writes : Roomy (Key × Option Row)) → IsOverwritten walk.down.bottom place view client user (Answer reply writes) → AllByRecursion (MayWrite (all_own (create_keys client place) client) view.next.0) writes.items
  over_own reply writes is =
      counted_may inodes quota_rows (create_keys client place) client view place sees walk ((walk.down.bottom.0, Some (row.Inode (overwritten client user walk.down.bottom.1))) ∷ []) place.found.items _ writes.items
      (or_left (is_own (all_own (create_keys client place) client) walk.down.bottom.0) (is_in_new view.next.0 walk.down.bottom.0) (low_may inodes quota_rows (create_keys client place) client view place sees walk low_in), tt) is.1

  create_answer : (overwrite : Bool) (kind : Kind) (whole : Bool) (reply : Reply) (writes : Roomy (Key × Option Row)) → walk.down.bottom.1.kind ≡ kind → CreateOf kind whole walk.down.bottom.1 place view client user overwrite (Answer reply writes)
      → AllByRecursion (MayWrite (all_own (create_keys client place) client) view.next.0) writes.items
  create_answer overwrite Dir true reply writes kind_is is = none_may (all_own (create_keys client place) client) view.next.0 writes.items is.1
  create_answer overwrite Dir false reply writes kind_is is = filed_own (first_full place.path place.found.items view.quotas.items (length (missing_names place))) reply writes kind_is is
  create_answer true File true reply writes kind_is is = over_own reply writes
      (subst (λ (o : Option (Key × Inode)). IfSome o (λ (found : Key × Inode). IsOverwritten found place view client user (Answer reply writes))) (last_is inodes quota_rows (create_keys client place) client view place sees walk) is)
  create_answer false File true reply writes kind_is is = none_may (all_own (create_keys client place) client) view.next.0 writes.items is.1
  create_answer overwrite File false reply writes kind_is is = none_may (all_own (create_keys client place) client) view.next.0 writes.items is.1

create_writes : (view : View) (client : ClientNo) (user : List ℕ) (overwrite : Bool) (place : Place) → view.places.items ≡ place ∷ [] → (outcome : Outcome) → AnswersCreate place view client user overwrite outcome → WritesOwn view client (call.Create place.path overwrite) outcome
create_writes view client user overwrite place one (Subtree kind) answers = tt
create_writes view client user overwrite place one (Answer reply writes) answers = λ inodes quota_rows own current.
    let sees = sees_of inodes quota_rows own client (call.Create place.path overwrite) view place one current in
    let walk = rows_of inodes quota_rows own client (call.Create place.path overwrite) view place one current in
    let last = deepest_from place walk.first walk.down.bottom walk.rows walk.items walk.down.found in
    by_view view client (call.Create place.path overwrite) place writes.items one (create_answer inodes quota_rows client user view place sees walk overwrite walk.down.bottom.1.kind (is_whole place) reply writes refl
    (subst (λ (o : Option Inode). IfSome o (λ last. CreateOf last.kind (is_whole place) last place view client user overwrite (Answer reply writes))) last answers))

pub create_own : (view : View) (client : ClientNo) (user : List ℕ) (path : List (List ℕ)) (overwrite : Bool) (place : Place) (r : Result Outcome NoMemory) → IsViewOf view (call.Create path overwrite) → slice_get view.places.items 0 ≡ Some place
    → IfOk r (AnswersCreate place view client user overwrite) → IfOk r (WritesOwn view client (call.Create path overwrite))
create_own view client user path overwrite place r is first answers =
    of_path view (call.Create path overwrite) (λ p. call.Create p overwrite) place path is first refl refl (WritesOwn view client) (AnswersCreate place view client user overwrite)
    (λ one spells outcome answer. create_writes view client user overwrite place one outcome answer) r answers

-- ---- `delete`

removals_may : (locked : List (Key × Mode)) (next : ℕ) (found : Key × Inode) → is_own locked found.0 ≡ true → (found.1.has_quota ≡ true → is_own locked (key.Quota found.1.id) ≡ true) → AllByRecursion (MayWrite locked next) (removals found)
removals_may locked next found here quota = (or_left (is_own locked found.0) (is_in_new next found.0) here, by_mark found.1.has_quota refl)
  where
    by_mark : (b : Bool) → found.1.has_quota ≡ b → AllByRecursion (MayWrite locked next) (where_so b ((key.Quota found.1.id, None) ∷ []))
    by_mark true has = (or_left (is_own locked (key.Quota found.1.id)) false (quota has), tt)
    by_mark false has = tt

abbrev pub delete_keys : Place → List Key
delete_keys place = low place ++ where_so (is_whole place) (parent place ++ writer_lease place ++ quotas place)

module _ (inodes : Inodes) (quota_rows : Quotas) (client : ClientNo) (view : View) (place : Place) (sees : SeesQuotas quota_rows (all_own (delete_keys place) client) view.quotas.items) (walk : IsWalk inodes (all_own (delete_keys place) client) place) where
  low_in_delete : (k : Key) → list_any (same_key k) (low place) ≡ true → list_any (same_key k) (delete_keys place) ≡ true
  low_in_delete k e =
      list_any-append (same_key k) (low place) (where_so (is_whole place) (parent place ++ writer_lease place ++ quotas place))
      ∙ or_left (list_any (same_key k) (low place)) (list_any (same_key k) (where_so (is_whole place) (parent place ++ writer_lease place ++ quotas place))) e

  removed_own : is_whole place ≡ true → (writes : List (Key × Option Row)) → RemovesLast place view.quotas.items writes → AllByRecursion (MayWrite (all_own (delete_keys place) client) view.next.0) writes
  removed_own whole writes is =
      let last = last_is inodes quota_rows (delete_keys place) client view place sees walk in
      let goes = subst (λ (o : Option (Key × Inode)). IfSome o (λ (x : Key × Inode). GoesOnCounted (removals x) (take (length place.found.items - 1) place.found.items) view.quotas.items (Rattle.db_state.specs.QuotaWrites.lowered 1 (Rattle.inode_table.specs.Inode.counted_bytes x.1.kind x.1)) writes)) last is in
      counted_may inodes quota_rows (delete_keys place) client view place sees walk (removals walk.down.bottom) (take (length place.found.items - 1) place.found.items) _ writes
      (removals_may (all_own (delete_keys place) client) view.next.0 walk.down.bottom (low_may inodes quota_rows (delete_keys place) client view place sees walk low_in_delete) (λ has.
      own_is (delete_keys place) client (key.Quota walk.down.bottom.1.id)
      ∙ each_at (LocksQuota (all_own (delete_keys place) client)) place.found.items (length place.found.items - 1) walk.down.bottom (delete_locks_quotas client place.path place whole) last has)) goes

  delete_answer : (root whole some : Bool) → is_whole place ≡ whole → (reply : Reply) (writes : Roomy (Key × Option Row)) → DeleteOf (root || not whole) some place view.quotas.items (Answer reply writes)
      → AllByRecursion (MayWrite (all_own (delete_keys place) client) view.next.0) writes.items
  delete_answer true whole some at_end reply writes is = none_may (all_own (delete_keys place) client) view.next.0 writes.items is.1
  delete_answer false false some at_end reply writes is = none_may (all_own (delete_keys place) client) view.next.0 writes.items is.1
  delete_answer false true true at_end reply writes is = none_may (all_own (delete_keys place) client) view.next.0 writes.items is.1
  delete_answer false true false at_end reply writes is = removed_own at_end writes.items is.1

delete_writes : (view : View) (client : ClientNo) (place : Place) → view.places.items ≡ place ∷ [] → (outcome : Outcome) → AnswersDelete place view.quotas.items outcome → WritesOwn view client (call.Delete place.path false) outcome
delete_writes view client place one (Subtree kind) answers = tt
delete_writes view client place one (Answer reply writes) answers = λ inodes quota_rows own current.
    let sees = sees_of inodes quota_rows own client (call.Delete place.path false) view place one current in
    let walk = rows_of inodes quota_rows own client (call.Delete place.path false) view place one current in
    by_view view client (call.Delete place.path false) place writes.items one (delete_answer inodes quota_rows client view place sees walk (is_root place.path) (is_whole place) place.has_child refl reply writes answers)

pub delete_own : (view : View) (place : Place) (path : List (List ℕ)) (seen : List (InodeId × QuotaRow)) (r : Result Outcome NoMemory) → IsViewOf view (call.Delete path false) → slice_get view.places.items 0 ≡ Some place → seen ≡ view.quotas.items
    → IfOk r (AnswersDelete place seen) → IfOk r (λ outcome. (client : ClientNo) → WritesOwn view client (call.Delete path false) outcome)
delete_own view place path seen r is first same answers =
    of_path view (call.Delete path false) (λ p. call.Delete p false) place path is first refl refl (λ c outcome. (client : ClientNo) → WritesOwn view client c outcome) (AnswersDelete place seen)
    (λ one spells outcome answer client. delete_writes view client place one outcome (subst (λ (s : List (InodeId × QuotaRow)). AnswersDelete place s outcome) same answer)) r answers

-- ---- `chmod`

mode_writes : (view : View) (client : ClientNo) (bits : ℕ) (place : Place) → view.places.items ≡ place ∷ [] → (outcome : Outcome) → IsModeSet (last_found place) bits outcome → WritesOwn view client (call.Chmod place.path bits) outcome
mode_writes view client bits place one (Subtree kind) is = tt
mode_writes view client bits place one (Answer reply writes) is = λ inodes quota_rows own current.
    let sees = sees_of inodes quota_rows own client (call.Chmod place.path bits) view place one current in
    let walk = rows_of inodes quota_rows own client (call.Chmod place.path bits) view place one current in
    let set : IsModeSet (Some walk.down.bottom) bits (Answer reply writes) = subst (λ (o : Option (Key × Inode)). IsModeSet o bits (Answer reply writes)) (last_is inodes quota_rows (low place) client view place sees walk) is in
    let here = low_may inodes quota_rows (low place) client view place sees walk (λ k e. e) in
    by_view view client (call.Chmod place.path bits) place writes.items one (subst (AllByRecursion (MayWrite (all_own (low place) client) view.next.0)) (sym set.1)
    (or_left (is_own (all_own (low place) client) walk.down.bottom.0) (is_in_new view.next.0 walk.down.bottom.0) here, tt))

pub mode_own : (view : View) (path : List (List ℕ)) (bits : ℕ) (place : Place) (r : Result Outcome NoMemory) → IsViewOf view (call.Chmod path bits) → slice_get view.places.items 0 ≡ Some place
    → IfOk r (IsModeSet (last_found place) bits) → IfOk r (λ outcome. (client : ClientNo) → WritesOwn view client (call.Chmod path bits) outcome)
mode_own view path bits place r is first done =
    of_path view (call.Chmod path bits) (λ p. call.Chmod p bits) place path is first refl refl (λ c outcome. (client : ClientNo) → WritesOwn view client c outcome) (IsModeSet (last_found place) bits)
    (λ one spells outcome answer client. mode_writes view client bits place one outcome answer) r done
