-- The outcomes of the calls keep the rows that other sessions have read.
use Rattle.std.proofs.Common.{◌≡◌, ℕ, ◌-◌, Bool, true, false, not, ◌||◌, inr, List, [], ◌∷◌, ◌++◌, length, take, slice_get, Option, Some, None, IfSome, Result, Ok, Err, IfOk, refl, sym, ap, subst, ◌∙◌, arith}
use Rattle.std.proofs.lemmas.Bool.{or_left, or_right}
use Rattle.std.proofs.lemmas.List.Folds.{list_any-append}
use Rattle.std.specs.List.{list_any}
use Rattle.hops_base.specs.Roomy.{Roomy}
use Rattle.hops_base.specs.declared.ids.ClientNo.{ClientNo}
use Rattle.hops_base.specs.declared.ids.InodeId.{InodeId}
use Rattle.hops_base.specs.declared.key.Key.{Key}
use Rattle.hops_base.specs.Key.{same_key}
use Rattle.hops_base.specs.declared.memory.NoMemory.{NoMemory}
use Rattle.name_space.specs.declared.call.Call.{Call}
use Rattle.name_space.specs.declared.call.Call.TheVariants as call
use Rattle.name_space.specs.declared.reply.Reply.{Reply}
use Rattle.name_space.specs.declared.reply.Exception.{Exception}
use Rattle.name_space.specs.Plain.{is_root}
use Rattle.inode_table.specs.declared.inode.Inode.{Inode}
use Rattle.inode_table.specs.declared.inode.Kind.{Kind}
use Rattle.inode_table.specs.declared.inode.Kind.TheVariants.{Dir, File}
use Rattle.inode_table.specs.Inode.{counted_bytes}
use Rattle.quota_table.specs.declared.quota.QuotaRow.{QuotaRow}
use Rattle.db_state.specs.Stored.{Tables}
use Rattle.db_state.specs.Current.{SeesQuotas}
use Rattle.db_state.specs.Locked.{is_own}
use Rattle.db_state.specs.Effects.{OwnsDir, KeepsOthers}
use Rattle.db_state.proofs.EffectLaws.{keeps_all, keeps_changed, keeps_dirs}
use Rattle.db_state.specs.NewDirs.{new_dirs}
use Rattle.db_state.specs.Plan.{plan, where_so, is_whole, low, next, parent, quotas, writer_lease, last_found}
use Rattle.db_state.specs.QuotaWrites.{lowered}
use Rattle.db_state.specs.declared.outcome.Outcome.{Outcome}
use Rattle.db_state.specs.declared.outcome.Outcome.TheVariants.{Answer, Subtree}
use Rattle.db_state.specs.declared.view.Place.{Place}
use Rattle.db_state.specs.declared.view.View.{View}
use Rattle.db_state.specs.declared.writes.Row.{Row}
use Rattle.db_state.specs.declared.writes.Row.TheVariants as row
use Rattle.inode_ops.specs.ChmodSteps.{row_with_mode, IsModeSet}
use Rattle.inode_ops.specs.CreateSteps.{overwritten, IsFiledUnless, IsOverwritten, CreateOf, AnswersCreate}
use Rattle.inode_ops.specs.DeleteSteps.{removals, RemovesLast, DeleteOf, AnswersDelete}
use Rattle.inode_ops.specs.NewFile.{new_file_rows}
use Rattle.inode_ops.specs.Outcomes.{IsViewOf, IsKeptOf}
use Rattle.inode_ops.specs.QuotaSteps.{first_full, GoesOnCounted}
use Rattle.inode_ops.specs.Steps.{missing_names, IsTold, IsMadeUnless, MkdirsOf, AnswersMkdirs, StatOf, AnswersStat}
use Rattle.inode_ops.proofs.KeepLemmas.{Keeps, none_keeps, counted_keeps, keeps_file, removals_keep, owns_parent}
use Rattle.inode_ops.proofs.OutcomeLemmas.{of_path}
use Rattle.inode_ops.proofs.OwnLemmas.{own_is, own_among}
use Rattle.inode_ops.proofs.OwnOutcomes.{all_own, sees_of, rows_of, last_is, low_may, low_in, mkdirs_keys, create_keys, delete_keys}
use Rattle.inode_ops.proofs.PlaceLemmas.{IsWalk, deepest_from, some_deepest}

-- what the plan over the place keeps, that over the view does
by_view : (tables : Tables) (view : View) (client : ClientNo) (asked : Call) (place : Place) (writes : List (Key × Option Row)) → view.places.items ≡ place ∷ []
    → Keeps tables (plan client asked (place ∷ [])) view.next.0 writes → Keeps tables (plan client asked view.places.items) view.next.0 writes
by_view tables view client asked place writes one keeps = subst (λ (places : List Place). Keeps tables (plan client asked places) view.next.0 writes) (sym one) keeps

module _ (tables : Tables) (ks : List Key) (client : ClientNo) (view : View) (place : Place) (sees : SeesQuotas tables.quotas (all_own ks client) view.quotas.items) (walk : IsWalk tables.inodes (all_own ks client) place)
    (low_at : is_own (all_own ks client) walk.down.bottom.0 ≡ true) where
  -- the last row found is there, and its key locked Exclusive
  owns_last : OwnsDir tables.inodes (all_own ks client) (record { 0 = walk.down.bottom.1.id.0 })
  owns_last = record { at = walk.down.bottom.0; row = walk.down.at.there.row; there = walk.down.at.there.there; is = walk.down.at.there.id; own = low_at }

  -- another row under its key, with its id and kind and no new quota
  keeps_last : (new : Inode) → new.id ≡ walk.down.bottom.1.id → new.kind ≡ walk.down.bottom.1.kind → new.has_quota ≡ walk.down.bottom.1.has_quota → Keeps tables (all_own ks client) view.next.0 ((walk.down.bottom.0, Some (row.Inode new)) ∷ [])
  keeps_last new id kind quota =
      let there = walk.down.at.there in
      let whole : there.row ≡ walk.down.bottom.1 = there.whole (sym (own_is ks client walk.down.bottom.0) ∙ low_at) in
      keeps_changed (all_own ks client) view.next.0 None tables.inodes walk.down.bottom.0 there.row new there.there (id ∙ sym there.id) (kind ∙ sym there.kind) (λ has. ap (λ (r : Inode). r.has_quota) whole ∙ sym quota ∙ has)

-- ---- what is told alone

pub told_keeps : (view : View) (asked : Call) (reply : Reply) (r : Result Outcome NoMemory) → IfOk r (IsTold reply) → IfOk r (IsKeptOf view asked)
told_keeps view asked reply (Err e) is = tt
told_keeps view asked reply (Ok (Subtree kind)) is = absurd is
told_keeps view asked reply (Ok (Answer said writes)) is = λ client tables own current. none_keeps tables (plan client asked view.places.items) view.next.0 writes.items is.1

-- ---- `mkdirs`

module _ (tables : Tables) (client : ClientNo) (user : List ℕ) (view : View) (place : Place) (sees : SeesQuotas tables.quotas (all_own (mkdirs_keys place) client) view.quotas.items) (walk : IsWalk tables.inodes (all_own (mkdirs_keys place) client) place)
    (low_at : is_own (all_own (mkdirs_keys place) client) walk.down.bottom.0 ≡ true) where
  made_keeps : (full : Option Exception) (reply : Reply) (writes : Roomy (Key × Option Row)) → IsMadeUnless full walk.down.bottom.1 place view.quotas.items view.next.0 user (missing_names place) (Answer reply writes)
      → Keeps tables (all_own (mkdirs_keys place) client) view.next.0 writes.items
  made_keeps (Some exception) reply writes is = none_keeps tables (all_own (mkdirs_keys place) client) view.next.0 writes.items is.1
  made_keeps None reply writes is =
      counted_keeps tables (all_own (mkdirs_keys place) client) view.next.0 (new_dirs walk.down.bottom.1.id.0 view.next.0 user (missing_names place)) place.found.items view.quotas.items _ writes.items
      (keeps_dirs (all_own (mkdirs_keys place) client) view.next.0 None tables.inodes user (missing_names place) tables walk.down.bottom.1.id.0 view.next.0
      (keeps_all (all_own (mkdirs_keys place) client) view.next.0 None tables.inodes) (omega arith) (inr (owns_last tables (mkdirs_keys place) client view place sees walk low_at))) is.1

  mkdirs_keeps_answer : (kind : Kind) (whole : Bool) (reply : Reply) (writes : Roomy (Key × Option Row)) → MkdirsOf kind whole walk.down.bottom.1 place view.quotas.items view.next.0 user (Answer reply writes)
      → Keeps tables (all_own (mkdirs_keys place) client) view.next.0 writes.items
  mkdirs_keeps_answer Dir true reply writes is = none_keeps tables (all_own (mkdirs_keys place) client) view.next.0 writes.items is.1
  mkdirs_keeps_answer File true reply writes is = none_keeps tables (all_own (mkdirs_keys place) client) view.next.0 writes.items is.1
  mkdirs_keeps_answer File false reply writes is = none_keeps tables (all_own (mkdirs_keys place) client) view.next.0 writes.items is.1
  mkdirs_keeps_answer Dir false reply writes is = made_keeps (first_full place.path place.found.items view.quotas.items (length (missing_names place))) reply writes is

low_in_mkdirs : (place : Place) (k : Key) → list_any (same_key k) (low place) ≡ true → list_any (same_key k) (mkdirs_keys place) ≡ true
low_in_mkdirs place k e =
    list_any-append (same_key k) (low place ++ next place) (where_so (not (is_whole place)) (quotas place))
    ∙ or_left _ _ (list_any-append (same_key k) (low place) (next place) ∙ or_left _ _ e)

mkdirs_keep : (view : View) (client : ClientNo) (user : List ℕ) (place : Place) → view.places.items ≡ place ∷ [] → (outcome : Outcome) → AnswersMkdirs place view.quotas.items view.next.0 user outcome → KeepsOthers view client (call.Mkdirs place.path) outcome
mkdirs_keep view client user place one (Subtree kind) answers = tt
mkdirs_keep view client user place one (Answer reply writes) answers = λ tables own current.
    let sees = sees_of tables.inodes tables.quotas own client (call.Mkdirs place.path) view place one current in
    let walk = rows_of tables.inodes tables.quotas own client (call.Mkdirs place.path) view place one current in
    let last = deepest_from place walk.first walk.down.bottom walk.rows walk.items walk.down.found in
    let low_at = low_may tables.inodes tables.quotas (mkdirs_keys place) client view place sees walk (low_in_mkdirs place) in
    by_view tables view client (call.Mkdirs place.path) place writes.items one (mkdirs_keeps_answer tables client user view place sees walk low_at walk.down.bottom.1.kind (is_whole place) reply writes
    (subst (λ (o : Option Inode). IfSome o (λ last. MkdirsOf last.kind (is_whole place) last place view.quotas.items view.next.0 user (Answer reply writes))) last answers))

pub mkdirs_keeps : (view : View) (client : ClientNo) (user : List ℕ) (asked : Call) (place : Place) (path : List (List ℕ)) (seen : List (InodeId × QuotaRow)) (r : Result Outcome NoMemory) → IsViewOf view asked → slice_get view.places.items 0 ≡ Some place → asked ≡ call.Mkdirs path → seen ≡ view.quotas.items
    → IfOk r (AnswersMkdirs place seen view.next.0 user) → IfOk r (KeepsOthers view client asked)
mkdirs_keeps view client user asked place path seen r is first call_is same answers =
    of_path view asked call.Mkdirs place path is first call_is refl (KeepsOthers view client) (AnswersMkdirs place seen view.next.0 user)
    (λ one spells outcome answer. mkdirs_keep view client user place one outcome (subst (λ (s : List (InodeId × QuotaRow)). AnswersMkdirs place s view.next.0 user outcome) same answer)) r answers

-- ---- `stat`

stat_keep : (view : View) (client : ClientNo) (asked : Call) (whole : Bool) (last : Inode) (outcome : Outcome) → StatOf whole last outcome → KeepsOthers view client asked outcome
stat_keep view client asked whole last (Subtree kind) is = tt
stat_keep view client asked true last (Answer reply writes) is = λ tables own current. none_keeps tables (plan client asked view.places.items) view.next.0 writes.items is.1
stat_keep view client asked false last (Answer reply writes) is = λ tables own current. none_keeps tables (plan client asked view.places.items) view.next.0 writes.items is.1

pub stat_keeps : (view : View) (client : ClientNo) (asked : Call) (place : Place) (path : List (List ℕ)) (r : Result Outcome NoMemory) → IsViewOf view asked → slice_get view.places.items 0 ≡ Some place → asked ≡ call.Stat path
    → IfOk r (AnswersStat place) → IfOk r (KeepsOthers view client asked)
stat_keeps view client asked place path r is first call_is answers =
    of_path view asked call.Stat place path is first call_is refl (λ c. KeepsOthers view client asked) (AnswersStat place)
    (λ one spells outcome answer. let last = some_deepest place spells in
    stat_keep view client asked (is_whole place) last.0 outcome (subst (λ (o : Option Inode). IfSome o (λ last. StatOf (is_whole place) last outcome)) last.1 answer)) r answers

-- ---- `create`

module _ (tables : Tables) (client : ClientNo) (user : List ℕ) (view : View) (place : Place) (sees : SeesQuotas tables.quotas (all_own (create_keys client place) client) view.quotas.items) (walk : IsWalk tables.inodes (all_own (create_keys client place) client) place)
    (low_at : is_own (all_own (create_keys client place) client) walk.down.bottom.0 ≡ true) where
  filed_keeps : (full : Option Exception) (reply : Reply) (writes : Roomy (Key × Option Row)) → IsFiledUnless full walk.down.bottom.1 place view client user (missing_names place) (Answer reply writes)
      → Keeps tables (all_own (create_keys client place) client) view.next.0 writes.items
  filed_keeps (Some exception) reply writes is = none_keeps tables (all_own (create_keys client place) client) view.next.0 writes.items is.1
  filed_keeps None reply writes is =
      counted_keeps tables (all_own (create_keys client place) client) view.next.0 (new_file_rows walk.down.bottom.1.id.0 view.next.0 user is.1 is.2 client) place.found.items view.quotas.items _ writes.items
      (keeps_file (all_own (create_keys client place) client) view.next.0 tables.inodes user is.1 is.2 client tables walk.down.bottom.1.id.0 view.next.0
      (keeps_all (all_own (create_keys client place) client) view.next.0 None tables.inodes) (omega arith) (inr (owns_last tables (create_keys client place) client view place sees walk low_at))) is.4

  over_keeps : (reply : Reply) (writes : Roomy (Key × Option Row)) → IsOverwritten walk.down.bottom place view client user (Answer reply writes) → Keeps tables (all_own (create_keys client place) client) view.next.0 writes.items
  over_keeps reply writes is =
      counted_keeps tables (all_own (create_keys client place) client) view.next.0 ((walk.down.bottom.0, Some (row.Inode (overwritten client user walk.down.bottom.1))) ∷ []) place.found.items view.quotas.items _ writes.items
      (keeps_last tables (create_keys client place) client view place sees walk low_at (overwritten client user walk.down.bottom.1) refl refl refl) is.1

  create_keeps_answer : (overwrite : Bool) (kind : Kind) (whole : Bool) (reply : Reply) (writes : Roomy (Key × Option Row)) → CreateOf kind whole walk.down.bottom.1 place view client user overwrite (Answer reply writes)
      → Keeps tables (all_own (create_keys client place) client) view.next.0 writes.items
  create_keeps_answer overwrite Dir true reply writes is = none_keeps tables (all_own (create_keys client place) client) view.next.0 writes.items is.1
  create_keeps_answer overwrite Dir false reply writes is = filed_keeps (first_full place.path place.found.items view.quotas.items (length (missing_names place))) reply writes is
  create_keeps_answer true File true reply writes is = over_keeps reply writes
      (subst (λ (o : Option (Key × Inode)). IfSome o (λ (found : Key × Inode). IsOverwritten found place view client user (Answer reply writes))) (last_is tables.inodes tables.quotas (create_keys client place) client view place sees walk) is)
  create_keeps_answer false File true reply writes is = none_keeps tables (all_own (create_keys client place) client) view.next.0 writes.items is.1
  create_keeps_answer overwrite File false reply writes is = none_keeps tables (all_own (create_keys client place) client) view.next.0 writes.items is.1

create_keep : (view : View) (client : ClientNo) (user : List ℕ) (overwrite : Bool) (place : Place) → view.places.items ≡ place ∷ [] → (outcome : Outcome) → AnswersCreate place view client user overwrite outcome → KeepsOthers view client (call.Create place.path overwrite) outcome
create_keep view client user overwrite place one (Subtree kind) answers = tt
create_keep view client user overwrite place one (Answer reply writes) answers = λ tables own current.
    let sees = sees_of tables.inodes tables.quotas own client (call.Create place.path overwrite) view place one current in
    let walk = rows_of tables.inodes tables.quotas own client (call.Create place.path overwrite) view place one current in
    let last = deepest_from place walk.first walk.down.bottom walk.rows walk.items walk.down.found in
    let low_at = low_may tables.inodes tables.quotas (create_keys client place) client view place sees walk (low_in tables.inodes tables.quotas client user view place sees walk) in
    by_view tables view client (call.Create place.path overwrite) place writes.items one (create_keeps_answer tables client user view place sees walk low_at overwrite walk.down.bottom.1.kind (is_whole place) reply writes
    (subst (λ (o : Option Inode). IfSome o (λ last. CreateOf last.kind (is_whole place) last place view client user overwrite (Answer reply writes))) last answers))

pub create_keeps : (view : View) (client : ClientNo) (user : List ℕ) (path : List (List ℕ)) (overwrite : Bool) (place : Place) (r : Result Outcome NoMemory) → IsViewOf view (call.Create path overwrite) → slice_get view.places.items 0 ≡ Some place
    → IfOk r (AnswersCreate place view client user overwrite) → IfOk r (KeepsOthers view client (call.Create path overwrite))
create_keeps view client user path overwrite place r is first answers =
    of_path view (call.Create path overwrite) (λ p. call.Create p overwrite) place path is first refl refl (KeepsOthers view client) (AnswersCreate place view client user overwrite)
    (λ one spells outcome answer. create_keep view client user overwrite place one outcome answer) r answers

-- ---- `delete`

-- the key above the path's own row is locked, where the path is whole
parent_in : (place : Place) → is_whole place ≡ true → (k : Key) → list_any (same_key k) (parent place) ≡ true → list_any (same_key k) (delete_keys place) ≡ true
parent_in place whole k e =
    list_any-append (same_key k) (low place) (where_so (is_whole place) (parent place ++ writer_lease place ++ quotas place))
    ∙ or_right (list_any (same_key k) (low place)) (list_any (same_key k) (where_so (is_whole place) (parent place ++ writer_lease place ++ quotas place)))
    (ap (λ (b : Bool). list_any (same_key k) (where_so b (parent place ++ writer_lease place ++ quotas place))) whole
    ∙ list_any-append (same_key k) (parent place ++ writer_lease place) (quotas place) ∙ or_left (list_any (same_key k) (parent place ++ writer_lease place)) (list_any (same_key k) (quotas place))
    (list_any-append (same_key k) (parent place) (writer_lease place) ∙ or_left (list_any (same_key k) (parent place)) (list_any (same_key k) (writer_lease place)) e))

module _ (tables : Tables) (client : ClientNo) (view : View) (place : Place) (sees : SeesQuotas tables.quotas (all_own (delete_keys place) client) view.quotas.items) (walk : IsWalk tables.inodes (all_own (delete_keys place) client) place) where
  removed_keeps : is_whole place ≡ true → is_root place.path ≡ false → (writes : List (Key × Option Row)) → RemovesLast place view.quotas.items writes → Keeps tables (all_own (delete_keys place) client) view.next.0 writes
  removed_keeps whole root writes is =
      let last = last_is tables.inodes tables.quotas (delete_keys place) client view place sees walk in
      let goes = subst (λ (o : Option (Key × Inode)). IfSome o (λ (x : Key × Inode). GoesOnCounted (removals x) (take (length place.found.items - 1) place.found.items) view.quotas.items (lowered 1 (counted_bytes x.1.kind x.1)) writes)) last is in
      counted_keeps tables (all_own (delete_keys place) client) view.next.0 (removals walk.down.bottom) (take (length place.found.items - 1) place.found.items) view.quotas.items _ writes
      (removals_keep tables (all_own (delete_keys place) client) view.next.0 walk.down.bottom (owns_parent tables.inodes (all_own (delete_keys place) client) place walk whole root (λ k among.
      own_among (delete_keys place) client k (parent_in place whole k among)))) goes

  delete_keeps_answer : (root whole some : Bool) → is_root place.path ≡ root → is_whole place ≡ whole → (reply : Reply) (writes : Roomy (Key × Option Row)) → DeleteOf (root || not whole) some place view.quotas.items (Answer reply writes)
      → Keeps tables (all_own (delete_keys place) client) view.next.0 writes.items
  delete_keeps_answer true whole some top at_end reply writes is = none_keeps tables (all_own (delete_keys place) client) view.next.0 writes.items is.1
  delete_keeps_answer false false some top at_end reply writes is = none_keeps tables (all_own (delete_keys place) client) view.next.0 writes.items is.1
  delete_keeps_answer false true true top at_end reply writes is = none_keeps tables (all_own (delete_keys place) client) view.next.0 writes.items is.1
  delete_keeps_answer false true false top at_end reply writes is = removed_keeps at_end top writes.items is.1

delete_keep : (view : View) (client : ClientNo) (place : Place) → view.places.items ≡ place ∷ [] → (outcome : Outcome) → AnswersDelete place view.quotas.items outcome → KeepsOthers view client (call.Delete place.path false) outcome
delete_keep view client place one (Subtree kind) answers = tt
delete_keep view client place one (Answer reply writes) answers = λ tables own current.
    let sees = sees_of tables.inodes tables.quotas own client (call.Delete place.path false) view place one current in
    let walk = rows_of tables.inodes tables.quotas own client (call.Delete place.path false) view place one current in
    by_view tables view client (call.Delete place.path false) place writes.items one (delete_keeps_answer tables client view place sees walk (is_root place.path) (is_whole place) place.has_child refl refl reply writes answers)

pub delete_keeps : (view : View) (place : Place) (path : List (List ℕ)) (seen : List (InodeId × QuotaRow)) (r : Result Outcome NoMemory) → IsViewOf view (call.Delete path false) → slice_get view.places.items 0 ≡ Some place → seen ≡ view.quotas.items
    → IfOk r (AnswersDelete place seen) → IfOk r (IsKeptOf view (call.Delete path false))
delete_keeps view place path seen r is first same answers =
    of_path view (call.Delete path false) (λ p. call.Delete p false) place path is first refl refl (IsKeptOf view) (AnswersDelete place seen)
    (λ one spells outcome answer client. delete_keep view client place one outcome (subst (λ (s : List (InodeId × QuotaRow)). AnswersDelete place s outcome) same answer)) r answers

-- ---- `chmod`

mode_keep : (view : View) (client : ClientNo) (bits : ℕ) (place : Place) → view.places.items ≡ place ∷ [] → (outcome : Outcome) → IsModeSet (last_found place) bits outcome → KeepsOthers view client (call.Chmod place.path bits) outcome
mode_keep view client bits place one (Subtree kind) is = tt
mode_keep view client bits place one (Answer reply writes) is = λ tables own current.
    let sees = sees_of tables.inodes tables.quotas own client (call.Chmod place.path bits) view place one current in
    let walk = rows_of tables.inodes tables.quotas own client (call.Chmod place.path bits) view place one current in
    let set : IsModeSet (Some walk.down.bottom) bits (Answer reply writes) = subst (λ (o : Option (Key × Inode)). IsModeSet o bits (Answer reply writes)) (last_is tables.inodes tables.quotas (low place) client view place sees walk) is in
    let here = low_may tables.inodes tables.quotas (low place) client view place sees walk (λ k e. e) in
    by_view tables view client (call.Chmod place.path bits) place writes.items one (subst (Keeps tables (all_own (low place) client) view.next.0) (sym set.1)
    (keeps_last tables (low place) client view place sees walk here (row_with_mode bits walk.down.bottom.1) refl refl refl))

pub mode_keeps : (view : View) (path : List (List ℕ)) (bits : ℕ) (place : Place) (r : Result Outcome NoMemory) → IsViewOf view (call.Chmod path bits) → slice_get view.places.items 0 ≡ Some place
    → IfOk r (IsModeSet (last_found place) bits) → IfOk r (IsKeptOf view (call.Chmod path bits))
mode_keeps view path bits place r is first done =
    of_path view (call.Chmod path bits) (λ p. call.Chmod p bits) place path is first refl refl (IsKeptOf view) (IsModeSet (last_found place) bits)
    (λ one spells outcome answer client. mode_keep view client bits place one outcome answer) r done
