-- The outcome of `create` against the calls table, by what stands on its path.
use Rattle.std.proofs.Common.{◌≡◌, ℕ, ◌+◌, Bool, true, false, List, [], ◌∷◌, ◌++◌, length, reverse, slice_get, Option, Some, None, IfSome, option_map, Result, Ok, Err, IfOk, arith, refl, sym, ap, subst, ◌∙◌, length-append}
use Rattle.std.proofs.lemmas.Bool.{or_left, or_right}
use Rattle.std.proofs.lemmas.List.Folds.{list_any-append}
use Rattle.std.specs.List.{AllByRecursion, list_any}
use Rattle.hops_base.specs.Roomy.{Roomy}
use Rattle.hops_base.specs.declared.ids.ClientNo.{ClientNo}
use Rattle.hops_base.specs.declared.ids.InodeId.{InodeId}
use Rattle.hops_base.specs.declared.ids.Mode.{Mode}
use Rattle.hops_base.specs.declared.ids.Mode.TheVariants.{Exclusive}
use Rattle.hops_base.specs.declared.key.Key.{Key}
use Rattle.hops_base.specs.declared.key.Key.TheVariants as key
use Rattle.hops_base.specs.declared.memory.NoMemory.{NoMemory}
use Rattle.hops_base.specs.Key.{same_key}
use Rattle.name_space.specs.declared.call.Call.TheVariants as call
use Rattle.name_space.specs.declared.call.OpKind.{OpKind}
use Rattle.name_space.specs.declared.reply.Reply.{Reply}
use Rattle.name_space.specs.declared.reply.Reply.TheVariants.{Refused}
use Rattle.name_space.specs.declared.reply.Exception.{Exception}
use Rattle.name_space.specs.declared.reply.Exception.TheVariants.{FileAlreadyExists, ParentNotDirectory}
use Rattle.name_space.specs.Namespace.{Namespace, Path, entry_at, is_dir, is_file, with_entry, above, paths_below, missing}
use Rattle.name_space.specs.Plain.{refused, granted, unless, with_dirs, new_file, create}
use Rattle.name_space.specs.Calls.{as_read}
use Rattle.name_space.specs.Quota.{over_quota}
use Rattle.inode_table.specs.declared.inode.Inode.{Inode}
use Rattle.inode_table.specs.declared.inode.Kind.{Kind}
use Rattle.inode_table.specs.declared.inode.Kind.TheVariants.{Dir, File}
use Rattle.quota_table.specs.declared.quota.QuotaRow.{QuotaRow}
use Rattle.db_state.specs.Stored.{Tables}
use Rattle.db_state.specs.Stands.{entry_of, entry_of_kind, quota_of}
use Rattle.db_state.specs.Current.{SpellsPlace, is_locked}
use Rattle.db_state.specs.Plan.{deepest, is_whole, last_found, plan, in_mode, low, next, quotas, writer_lease, lease}
use Rattle.db_state.specs.declared.outcome.Outcome.{Outcome}
use Rattle.db_state.specs.declared.outcome.Outcome.TheVariants.{Answer, Subtree}
use Rattle.db_state.specs.declared.view.Place.{Place}
use Rattle.db_state.specs.declared.view.View.{View}
use Rattle.db_state.specs.declared.writes.Row.{Row}
use Rattle.db_state.specs.declared.writes.Row.TheVariants as row
use Rattle.inode_ops.specs.NewFile.{new_file_rows}
use Rattle.db_state.proofs.ChainLaws.{paths_below-length}
use Rattle.db_state.specs.QuotaWrites.{quota_writes, raised, lowered}
use Rattle.inode_ops.specs.CreateSteps.{overwritten, IsOverwritten, IsFiledUnless, CreateOf, AnswersCreate}
use Rattle.inode_ops.specs.Outcomes.{IsViewOf}
use Rattle.inode_ops.specs.QuotaSteps.{first_full, AreQuotasFound}
use Rattle.inode_ops.specs.Steps.{missing_names}
use Rattle.db_state.specs.CallsTable.{IsAnswer, IsCallsTable}
use Rattle.inode_ops.proofs.CountLemmas.{HasNoQuotas, all_found}
use Rattle.inode_ops.proofs.CreateRules.{create-dir, create-file, create-over, create-under_file, create-below}
use Rattle.inode_ops.proofs.FileRowLemmas.{file_new, row_new}
use Rattle.inode_ops.proofs.FiledLemmas.{filed_answer}
use Rattle.inode_ops.proofs.OverwriteLemmas.{overwritten_answer}
use Rattle.inode_ops.proofs.OutcomeLemmas.{set_of, locked_in, locked_more, file_of, dir_of, row_kind, whole_entry, partial_entry, kept, view_has}
use Rattle.inode_ops.proofs.OwnLemmas.{low_among}
use Rattle.inode_ops.proofs.PlaceLemmas.{IsSet, some_deepest, path_is, last_is, deepest_is, rest_is, whole_rest, partial_rest, entry_bottom, missing_entry, missing_is, over_is}
use Rattle.inode_ops.proofs.QuotaLemmas.{LocksQuota, locks_each}

-- ---- what is locked

-- what is among these keys is locked
create_locked : (client : ClientNo) (path : Path) (overwrite : Bool) (place : Place) (k : Key) → list_any (same_key k) (low place ++ next place ++ quotas place ++ writer_lease place ++ lease client place) ≡ true
    → is_locked (plan client (call.Create path overwrite) (place ∷ [])) k ≡ true
create_locked client path overwrite place k among =
    let keys : List Key = low place ++ next place ++ quotas place ++ writer_lease place ++ lease client place in
    locked_more (in_mode Exclusive keys ++ []) ((key.Reply client, Exclusive) ∷ []) k (locked_more (in_mode Exclusive keys) [] k (locked_in Exclusive keys k ∙ among))

pub first_parts : (k : Key) (a b c d e : List Key) → list_any (same_key k) (a ++ b ++ c) ≡ true → list_any (same_key k) (a ++ b ++ c ++ d ++ e) ≡ true
first_parts k a b c d e among =
    list_any-append (same_key k) (a ++ b ++ c ++ d) e
    ∙ or_left (list_any (same_key k) (a ++ b ++ c ++ d)) (list_any (same_key k) e) (list_any-append (same_key k) (a ++ b ++ c) d ∙ or_left (list_any (same_key k) (a ++ b ++ c)) (list_any (same_key k) d) among)

-- the quota keys of the rows found
create_locks : (client : ClientNo) (path : Path) (overwrite : Bool) (place : Place) → AllByRecursion (LocksQuota (plan client (call.Create path overwrite) (place ∷ []))) place.found.items
create_locks client path overwrite place = locks_each (plan client (call.Create path overwrite) (place ∷ [])) place.found.items (λ k among.
    create_locked client path overwrite place k (first_parts k (low place) (next place) (quotas place) (writer_lease place) (lease client place)
    (list_any-append (same_key k) (low place ++ next place) (quotas place) ∙ or_right (list_any (same_key k) (low place ++ next place)) (list_any (same_key k) (quotas place)) among)))

-- and the key of the last of them
last_locked : (client : ClientNo) (path : Path) (overwrite : Bool) (place : Place) (found : Key × Inode) → last_found place ≡ Some found → is_locked (plan client (call.Create path overwrite) (place ∷ [])) found.0 ≡ true
last_locked client path overwrite place found is =
    create_locked client path overwrite place found.0 (first_parts found.0 (low place) (next place) (quotas place) (writer_lease place) (lease client place)
    (list_any-append (same_key found.0) (low place ++ next place) (quotas place)
    ∙ or_left (list_any (same_key found.0) (low place ++ next place)) (list_any (same_key found.0) (quotas place))
    (list_any-append (same_key found.0) (low place) (next place) ∙ or_left (list_any (same_key found.0) (low place)) (list_any (same_key found.0) (next place))
    (low_among place found is))))

-- ---- against the rows

-- a directory's entry, and a file's
stands_dir : (kind : Kind) (row : Inode) (quota : Option QuotaRow) → kind ≡ Dir → is_dir (Some (entry_of_kind kind row quota)) ≡ true
stands_dir Dir row quota e = refl
stands_dir File row quota e = absurd (let bad = e in cc)

stands_file : (kind : Kind) (row : Inode) (quota : Option QuotaRow) → kind ≡ File → is_dir (Some (entry_of_kind kind row quota)) ≡ false
stands_file File row quota e = refl
stands_file Dir row quota e = absurd (let bad = e in cc)

module _ (tables : Tables) (bound : ℕ) (space : Namespace) (client : ClientNo) (user : List ℕ) (overwrite : Bool) (view : View) (place : Place) (locked : List (Key × Mode)) (set : IsSet tables view.next.0 space locked view.quotas.items place) where
  kind_is : (kind : Kind) → set.walk.down.bottom.1.kind ≡ kind → set.walk.down.at.there.row.kind ≡ kind
  kind_is = row_kind tables bound space client user view place locked set

  -- a directory stands there
  plain_there : is_whole place ≡ true → set.walk.down.bottom.1.kind ≡ Dir → create space client user place.path overwrite ≡ refused FileAlreadyExists space
  plain_there whole dir =
      create-dir space client user place.path overwrite (ap is_dir (whole_entry tables bound space client user view place locked set whole)
      ∙ stands_dir set.walk.down.at.there.row.kind set.walk.down.at.there.row (quota_of tables.quotas set.walk.down.at.there.row.id) (kind_is Dir dir))

  -- a file that isn't overwritten
  plain_file : is_whole place ≡ true → set.walk.down.bottom.1.kind ≡ File → create space client user place.path false ≡ refused FileAlreadyExists space
  plain_file whole file =
      let row : Inode = set.walk.down.at.there.row in
      create-file space client user place.path (entry_of tables.quotas row) (whole_entry tables bound space client user view place locked set whole)
      (stands_file row.kind row (quota_of tables.quotas row.id) (kind_is File file)) (file_of row.kind row (quota_of tables.quotas row.id) (kind_is File file))

  -- one that is
  plain_over : is_whole place ≡ true → set.walk.down.bottom.1.kind ≡ File → create space client user place.path true ≡ granted (with_entry space place.path (new_file client user))
  plain_over whole file =
      let row : Inode = set.walk.down.at.there.row in
      create-over space client user place.path (entry_of tables.quotas row) (whole_entry tables bound space client user view place locked set whole)
      (stands_file row.kind row (quota_of tables.quotas row.id) (kind_is File file)) (file_of row.kind row (quota_of tables.quotas row.id) (kind_is File file))
      (missing_is tables view.next.0 space locked view.quotas.items place set ∙ ap (paths_below (reverse set.walk.down.dir)) (whole_rest tables view.next.0 space locked view.quotas.items place set whole))

  -- a file stands above it
  plain_under : is_whole place ≡ false → set.walk.down.bottom.1.kind ≡ File → create space client user place.path overwrite ≡ refused ParentNotDirectory space
  plain_under part file =
      let row : Inode = set.walk.down.at.there.row in
      let rest = partial_rest tables view.next.0 space locked view.quotas.items place set part in
      let first : entry_at space (reverse set.walk.down.dir ++ rest.0 ∷ []) ≡ None = subst (λ (names : List (List ℕ)). IfSome (slice_get names 0) (λ (name : List ℕ). entry_at space (reverse set.walk.down.dir ++ name ∷ []) ≡ None)) rest.2 (missing_entry tables view.next.0 space locked view.quotas.items place set) in
      let path : reverse set.walk.down.dir ++ rest.0 ∷ rest.1 ≡ place.path = ap (λ (p : List (List ℕ)). reverse set.walk.down.dir ++ p) (sym rest.2) ∙ path_is tables view.next.0 space locked view.quotas.items place set in
      ap (λ (p : Path). create space client user p overwrite) (sym path)
      ∙ create-under_file space set.names client user overwrite (reverse set.walk.down.dir) rest.0 rest.1 (entry_of tables.quotas row) (entry_bottom tables view.next.0 space locked view.quotas.items place set)
      (file_of row.kind row (quota_of tables.quotas row.id) (kind_is File file)) first (ap (entry_at space) path ∙ partial_entry tables bound space client user view place locked set part)

  -- names are missing below a directory
  plain_below : is_whole place ≡ false → set.walk.down.bottom.1.kind ≡ Dir → AllByRecursion (LocksQuota locked) place.found.items
      → create space client user place.path overwrite
      ≡ unless (first_full place.path place.found.items view.quotas.items (length (missing_names place))) space (granted (with_entry (with_dirs space user (missing space place.path)) place.path (new_file client user)))
  plain_below part dir locks =
      let row : Inode = set.walk.down.at.there.row in
      let path = path_is tables view.next.0 space locked view.quotas.items place set in
      let is_dir : is_file (Some (entry_of tables.quotas row)) ≡ false = dir_of row.kind row (quota_of tables.quotas row.id) (kind_is Dir dir) in
      let gone : entry_at space (reverse set.walk.down.dir ++ set.walk.down.rest) ≡ None = ap (entry_at space) path ∙ partial_entry tables bound space client user view place locked set part in
      let all = missing_is tables view.next.0 space locked view.quotas.items place set in
      let count : length (paths_below (reverse set.walk.down.dir) set.walk.down.rest) ≡ length (missing_names place) = paths_below-length set.walk.down.rest (reverse set.walk.down.dir) ∙ ap (λ (names : List (List ℕ)). length names) (sym (rest_is tables view.next.0 space locked view.quotas.items place set)) in
      ap (λ (p : Path). create space client user p overwrite) (sym path)
      ∙ create-below space set.names client user overwrite (reverse set.walk.down.dir) set.walk.down.rest (entry_of tables.quotas row) (entry_bottom tables view.next.0 space locked view.quotas.items place set) is_dir (missing_entry tables view.next.0 space locked view.quotas.items place set) gone
      ∙ (λ i. unless (over_quota space (count i) 0 (above (path i))) space (granted (with_entry (with_dirs space user (sym all i)) (path i) (new_file client user))))
      ∙ ap (λ (o : Option Exception). unless o space (granted (with_entry (with_dirs space user (missing space place.path)) place.path (new_file client user)))) (over_is tables view.next.0 space locked view.quotas.items place set (length (missing_names place)) locks dir part)

  -- what `create` answers below a directory
  answer_below : is_whole place ≡ false → set.walk.down.bottom.1.kind ≡ Dir → AllByRecursion (LocksQuota locked) place.found.items → (reply : Reply) (writes : Roomy (Key × Option Row)) (full : Option Exception)
      → first_full place.path place.found.items view.quotas.items (length (missing_names place)) ≡ full
      → IsFiledUnless full set.walk.down.bottom.1 place view client user (missing_names place) (Answer reply writes) → IsAnswer tables space client user (call.Create place.path overwrite) view reply writes.items
  answer_below part dir locks reply writes (Some exception) full is =
      kept tables bound space client user view place locked set (call.Create place.path overwrite) reply (Refused exception) writes.items refl
      (plain_below part dir locks ∙ ap (λ (o : Option Exception). unless o space (granted (with_entry (with_dirs space user (missing space place.path)) place.path (new_file client user)))) full) (ap as_read is.0) is.1
  answer_below part dir locks reply writes None full is =
      let rest = rest_is tables view.next.0 space locked view.quotas.items place set in
      let split : set.walk.down.rest ≡ is.1 ++ is.2 ∷ [] = sym rest ∙ is.3 in
      let chosen : List (InodeId × QuotaRow) = is.4.0 in
      let found : AreQuotasFound (set.walk.first ∷ set.walk.rows) view.quotas.items [] chosen =
      subst (λ (rs : List (Key × Inode)). AreQuotasFound rs view.quotas.items [] chosen) set.walk.items (all_found place.found.items view.quotas.items (new_file_rows set.walk.down.bottom.1.id.0 view.next.0 user is.1 is.2 client) chosen (file_new is.1 set.walk.down.bottom.1.id.0 view.next.0 user is.2 client) is.4.2) in
      let items : writes.items ≡ new_file_rows set.walk.down.at.there.row.id.0 view.next.0 user is.1 is.2 client ++ quota_writes (raised (length set.walk.down.rest) 0) chosen =
      is.4.1 ∙ (λ i. new_file_rows (sym set.walk.down.at.there.id i).0 view.next.0 user is.1 is.2 client ++ quota_writes (raised (length (rest i)) 0) chosen) in
      let long : length set.walk.down.rest ≡ length is.1 + 1 = ap (λ (p : List (List ℕ)). length p) split ∙ length-append is.1 (is.2 ∷ []) in
      filed_answer tables space locked view.quotas.items place view set (subst (AllByRecursion (LocksQuota locked)) set.walk.items locks) (kind_is Dir dir) client user is.1 is.2 split chosen found
      (call.Create place.path overwrite) reply writes.items (λ old new. refl) refl (let few = set.walk.down.few in omega arith)
      (plain_below part dir locks ∙ ap (λ (o : Option Exception). unless o space (granted (with_entry (with_dirs space user (missing space place.path)) place.path (new_file client user)))) full) (ap as_read is.0) items

  -- the row of the file is no quota row
  file_apart : (made : Option Row) → HasNoQuotas ((set.walk.down.bottom.0, made) ∷ [])
  file_apart made =
      let at = set.tree.keys set.walk.down.bottom.0 set.walk.down.at.there.row set.walk.down.at.there.there in
      row_new at.0 at.1 set.walk.down.bottom.0 made ((set.walk.down.bottom.0, made) ∷ []) at.2 refl

  -- what it answers where it overwrites a file
  answer_over : is_whole place ≡ true → set.walk.down.bottom.1.kind ≡ File → AllByRecursion (LocksQuota locked) place.found.items → is_locked locked set.walk.down.bottom.0 ≡ true → (reply : Reply) (writes : Roomy (Key × Option Row))
      → IsOverwritten set.walk.down.bottom place view client user (Answer reply writes) → IsAnswer tables space client user (call.Create place.path true) view reply writes.items
  answer_over whole file locks lock reply writes is =
      let same : set.walk.down.at.there.row ≡ set.walk.down.bottom.1 = set.walk.down.at.there.whole lock in
      let chosen : List (InodeId × QuotaRow) = is.1.0 in
      let made : Option Row = Some (row.Inode (overwritten client user set.walk.down.bottom.1)) in
      let items : writes.items ≡ (set.walk.down.bottom.0, Some (row.Inode (overwritten client user set.walk.down.at.there.row))) ∷ quota_writes (lowered 0 set.walk.down.at.there.row.len) chosen =
      is.1.1 ∙ ap (λ (r : Inode). (set.walk.down.bottom.0, Some (row.Inode (overwritten client user r))) ∷ quota_writes (lowered 0 r.len) chosen) (sym same) in
      overwritten_answer tables space locked view.quotas.items place view set (subst (AllByRecursion (LocksQuota locked)) set.walk.items locks) whole (kind_is File file) client user chosen
      (subst (λ (rs : List (Key × Inode)). AreQuotasFound rs view.quotas.items [] chosen) set.walk.items (all_found place.found.items view.quotas.items ((set.walk.down.bottom.0, made) ∷ []) chosen (file_apart made) is.1.2))
      (call.Create place.path true) reply writes.items (λ before then. refl) refl (plain_over whole file) (ap as_read is.0) items

module _ (tables : Tables) (bound : ℕ) (space : Namespace) (client : ClientNo) (user : List ℕ) (view : View) (place : Place) (locked : List (Key × Mode)) (set : IsSet tables view.next.0 space locked view.quotas.items place)
    (locks : AllByRecursion (LocksQuota locked) place.found.items) (lock : is_locked locked set.walk.down.bottom.0 ≡ true) where
  -- what `create` answers
  answer_create : (overwrite : Bool) (reply : Reply) (writes : Roomy (Key × Option Row)) (kind : Kind) (whole : Bool) → set.walk.down.bottom.1.kind ≡ kind → is_whole place ≡ whole
      → CreateOf kind whole set.walk.down.bottom.1 place view client user overwrite (Answer reply writes) → IsAnswer tables space client user (call.Create place.path overwrite) view reply writes.items
  answer_create overwrite reply writes Dir true kind whole is = kept tables bound space client user view place locked set (call.Create place.path overwrite) reply (Refused FileAlreadyExists) writes.items refl
      (plain_there tables bound space client user overwrite view place locked set whole kind) (ap as_read is.0) is.1
  answer_create overwrite reply writes Dir false kind whole is = answer_below tables bound space client user overwrite view place locked set whole kind locks reply writes (first_full place.path place.found.items view.quotas.items (length (missing_names place))) refl is
  answer_create true reply writes File true kind whole is = answer_over tables bound space client user true view place locked set whole kind locks lock reply writes
      (subst (λ (o : Option (Key × Inode)). IfSome o (λ (found : Key × Inode). IsOverwritten found place view client user (Answer reply writes))) (last_is tables view.next.0 space locked view.quotas.items place set) is)
  answer_create false reply writes File true kind whole is = kept tables bound space client user view place locked set (call.Create place.path false) reply (Refused FileAlreadyExists) writes.items refl
      (plain_file tables bound space client user false view place locked set whole kind) (ap as_read is.0) is.1
  answer_create overwrite reply writes File false kind whole is = kept tables bound space client user view place locked set (call.Create place.path overwrite) reply (Refused ParentNotDirectory) writes.items refl
      (plain_under tables bound space client user overwrite view place locked set whole kind) (ap as_read is.0) is.1

-- ---- the outcome

-- no subtree operation is asked for
no_subtree : (overwrite : Bool) (kind : Kind) (whole : Bool) (full : Option Exception) (found : Option (Key × Inode)) (last : Inode) (place : Place) (view : View) (client : ClientNo) (user : List ℕ) (of : OpKind) → first_full place.path place.found.items view.quotas.items (length (missing_names place)) ≡ full
    → last_found place ≡ found → deepest place ≡ Some last → CreateOf kind whole last place view client user overwrite (Subtree of) → ⊥
no_subtree overwrite Dir true full found last place view client user of e is low bad = bad
no_subtree overwrite Dir false full found last place view client user of e is low bad = never full (subst (λ (o : Option Exception). IsFiledUnless o last place view client user (missing_names place) (Subtree of)) e bad)
  where
    never : (o : Option Exception) → IsFiledUnless o last place view client user (missing_names place) (Subtree of) → ⊥
    never None bad = bad
    never (Some exception) bad = bad
no_subtree true File true full found last place view client user of e is low bad = never found (sym (ap (option_map (λ (r : Key × Inode). r.1)) is) ∙ low) (subst (λ (o : Option (Key × Inode)). IfSome o (λ (r : Key × Inode). IsOverwritten r place view client user (Subtree of))) is bad)
  where
    never : (o : Option (Key × Inode)) → option_map (λ (r : Key × Inode). r.1) o ≡ Some last → IfSome o (λ (r : Key × Inode). IsOverwritten r place view client user (Subtree of)) → ⊥
    never None some bad = let wrong = some in cc
    never (Some r) some bad = bad
no_subtree false File true full found last place view client user of e is low bad = bad
no_subtree overwrite File false full found last place view client user of e is low bad = bad

create_outcome : (view : View) (client : ClientNo) (user : List ℕ) (overwrite : Bool) (place : Place) → view.places.items ≡ place ∷ [] → SpellsPlace place → (outcome : Outcome) → AnswersCreate place view client user overwrite outcome → IsCallsTable view client user (call.Create place.path overwrite) outcome
create_outcome view client user overwrite place one spells (Answer reply writes) answers = λ tables bound space own before.
    let set = set_of tables bound space own client (call.Create place.path overwrite) view place one before in
    let last = deepest_is tables view.next.0 space (plan client (call.Create place.path overwrite) (place ∷ [])) view.quotas.items place set in
    let found = last_is tables view.next.0 space (plan client (call.Create place.path overwrite) (place ∷ [])) view.quotas.items place set in
    answer_create tables bound space client user view place (plan client (call.Create place.path overwrite) (place ∷ [])) set (create_locks client place.path overwrite place) (last_locked client place.path overwrite place set.walk.down.bottom found)
    overwrite reply writes set.walk.down.bottom.1.kind (is_whole place) refl refl
    (subst (λ (o : Option Inode). IfSome o (λ last. CreateOf last.kind (is_whole place) last place view client user overwrite (Answer reply writes))) last answers)
create_outcome view client user overwrite place one spells (Subtree of) answers =
    let last = some_deepest place spells in
    no_subtree overwrite last.0.kind (is_whole place) (first_full place.path place.found.items view.quotas.items (length (missing_names place))) (last_found place) last.0 place view client user of refl refl last.1
    (subst (λ (o : Option Inode). IfSome o (λ last. CreateOf last.kind (is_whole place) last place view client user overwrite (Subtree of))) last.1 answers)

pub create_result : (view : View) (client : ClientNo) (user : List ℕ) (path : Path) (overwrite : Bool) (place : Place) (r : Result Outcome NoMemory) → IsViewOf view (call.Create path overwrite) → slice_get view.places.items 0 ≡ Some place
    → IfOk r (AnswersCreate place view client user overwrite) → IfOk r (IsCallsTable view client user (call.Create path overwrite))
create_result view client user path overwrite place (Err e) is first answers = tt
create_result view client user path overwrite place (Ok outcome) is first answers =
    let has = view_has view (call.Create path overwrite) place path is first refl in
    subst (λ (p : Path). IsCallsTable view client user (call.Create p overwrite) outcome) has.1 (create_outcome view client user overwrite place has.0 has.2 outcome answers)
