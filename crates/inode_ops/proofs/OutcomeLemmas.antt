-- Outcomes against the calls table: `stat`, and `mkdirs` by what stands on its path.
use Rattle.std.proofs.Common.{◌≡◌, ℕ, ◌+◌, Bool, true, false, ◌||◌, List, [], ◌∷◌, ◌++◌, map as list_map, length, reverse, slice_get, Option, Some, None, IfSome, Result, Ok, Err, IfOk, arith, refl, sym, ap, subst, ◌∙◌, inl, inr, append-nil}
use Rattle.std.proofs.lemmas.Bool.{or_left, or_right}
use Rattle.std.proofs.lemmas.List.Folds.{list_any-append}
use Rattle.std.specs.List.{AllByRecursion, list_any}
use Rattle.hops_base.specs.Roomy.{Roomy}
use Rattle.hops_base.specs.declared.ids.ClientNo.{ClientNo}
use Rattle.hops_base.specs.declared.ids.InodeId.{InodeId}
use Rattle.hops_base.specs.declared.ids.OpId.{OpId}
use Rattle.hops_base.specs.declared.ids.Mode.{Mode}
use Rattle.hops_base.specs.declared.ids.Mode.TheVariants.{Shared, Exclusive}
use Rattle.hops_base.specs.declared.key.Key.{Key}
use Rattle.hops_base.specs.declared.key.Key.TheVariants as key
use Rattle.hops_base.specs.declared.memory.NoMemory.{NoMemory}
use Rattle.hops_base.specs.Key.{same_key}
use Rattle.name_space.specs.declared.call.Call.{Call}
use Rattle.name_space.specs.declared.call.Call.TheVariants as call
use Rattle.name_space.specs.declared.reply.Reply.{Reply}
use Rattle.name_space.specs.declared.reply.Reply.TheVariants.{Truth, Status, Refused}
use Rattle.name_space.specs.declared.reply.Exception.{Exception}
use Rattle.name_space.specs.declared.reply.Exception.TheVariants.{FileNotFound, FileAlreadyExists, ParentNotDirectory}
use Rattle.name_space.specs.Namespace.{Namespace, Path, entry_at, is_file, above, paths_below, missing}
use Rattle.name_space.proofs.NamespaceLaws.{missing_within}
use Rattle.name_space.proofs.PathLaws.{is_within-append}
use Rattle.name_space.proofs.MkdirsLaws.{mkdirs-file, mkdirs-under_file, mkdirs-below}
use Rattle.name_space.specs.Plain.{told, refused, granted, unless, with_dirs, mkdirs, stat_at}
use Rattle.name_space.specs.Plain as plain_words
use Rattle.name_space.specs.Quota.{over_quota}
use Rattle.inode_table.specs.declared.inode.Inode.{Inode}
use Rattle.inode_table.specs.declared.inode.Kind.{Kind}
use Rattle.inode_table.specs.declared.inode.Kind.TheVariants.{Dir, File}
use Rattle.quota_table.specs.declared.quota.QuotaRow.{QuotaRow}
use Rattle.db_state.specs.Stored.{Tables}
use Rattle.db_state.specs.Stands.{entry_of, entry_of_kind, quota_of}
use Rattle.db_state.specs.Current.{IsCurrentPlace, SpellsPlace, is_locked}
use Rattle.db_state.specs.Plan.{is_whole, plan, in_mode, low, next, quotas, last_found}
use Rattle.db_state.specs.declared.outcome.Outcome.{Outcome}
use Rattle.db_state.specs.declared.outcome.Outcome.TheVariants.{Answer, Subtree}
use Rattle.db_state.specs.declared.view.Place.{Place}
use Rattle.db_state.specs.declared.view.View.{View}
use Rattle.db_state.specs.declared.writes.Row.{Row}
use Rattle.db_state.proofs.ChainLaws.{paths_below-length}
use Rattle.db_state.specs.NewDirs.{new_dirs}
use Rattle.db_state.specs.QuotaWrites.{quota_writes, raised}
use Rattle.inode_ops.specs.Outcomes.{path_of, Suits, IsViewOf}
use Rattle.inode_ops.specs.QuotaSteps.{first_full, AreQuotasFound}
use Rattle.inode_ops.specs.Steps.{row_status, status_of_kind, missing_names, IsMadeUnless, MkdirsOf, AnswersMkdirs, StatOf, AnswersStat}
use Rattle.db_state.specs.CallsTable.{IsBefore, IsAnswer, IsCallsTable}
use Rattle.inode_ops.proofs.CountLemmas.{all_found}
use Rattle.inode_ops.proofs.MissingLemmas.{dirs_new}
use Rattle.inode_ops.proofs.QuotaLemmas.{LocksQuota, locks_each, none_more}
use Rattle.inode_ops.proofs.OwnLemmas.{low_among}
use Rattle.inode_ops.proofs.PlaceLemmas.{IsSet, walk_of, some_deepest, path_is, last_is, deepest_is, rest_is, whole_rest, partial_rest, entry_bottom, missing_entry, missing_is, over_is}
use Rattle.inode_ops.proofs.TableLemmas.{tree_at, unchanged, made}

-- ---- the view

-- a list of one item is that item
pub one_item : (places : List Place) (place : Place) → length places ≡ 1 → slice_get places 0 ≡ Some place → places ≡ place ∷ []
one_item [] place long is = absurd (let bad = is in cc)
one_item (p ∷ []) place long is = let same : p ≡ place = cc in ap (λ (q : Place). q ∷ []) same
one_item (p ∷ q ∷ places) place long is = absurd (omega arith)

-- what is known before a call whose view has one place
pub set_of : (tables : Tables) (bound : ℕ) (space : Namespace) (own : Option OpId) (client : ClientNo) (asked : Call) (view : View) (place : Place) → view.places.items ≡ place ∷ [] → IsBefore tables bound space own client asked view
    → IsSet tables view.next.0 space (plan client asked (place ∷ [])) view.quotas.items place
set_of tables bound space own client asked view place one before =
    let current = before.current in
    let here : AllByRecursion (IsCurrentPlace tables.inodes (plan client asked (place ∷ [])) own) (place ∷ []) = subst (λ (places : List Place). AllByRecursion (IsCurrentPlace tables.inodes (plan client asked places) own) places) one current.current in
    record {
      tree = tree_at tables.inodes bound view.next.0 before.tree current.next;
      names = before.names;
      stands = before.stands;
      counts = before.counts;
      sees = subst (λ (places : List Place). Rattle.db_state.specs.Current.SeesQuotas tables.quotas (plan client asked places) view.quotas.items) one current.quotas;
      none = here.0.missing;
      walk = walk_of tables.inodes (plan client asked (place ∷ [])) place here.0.spells here.0.there;
    }

-- ---- what is locked

pub locked_in : (mode : Mode) (ks : List Key) (k : Key) → is_locked (in_mode mode ks) k ≡ list_any (same_key k) ks
locked_in mode [] k = refl
locked_in mode (x ∷ ks) k = ap (λ (b : Bool). same_key k x || b) (locked_in mode ks k)

pub locked_more : (a b : List (Key × Mode)) (k : Key) → is_locked a k ≡ true → is_locked (a ++ b) k ≡ true
locked_more a b k e = list_any-append (λ (l : Key × Mode). same_key k l.0) a b ∙ or_left (is_locked a k) (is_locked b k) e

pub among_third : (a b c : List Key) (k : Key) → list_any (same_key k) c ≡ true → list_any (same_key k) (a ++ b ++ c) ≡ true
among_third a b c k e =
    list_any-append (same_key k) (a ++ b) c ∙ or_right (list_any (same_key k) (a ++ b)) (list_any (same_key k) c) e

-- where the path isn't whole, `mkdirs` locks the quota keys of the rows found
mkdirs_locks : (client : ClientNo) (path : List (List ℕ)) (place : Place) → is_whole place ≡ false → AllByRecursion (LocksQuota (plan client (call.Mkdirs path) (place ∷ []))) place.found.items
mkdirs_locks client path place part = locks_each (plan client (call.Mkdirs path) (place ∷ [])) place.found.items (λ k among.
    locked_more (in_mode Exclusive (low place ++ next place ++ Rattle.db_state.specs.Plan.where_so (Rattle.std.proofs.Common.not (is_whole place)) (quotas place)) ++ []) ((key.Reply client, Exclusive) ∷ []) k
    (locked_more (in_mode Exclusive (low place ++ next place ++ Rattle.db_state.specs.Plan.where_so (Rattle.std.proofs.Common.not (is_whole place)) (quotas place))) [] k
    (locked_in Exclusive (low place ++ next place ++ Rattle.db_state.specs.Plan.where_so (Rattle.std.proofs.Common.not (is_whole place)) (quotas place)) k
    ∙ among_third (low place) (next place) (Rattle.db_state.specs.Plan.where_so (Rattle.std.proofs.Common.not (is_whole place)) (quotas place)) k
    (ap (λ (b : Bool). list_any (same_key k) (Rattle.db_state.specs.Plan.where_so (Rattle.std.proofs.Common.not b) (quotas place))) part ∙ among))))

-- `stat` locks the last row found
stat_locks : (client : ClientNo) (path : List (List ℕ)) (place : Place) (last : Key × Inode) → last_found place ≡ Some last → is_locked (plan client (call.Stat path) (place ∷ [])) last.0 ≡ true
stat_locks client path place last is =
    locked_more (in_mode Shared (low place) ++ []) ((key.Reply client, Exclusive) ∷ []) last.0 (locked_more (in_mode Shared (low place)) [] last.0 (locked_in Shared (low place) last.0
    ∙ low_among place last is))

-- ---- `mkdirs`

pub file_of : (kind : Kind) (row : Inode) (quota : Option QuotaRow) → kind ≡ File → is_file (Some (entry_of_kind kind row quota)) ≡ true
file_of File row quota e = refl
file_of Dir row quota e = absurd (let bad = e in cc)

pub dir_of : (kind : Kind) (row : Inode) (quota : Option QuotaRow) → kind ≡ Dir → is_file (Some (entry_of_kind kind row quota)) ≡ false
dir_of Dir row quota e = refl
dir_of File row quota e = absurd (let bad = e in cc)

module _ (tables : Tables) (bound : ℕ) (space : Namespace) (client : ClientNo) (user : List ℕ) (view : View) (place : Place) (locked : List (Key × Mode)) (set : IsSet tables view.next.0 space locked view.quotas.items place) where
  pub row_kind : (kind : Kind) → set.walk.down.bottom.1.kind ≡ kind → set.walk.down.at.there.row.kind ≡ kind
  row_kind kind is = set.walk.down.at.there.kind ∙ is

  -- what stands at a path that was found whole
  pub whole_entry : is_whole place ≡ true → entry_at space place.path ≡ Some (entry_of tables.quotas set.walk.down.at.there.row)
  whole_entry whole =
      ap (entry_at space) (sym (path_is tables view.next.0 space locked view.quotas.items place set) ∙ ap (λ (p : List (List ℕ)). reverse set.walk.down.dir ++ p) (whole_rest tables view.next.0 space locked view.quotas.items place set whole) ∙ append-nil (reverse set.walk.down.dir))
      ∙ entry_bottom tables view.next.0 space locked view.quotas.items place set

  -- nothing stands at any other
  pub partial_entry : is_whole place ≡ false → entry_at space place.path ≡ None
  partial_entry part =
      let rest = partial_rest tables view.next.0 space locked view.quotas.items place set part in
      let first : entry_at space (reverse set.walk.down.dir ++ rest.0 ∷ []) ≡ None = subst (λ (names : List (List ℕ)). IfSome (slice_get names 0) (λ (name : List ℕ). entry_at space (reverse set.walk.down.dir ++ name ∷ []) ≡ None)) rest.2 (missing_entry tables view.next.0 space locked view.quotas.items place set) in
      let path : (reverse set.walk.down.dir ++ rest.0 ∷ []) ++ rest.1 ≡ place.path = Rattle.std.proofs.Common.append_assoc (reverse set.walk.down.dir) (rest.0 ∷ []) rest.1 ∙ ap (λ (p : List (List ℕ)). reverse set.walk.down.dir ++ p) (sym rest.2) ∙ path_is tables view.next.0 space locked view.quotas.items place set in
      ap (entry_at space) (sym path) ∙ missing_within space set.names (reverse set.walk.down.dir ++ rest.0 ∷ []) first ((reverse set.walk.down.dir ++ rest.0 ∷ []) ++ rest.1) (is_within-append (reverse set.walk.down.dir ++ rest.0 ∷ []) rest.1)

  -- a directory stands there
  plain_there : is_whole place ≡ true → set.walk.down.bottom.1.kind ≡ Dir → mkdirs space user place.path ≡ told (Truth true) space
  plain_there whole dir =
      let entry = entry_bottom tables view.next.0 space locked view.quotas.items place set in
      let path : reverse set.walk.down.dir ++ [] ≡ place.path = ap (λ (p : List (List ℕ)). reverse set.walk.down.dir ++ p) (sym (whole_rest tables view.next.0 space locked view.quotas.items place set whole)) ∙ path_is tables view.next.0 space locked view.quotas.items place set in
      let is_dir : is_file (Some (entry_of tables.quotas set.walk.down.at.there.row)) ≡ false = dir_of set.walk.down.at.there.row.kind set.walk.down.at.there.row (quota_of tables.quotas set.walk.down.at.there.row.id) (row_kind Dir dir) in
      let here : is_file (entry_at space (reverse set.walk.down.dir ++ [])) ≡ false = ap (λ (p : Path). is_file (entry_at space p)) (append-nil (reverse set.walk.down.dir)) ∙ ap is_file entry ∙ is_dir in
      ap (mkdirs space user) (sym path) ∙ mkdirs-below space set.names user (reverse set.walk.down.dir) [] (entry_of tables.quotas set.walk.down.at.there.row) entry is_dir tt here
      ∙ ap (λ (o : Option Exception). unless o space (granted space)) (none_more space (above (reverse set.walk.down.dir ++ [])))

  -- a file does
  plain_file : is_whole place ≡ true → set.walk.down.bottom.1.kind ≡ File → mkdirs space user place.path ≡ refused FileAlreadyExists space
  plain_file whole file =
      mkdirs-file space set.names user place.path (ap is_file (whole_entry whole) ∙ file_of set.walk.down.at.there.row.kind set.walk.down.at.there.row (quota_of tables.quotas set.walk.down.at.there.row.id) (row_kind File file))

  -- a file stands above it
  plain_under : is_whole place ≡ false → set.walk.down.bottom.1.kind ≡ File → mkdirs space user place.path ≡ refused ParentNotDirectory space
  plain_under part file =
      let rest = partial_rest tables view.next.0 space locked view.quotas.items place set part in
      let first : entry_at space (reverse set.walk.down.dir ++ rest.0 ∷ []) ≡ None = subst (λ (names : List (List ℕ)). IfSome (slice_get names 0) (λ (name : List ℕ). entry_at space (reverse set.walk.down.dir ++ name ∷ []) ≡ None)) rest.2 (missing_entry tables view.next.0 space locked view.quotas.items place set) in
      let path : reverse set.walk.down.dir ++ rest.0 ∷ rest.1 ≡ place.path = ap (λ (p : List (List ℕ)). reverse set.walk.down.dir ++ p) (sym rest.2) ∙ path_is tables view.next.0 space locked view.quotas.items place set in
      ap (mkdirs space user) (sym path) ∙ mkdirs-under_file space set.names user (reverse set.walk.down.dir) rest.0 rest.1 (entry_of tables.quotas set.walk.down.at.there.row) (entry_bottom tables view.next.0 space locked view.quotas.items place set)
      (file_of set.walk.down.at.there.row.kind set.walk.down.at.there.row (quota_of tables.quotas set.walk.down.at.there.row.id) (row_kind File file)) first (ap (entry_at space) path ∙ partial_entry part)

  -- names are missing below a directory
  plain_below : is_whole place ≡ false → set.walk.down.bottom.1.kind ≡ Dir → AllByRecursion (LocksQuota locked) place.found.items
      → mkdirs space user place.path ≡ unless (first_full place.path place.found.items view.quotas.items (length (missing_names place))) space (granted (with_dirs space user (missing space place.path)))
  plain_below part dir locks =
      let path = path_is tables view.next.0 space locked view.quotas.items place set in
      let entry = entry_bottom tables view.next.0 space locked view.quotas.items place set in
      let is_dir : is_file (Some (entry_of tables.quotas set.walk.down.at.there.row)) ≡ false = dir_of set.walk.down.at.there.row.kind set.walk.down.at.there.row (quota_of tables.quotas set.walk.down.at.there.row.id) (row_kind Dir dir) in
      let here : is_file (entry_at space (reverse set.walk.down.dir ++ set.walk.down.rest)) ≡ false = ap is_file (ap (entry_at space) path ∙ partial_entry part) in
      let count : length (paths_below (reverse set.walk.down.dir) set.walk.down.rest) ≡ length (missing_names place) = paths_below-length set.walk.down.rest (reverse set.walk.down.dir) ∙ ap (λ (names : List (List ℕ)). length names) (sym (rest_is tables view.next.0 space locked view.quotas.items place set)) in
      ap (mkdirs space user) (sym path)
      ∙ mkdirs-below space set.names user (reverse set.walk.down.dir) set.walk.down.rest (entry_of tables.quotas set.walk.down.at.there.row) entry is_dir (missing_entry tables view.next.0 space locked view.quotas.items place set) here
      ∙ ap (λ (n : ℕ). unless (over_quota space n 0 (above (reverse set.walk.down.dir ++ set.walk.down.rest))) space (granted (with_dirs space user (paths_below (reverse set.walk.down.dir) set.walk.down.rest)))) count
      ∙ ap (λ (p : Path). unless (over_quota space (length (missing_names place)) 0 (above p)) space (granted (with_dirs space user (paths_below (reverse set.walk.down.dir) set.walk.down.rest)))) path
      ∙ ap (λ (o : Option Exception). unless o space (granted (with_dirs space user (paths_below (reverse set.walk.down.dir) set.walk.down.rest)))) (over_is tables view.next.0 space locked view.quotas.items place set (length (missing_names place)) locks dir part)
      ∙ ap (λ (ps : List Path). unless (first_full place.path place.found.items view.quotas.items (length (missing_names place))) space (granted (with_dirs space user ps))) (sym (missing_is tables view.next.0 space locked view.quotas.items place set))

  -- an answer that changes nothing
  pub kept : (asked : Call) (reply said : Reply) (writes : List (Key × Option Row)) → Rattle.commit_log.specs.Ids.move_of space space asked ≡ None → Rattle.name_space.specs.Calls.plain space client user asked ≡ told said space → Rattle.name_space.specs.Calls.as_read reply ≡ said → writes ≡ [] → IsAnswer tables space client user asked view reply writes
  kept asked reply said writes still answer reads none = unchanged tables bound space client user asked view reply said writes set.tree set.names set.stands set.counts still answer reads none

  -- what `mkdirs` answers below a directory
  answer_below : is_whole place ≡ false → set.walk.down.bottom.1.kind ≡ Dir → AllByRecursion (LocksQuota locked) place.found.items → (reply : Reply) (writes : Roomy (Key × Option Row)) (full : Option Exception)
      → first_full place.path place.found.items view.quotas.items (length (missing_names place)) ≡ full
      → IsMadeUnless full set.walk.down.bottom.1 place view.quotas.items view.next.0 user (missing_names place) (Answer reply writes) → IsAnswer tables space client user (call.Mkdirs place.path) view reply writes.items
  answer_below part dir locks reply writes (Some exception) full is =
      kept (call.Mkdirs place.path) reply (Refused exception) writes.items refl (plain_below part dir locks ∙ ap (λ (o : Option Exception). unless o space (granted (with_dirs space user (missing space place.path)))) full) (ap Rattle.name_space.specs.Calls.as_read is.0) is.1
  answer_below part dir locks reply writes None full is =
      let rest = rest_is tables view.next.0 space locked view.quotas.items place set in
      let chosen : List (InodeId × QuotaRow) = is.1.0 in
      let found : AreQuotasFound (set.walk.first ∷ set.walk.rows) view.quotas.items [] chosen =
      subst (λ (rs : List (Key × Inode)). AreQuotasFound rs view.quotas.items [] chosen) set.walk.items (all_found place.found.items view.quotas.items (new_dirs set.walk.down.bottom.1.id.0 view.next.0 user (missing_names place)) chosen (dirs_new set.walk.down.bottom.1.id.0 view.next.0 user (missing_names place)) is.1.2) in
      let items : writes.items ≡ new_dirs set.walk.down.at.there.row.id.0 view.next.0 user set.walk.down.rest ++ quota_writes (raised (length set.walk.down.rest) 0) chosen =
      is.1.1 ∙ (λ i. new_dirs (sym set.walk.down.at.there.id i).0 view.next.0 user (rest i) ++ quota_writes (raised (length (rest i)) 0) chosen) in
      made tables space locked view.quotas.items place view set (subst (AllByRecursion (LocksQuota locked)) set.walk.items locks) (row_kind Dir dir) user chosen found client (call.Mkdirs place.path) reply writes.items (λ old new. refl) refl (let few = set.walk.down.few in omega arith)
      (plain_below part dir locks ∙ ap (λ (o : Option Exception). unless o space (granted (with_dirs space user (missing space place.path)))) full) (ap Rattle.name_space.specs.Calls.as_read is.0) items

  -- what `mkdirs` answers
  answer_mkdirs : (is_whole place ≡ false → AllByRecursion (LocksQuota locked) place.found.items) → (reply : Reply) (writes : Roomy (Key × Option Row)) (kind : Kind) (whole : Bool) → set.walk.down.bottom.1.kind ≡ kind → is_whole place ≡ whole
      → MkdirsOf kind whole set.walk.down.bottom.1 place view.quotas.items view.next.0 user (Answer reply writes) → IsAnswer tables space client user (call.Mkdirs place.path) view reply writes.items
  answer_mkdirs locks reply writes Dir true kind whole is = kept (call.Mkdirs place.path) reply (Truth true) writes.items refl (plain_there whole kind) (ap Rattle.name_space.specs.Calls.as_read is.0) is.1
  answer_mkdirs locks reply writes File true kind whole is = kept (call.Mkdirs place.path) reply (Refused FileAlreadyExists) writes.items refl (plain_file whole kind) (ap Rattle.name_space.specs.Calls.as_read is.0) is.1
  answer_mkdirs locks reply writes File false kind whole is = kept (call.Mkdirs place.path) reply (Refused ParentNotDirectory) writes.items refl (plain_under whole kind) (ap Rattle.name_space.specs.Calls.as_read is.0) is.1
  answer_mkdirs locks reply writes Dir false kind whole is = answer_below whole kind (locks whole) reply writes (first_full place.path place.found.items view.quotas.items (length (missing_names place))) refl is

  -- ---- `stat`

  status_is : (kind : Kind) (row : Inode) (quota : Option QuotaRow) → Status (plain_words.status_of (entry_of_kind kind row quota)) ≡ Status (status_of_kind kind row)
  status_is Dir row quota = refl
  status_is File row quota = refl

  answer_stat : is_locked locked set.walk.down.bottom.0 ≡ true → (reply : Reply) (writes : Roomy (Key × Option Row)) (whole : Bool) → is_whole place ≡ whole
      → StatOf whole set.walk.down.bottom.1 (Answer reply writes) → IsAnswer tables space client user (call.Stat place.path) view reply writes.items
  answer_stat lock reply writes false whole is =
      kept (call.Stat place.path) reply (Refused FileNotFound) writes.items refl (ap (stat_at space) (partial_entry whole)) (ap Rattle.name_space.specs.Calls.as_read is.0) is.1
  answer_stat lock reply writes true whole is =
      let same : set.walk.down.at.there.row ≡ set.walk.down.bottom.1 = set.walk.down.at.there.whole lock in
      let status = status_is set.walk.down.at.there.row.kind set.walk.down.at.there.row (quota_of tables.quotas set.walk.down.at.there.row.id) ∙ ap (λ (row : Inode). Status (row_status row)) same in
      kept (call.Stat place.path) reply (Status (row_status set.walk.down.bottom.1)) writes.items refl (ap (stat_at space) (whole_entry whole) ∙ ap (λ (r : Reply). told r space) status) (ap Rattle.name_space.specs.Calls.as_read is.0) is.1

-- ---- the outcomes

no_subtree : (kind : Kind) (whole : Bool) (full : Option Exception) (last : Inode) (place : Place) (seen : List (InodeId × QuotaRow)) (next : ℕ) (user : List ℕ) (of : Rattle.name_space.specs.declared.call.OpKind.OpKind) → first_full place.path place.found.items seen (length (missing_names place)) ≡ full
    → MkdirsOf kind whole last place seen next user (Subtree of) → ⊥
no_subtree Dir true full last place seen next user of e bad = bad
no_subtree File true full last place seen next user of e bad = bad
no_subtree File false full last place seen next user of e bad = bad
no_subtree Dir false full last place seen next user of e bad = never full (subst (λ (o : Option Exception). IsMadeUnless o last place seen next user (missing_names place) (Subtree of)) e bad)
  where
    never : (o : Option Exception) → IsMadeUnless o last place seen next user (missing_names place) (Subtree of) → ⊥
    never None bad = bad
    never (Some exception) bad = bad

no_stat_subtree : (whole : Bool) (last : Inode) (of : Rattle.name_space.specs.declared.call.OpKind.OpKind) → StatOf whole last (Subtree of) → ⊥
no_stat_subtree true last of bad = bad
no_stat_subtree false last of bad = bad

mkdirs_outcome : (view : View) (client : ClientNo) (user : List ℕ) (place : Place) → view.places.items ≡ place ∷ [] → SpellsPlace place → (outcome : Outcome) → AnswersMkdirs place view.quotas.items view.next.0 user outcome → IsCallsTable view client user (call.Mkdirs place.path) outcome
mkdirs_outcome view client user place one spells (Answer reply writes) answers = λ tables bound space own before.
    let set = set_of tables bound space own client (call.Mkdirs place.path) view place one before in
    let last = deepest_is tables view.next.0 space (plan client (call.Mkdirs place.path) (place ∷ [])) view.quotas.items place set in
    answer_mkdirs tables bound space client user view place (plan client (call.Mkdirs place.path) (place ∷ [])) set (mkdirs_locks client place.path place) reply writes set.walk.down.bottom.1.kind (is_whole place) refl refl
    (subst (λ (o : Option Inode). IfSome o (λ last. MkdirsOf last.kind (is_whole place) last place view.quotas.items view.next.0 user (Answer reply writes))) last answers)
mkdirs_outcome view client user place one spells (Subtree of) answers =
    let last = some_deepest place spells in
    no_subtree last.0.kind (is_whole place) (first_full place.path place.found.items view.quotas.items (length (missing_names place))) last.0 place view.quotas.items view.next.0 user of refl
    (subst (λ (o : Option Inode). IfSome o (λ last. MkdirsOf last.kind (is_whole place) last place view.quotas.items view.next.0 user (Subtree of))) last.1 answers)

stat_outcome : (view : View) (client : ClientNo) (user : List ℕ) (place : Place) → view.places.items ≡ place ∷ [] → SpellsPlace place → (outcome : Outcome) → AnswersStat place outcome → IsCallsTable view client user (call.Stat place.path) outcome
stat_outcome view client user place one spells (Answer reply writes) answers = λ tables bound space own before.
    let set = set_of tables bound space own client (call.Stat place.path) view place one before in
    let last = deepest_is tables view.next.0 space (plan client (call.Stat place.path) (place ∷ [])) view.quotas.items place set in
    let found = last_is tables view.next.0 space (plan client (call.Stat place.path) (place ∷ [])) view.quotas.items place set in
    answer_stat tables bound space client user view place (plan client (call.Stat place.path) (place ∷ [])) set (stat_locks client place.path place set.walk.down.bottom found) reply writes (is_whole place) refl
    (subst (λ (o : Option Inode). IfSome o (λ last. StatOf (is_whole place) last (Answer reply writes))) last answers)
stat_outcome view client user place one spells (Subtree of) answers =
    let last = some_deepest place spells in
    no_stat_subtree (is_whole place) last.0 of (subst (λ (o : Option Inode). IfSome o (λ last. StatOf (is_whole place) last (Subtree of))) last.1 answers)

-- what a view has for a call of this path
pub view_has : (view : View) (asked : Call) (place : Place) (path : List (List ℕ)) → IsViewOf view asked → slice_get view.places.items 0 ≡ Some place → path_of asked ≡ Some path → (view.places.items ≡ place ∷ []) × (place.path ≡ path) × SpellsPlace place
view_has view asked place path is first named =
    let of = subst (λ (o : Option Place). IfSome o (λ place. (path_of asked ≡ Some place.path) × Suits asked place view.quotas.items view.next.0)) first is.place in
    (one_item view.places.items place is.only first, (let same : Some place.path ≡ Some path = sym of.0 ∙ named in cc), of.1.spells)

-- what follows of each outcome of a call of the place's path follows of that of the call that was made, which is of this path
pub of_path : (view : View) (asked : Call) (call_at : List (List ℕ) → Call) (place : Place) (path : List (List ℕ)) → IsViewOf view asked → slice_get view.places.items 0 ≡ Some place → asked ≡ call_at path → path_of (call_at path) ≡ Some path
    → (P : Call → Outcome → Type 0) (A : Outcome → Type 0) → (view.places.items ≡ place ∷ [] → SpellsPlace place → (outcome : Outcome) → A outcome → P (call_at place.path) outcome)
    → (r : Result Outcome NoMemory) → IfOk r A → IfOk r (P asked)
of_path view asked call_at place path is first call_is named P A gives (Err e) answers = tt
of_path view asked call_at place path is first call_is named P A gives (Ok outcome) answers =
    let has = view_has view asked place path is first (ap path_of call_is ∙ named) in
    subst (λ (c : Call). P c outcome) (ap call_at has.1 ∙ sym call_is) (gives has.0 has.2 outcome answers)

pub mkdirs_result : (view : View) (client : ClientNo) (user : List ℕ) (asked : Call) (place : Place) (path : List (List ℕ)) (seen : List (InodeId × QuotaRow)) (r : Result Outcome NoMemory) → IsViewOf view asked → slice_get view.places.items 0 ≡ Some place → asked ≡ call.Mkdirs path → seen ≡ view.quotas.items
    → IfOk r (AnswersMkdirs place seen view.next.0 user) → IfOk r (IsCallsTable view client user asked)
mkdirs_result view client user asked place path seen r is first call_is same answers =
    of_path view asked call.Mkdirs place path is first call_is refl (IsCallsTable view client user) (AnswersMkdirs place seen view.next.0 user)
    (λ one spells outcome answer. mkdirs_outcome view client user place one spells outcome (subst (λ (s : List (InodeId × QuotaRow)). AnswersMkdirs place s view.next.0 user outcome) same answer)) r answers

pub stat_result : (view : View) (client : ClientNo) (user : List ℕ) (asked : Call) (place : Place) (path : List (List ℕ)) (r : Result Outcome NoMemory) → IsViewOf view asked → slice_get view.places.items 0 ≡ Some place → asked ≡ call.Stat path
    → IfOk r (AnswersStat place) → IfOk r (IsCallsTable view client user asked)
stat_result view client user asked place path r is first call_is answers =
    of_path view asked call.Stat place path is first call_is refl (IsCallsTable view client user) (AnswersStat place) (λ one spells outcome answer. stat_outcome view client user place one spells outcome answer) r answers
