-- `delete` against the calls table.
use Rattle.std.proofs.Common.{◌≡◌, ◌≢◌, ℕ, ◌+◌, ◌-◌, Bool, true, false, not, cond, ◌&&◌, ◌||◌, ◌==◌, nat_lt, List, [], ◌∷◌, ◌++◌, length, take, drop, slice_get, Option, Some, None, IfSome, is_some, option_map, Result, Ok, Err, IfOk, arith, refl, sym, ap, subst, ◌∙◌, append-nil, eqb-true}
use Rattle.std.proofs.Math.Bool.{and-false}
use Rattle.std.proofs.lemmas.Bool.{true≢false, or_left, or_right, lt-ltb}
use Rattle.std.proofs.lemmas.List.Folds.{list_any-append}
use Rattle.std.specs.List.{AllByRecursion, list_any}
use Rattle.hops_base.specs.Roomy.{Roomy}
use Rattle.hops_base.specs.declared.ids.ClientNo.{ClientNo}
use Rattle.hops_base.specs.declared.ids.InodeId.{InodeId}
use Rattle.hops_base.specs.declared.ids.OpId.{OpId}
use Rattle.hops_base.specs.declared.ids.Mode.{Mode}
use Rattle.hops_base.specs.declared.ids.Mode.TheVariants.{Exclusive}
use Rattle.hops_base.specs.declared.key.Key.{Key}
use Rattle.hops_base.specs.declared.key.Key.TheVariants as key
use Rattle.hops_base.specs.declared.memory.NoMemory.{NoMemory}
use Rattle.hops_base.specs.Key.{same_key}
use Rattle.name_space.specs.declared.call.Call.{Call}
use Rattle.name_space.specs.declared.call.Call.TheVariants as call
use Rattle.name_space.specs.declared.entry.Entry.{Entry}
use Rattle.name_space.specs.declared.reply.Reply.{Reply}
use Rattle.name_space.specs.declared.reply.Reply.TheVariants.{Truth, Refused}
use Rattle.name_space.specs.declared.reply.Exception.TheVariants.{PathIsNotEmptyDirectory}
use Rattle.name_space.specs.Namespace.{Namespace, Path, IsNamespace, entry_at, exists, is_dir, is_within, children, without, bytes_of}
use Rattle.name_space.proofs.NamespaceLaws.{dir_above}
use Rattle.name_space.proofs.PathLaws.{same_path-self, is_within-rest}
use Rattle.name_space.specs.Plain.{told, refused, granted, when, unless, is_root, delete}
use Rattle.name_space.specs.Calls.{plain, as_read}
use Rattle.commit_log.specs.declared.note.Note.TheVariants.{Did}
use Rattle.commit_log.specs.Ids.{numbering_after}
use Rattle.inode_table.specs.declared.inode.Inode.{Inode}
use Rattle.inode_table.specs.declared.inode.Kind.{Kind}
use Rattle.inode_table.specs.declared.inode.Kind.TheVariants.{Dir, File}
use Rattle.quota_table.specs.declared.quota.QuotaRow.{QuotaRow}
use Rattle.db_state.specs.Stored.{Tables}
use Rattle.db_state.specs.Stands.{entry_of, entry_of_kind, quota_of}
use Rattle.db_state.specs.Consistent.{FlagsStay}
use Rattle.db_state.specs.Current.{IsCurrentPlace, KnowsChild, is_locked}
use Rattle.db_state.specs.Plan.{is_whole, plan, low, parent, quotas, writer_lease, where_so, path_keys, last_found}
use Rattle.db_state.specs.Written.{written, next_after}
use Rattle.db_state.proofs.UnderLaws.{entry_at-children, none_next}
use Rattle.db_state.specs.QuotaWrites.{quota_writes, lowered}
use Rattle.db_state.proofs.QuotaWriteLaws.{next_written}
use Rattle.db_state.specs.declared.outcome.Outcome.{Outcome}
use Rattle.db_state.specs.declared.outcome.Outcome.TheVariants.{Answer, Subtree}
use Rattle.db_state.specs.declared.view.Place.{Place}
use Rattle.db_state.specs.declared.view.View.{View}
use Rattle.db_state.specs.declared.writes.Row.{Row}
use Rattle.db_state.proofs.WrittenLaws.{written-append, next_after-append}
use Rattle.inode_ops.specs.Outcomes.{IsViewOf}
use Rattle.inode_ops.specs.QuotaSteps.{AreQuotasFound, GoesOnCounted}
use Rattle.inode_table.specs.Inode.{counted_bytes}
use Rattle.inode_ops.specs.DeleteSteps.{removals, RemovesLast, DeleteOf, AnswersDelete}
use Rattle.db_state.specs.CallsTable.{IsBefore, IsOf, IsAnswer, AreIds, IsNumberedBy, IsCallsTable}
use Rattle.inode_ops.proofs.QuotaLemmas.{LocksQuota, locks_each}
use Rattle.inode_ops.proofs.OwnLemmas.{low_among}
use Rattle.inode_ops.proofs.PlaceLemmas.{IsSet, last_is}
use Rattle.inode_ops.proofs.RemovedLemmas.{rows_removed, flags_then, ids_removed}
use Rattle.inode_ops.proofs.DeletePlaceLemmas.{own_there, own_row, knows_children, own_left, are_left, along_left}
use Rattle.inode_ops.proofs.OutcomeLemmas.{set_of, locked_in, locked_more, among_third, partial_entry, kept, view_has}

-- ---- the rule

delete_root : (space : Namespace) → delete space [] false ≡ told (Truth false) space
delete_root space = ap (λ (b : Bool). unless (when b PathIsNotEmptyDirectory) space (told (Truth false) space)) (never (is_dir (entry_at space [])) (nat_lt 0 (length (children space []))))
  where
    never : (d some : Bool) → (((d && not true) && not false) && some) ≡ false
    never true some = refl
    never false some = refl

delete_missing : (space : Namespace) (path : Path) → entry_at space path ≡ None → delete space path false ≡ told (Truth false) space
delete_missing space path none =
    ap (λ (o : Option Entry). unless (when (is_dir o && not (is_root path) && not false && nat_lt 0 (length (children space path))) PathIsNotEmptyDirectory) space (cond (is_root path || not (is_some o)) (told (Truth false) space) (granted (without space path)))) none
    ∙ either (is_root path)
  where
    either : (b : Bool) → cond (b || true) (told (Truth false) space) (granted (without space path)) ≡ told (Truth false) space
    either true = refl
    either false = refl

delete_parent : (space : Namespace) (path : Path) → is_root path ≡ false → is_dir (entry_at space path) ≡ true → nat_lt 0 (length (children space path)) ≡ true → delete space path false ≡ refused PathIsNotEmptyDirectory space
delete_parent space path root dir some = rw (dir, root, some) refl

delete_leaf : (space : Namespace) (path : Path) → is_root path ≡ false → exists space path ≡ true → nat_lt 0 (length (children space path)) ≡ false → delete space path false ≡ granted (without space path)
delete_leaf space path root there none =
    ap (λ (b : Bool). unless (when (is_dir (entry_at space path) && not (is_root path) && not false && b) PathIsNotEmptyDirectory) space (cond (is_root path || not (exists space path)) (told (Truth false) space) (granted (without space path)))) none
    ∙ ap (λ (b : Bool). unless (when b PathIsNotEmptyDirectory) space (cond (is_root path || not (exists space path)) (told (Truth false) space) (granted (without space path)))) (and-false (is_dir (entry_at space path) && not (is_root path) && not false))
    ∙ ap (λ (b : Bool). cond (b || not (exists space path)) (told (Truth false) space) (granted (without space path))) root
    ∙ ap (λ (b : Bool). cond (not b) (told (Truth false) space) (granted (without space path))) there

-- what has a child is a directory
pub parent_dir : (space : Namespace) → IsNamespace space → (path : Path) → nat_lt 0 (length (children space path)) ≡ true → is_dir (entry_at space path) ≡ true
parent_dir space is path some = of_first (children space path) refl some
  where
    below : (q : Path) (rest : List (List ℕ)) → path ++ rest ≡ q → length q ≡ length path + 1 → is_some (entry_at space q) ≡ true → is_dir (entry_at space path) ≡ true
    below q [] e long there = absurd (
        let same : length (path ++ []) ≡ length q = ap (λ (p : Path). length p) e in
        let sum : length (path ++ []) ≡ length path = ap (λ (p : Path). length p) (append-nil path) in
        omega arith)
    below q (name ∷ rest) e long there = dir_above space is path name rest (ap (λ (p : Path). is_some (entry_at space p)) e ∙ there)

    child : (q : Path) (entry : Entry) (within long : Bool) → is_within path q ≡ within → (length q == length path + 1) ≡ long → cond (within && long) (entry_at space q) None ≡ Some entry → is_dir (entry_at space path) ≡ true
    child q entry true true w l e = below q (drop (length path) q) (is_within-rest path q w) (eqb-true (length q) (length path + 1) l) (ap is_some e)
    child q entry true false w l e = absurd (let bad = e in cc)
    child q entry false long w l e = absurd (let bad = e in cc)

    of_first : (es : Namespace) → children space path ≡ es → nat_lt 0 (length es) ≡ true → is_dir (entry_at space path) ≡ true
    of_first [] is_empty more = absurd (true≢false (sym more))
    of_first (e ∷ es) same more =
        let first : entry_at (e ∷ es) e.0 ≡ Some e.1 = ap (λ (b : Bool). cond b (Some e.1) (entry_at es e.0)) (same_path-self e.0) in
        child e.0 e.1 (is_within path e.0) (length e.0 == length path + 1) refl refl (sym (entry_at-children space path e.0) ∙ ap (λ (cs : Namespace). entry_at cs e.0) same ∙ first)

-- ---- what is locked

-- `delete` locks the last row found
delete_locks_last : (client : ClientNo) (path : List (List ℕ)) (place : Place) (last : Key × Inode) → last_found place ≡ Some last → is_locked (plan client (call.Delete path false) (place ∷ [])) last.0 ≡ true
delete_locks_last client path place last is =
    locked_more (path_keys client (call.Delete path false) place ++ []) ((key.Reply client, Exclusive) ∷ []) last.0 (locked_more (path_keys client (call.Delete path false) place) [] last.0
    (locked_in Exclusive (low place ++ where_so (is_whole place) (parent place ++ writer_lease place ++ quotas place)) last.0
    ∙ list_any-append (same_key last.0) (low place) (where_so (is_whole place) (parent place ++ writer_lease place ++ quotas place))
    ∙ or_left (list_any (same_key last.0) (low place)) (list_any (same_key last.0) (where_so (is_whole place) (parent place ++ writer_lease place ++ quotas place)))
    (low_among place last is)))

-- where the path is whole, also the quota keys of the rows found
pub delete_locks_quotas : (client : ClientNo) (path : List (List ℕ)) (place : Place) → is_whole place ≡ true → AllByRecursion (LocksQuota (plan client (call.Delete path false) (place ∷ []))) place.found.items
delete_locks_quotas client path place whole = locks_each (plan client (call.Delete path false) (place ∷ [])) place.found.items (λ k among.
    locked_more (path_keys client (call.Delete path false) place ++ []) ((key.Reply client, Exclusive) ∷ []) k (locked_more (path_keys client (call.Delete path false) place) [] k
    (locked_in Exclusive (low place ++ where_so (is_whole place) (parent place ++ writer_lease place ++ quotas place)) k
    ∙ list_any-append (same_key k) (low place) (where_so (is_whole place) (parent place ++ writer_lease place ++ quotas place))
    ∙ or_right (list_any (same_key k) (low place)) (list_any (same_key k) (where_so (is_whole place) (parent place ++ writer_lease place ++ quotas place)))
    (ap (λ (b : Bool). list_any (same_key k) (where_so b (parent place ++ writer_lease place ++ quotas place))) whole ∙ among_third (parent place) (writer_lease place) (quotas place) k among))))

-- ---- the answer

-- the bytes that a row counts are those of its entry
bytes_counted : (kind : Kind) (row : Inode) (quota : Option QuotaRow) → counted_bytes kind row ≡ bytes_of (entry_of_kind kind row quota)
bytes_counted Dir row quota = refl
bytes_counted File row quota = refl

-- removals take no id
next_removals : (next : ℕ) (found : Key × Inode) → next_after next (removals found) ≡ next
next_removals next found = by_mark found.1.has_quota
  where
    by_mark : (b : Bool) → next_after next (where_so b ((key.Quota found.1.id, None) ∷ [])) ≡ next
    by_mark true = refl
    by_mark false = refl

module _ (tables : Tables) (bound : ℕ) (space : Namespace) (client : ClientNo) (user : List ℕ) (view : View) (place : Place) (locked : List (Key × Mode)) (set : IsSet tables view.next.0 space locked view.quotas.items place)
    (lock : is_locked locked set.walk.down.bottom.0 ≡ true) (locks : is_whole place ≡ true → AllByRecursion (LocksQuota locked) place.found.items) (child : KnowsChild tables.inodes place) where
  -- the row is removed, and the quota rows above it count it no more
  answer_removed : is_whole place ≡ true → is_root place.path ≡ false → place.has_child ≡ false → (reply : Reply) (writes : List (Key × Option Row)) → reply ≡ Truth true → (rows : List (InodeId × QuotaRow))
      → AreQuotasFound (take (length set.walk.rows) (set.walk.first ∷ set.walk.rows)) view.quotas.items (removals set.walk.down.bottom) rows
      → writes ≡ removals set.walk.down.bottom ++ quota_writes (lowered 1 (bytes_of (entry_of tables.quotas set.walk.down.bottom.1))) rows
      → IsAnswer tables space client user (call.Delete place.path false) view reply writes
  answer_removed whole root none reply writes is_true rows are is =
      let old : Inode = set.walk.down.bottom.1 in
      let there = own_there tables view.next.0 space locked view.quotas.items place set lock whole in
      let here = own_row tables view.next.0 space locked view.quotas.items place set lock whole in
      let left = own_left tables view.next.0 space locked view.quotas.items place set lock whole in
      let few : nat_lt 0 (length (children space place.path)) ≡ false = sym (knows_children tables view.next.0 space locked view.quotas.items place set lock whole child) ∙ none in
      let leaf = none_next space place.path (empty (children space place.path) few) in
      let known = are_left tables view.next.0 space locked view.quotas.items place set lock whole (locks whole) rows are in
      let along = along_left tables view.next.0 space locked view.quotas.items place set lock whole (locks whole) rows are in
      let entry : entry_at space place.path ≡ Some (entry_of tables.quotas old) = set.stands.entries place.path ∙ ap (option_map (entry_of tables.quotas)) here in
      let answer : plain space client user (call.Delete place.path false) ≡ granted (without space place.path) = delete_leaf space place.path root (ap is_some entry) few in
      let lows : List (Key × Option Row) = quota_writes (lowered 1 (bytes_of (entry_of tables.quotas old))) rows in
      let tables_are : written tables (removals set.walk.down.bottom ++ lows) ≡ written (written tables (removals set.walk.down.bottom)) lows = written-append (removals set.walk.down.bottom) lows tables in
      let next_is : next_after view.next.0 (removals set.walk.down.bottom ++ lows) ≡ view.next.0 =
      next_after-append (removals set.walk.down.bottom) lows view.next.0 ∙ ap (λ (n : ℕ). next_after n lows) (next_removals view.next.0 set.walk.down.bottom) ∙ next_written (lowered 1 (bytes_of (entry_of tables.quotas old))) rows view.next.0 in
      let then = rows_removed tables view.next.0 set.tree space set.names set.stands set.counts set.walk.down.bottom.0 old there place.path (not_root place.path root) here leaf (written tables (removals set.walk.down.bottom)) left rows known along in
      let flags = flags_then tables view.next.0 set.tree space set.names set.stands set.counts set.walk.down.bottom.0 old there place.path (not_root place.path root) here leaf (written tables (removals set.walk.down.bottom)) left rows known along in
      let ids = ids_removed tables view.next.0 set.tree space set.names set.stands set.counts set.walk.down.bottom.0 old there place.path (not_root place.path root) here leaf (written tables (removals set.walk.down.bottom)) left rows known along in
      subst (IsAnswer tables space client user (call.Delete place.path false) view reply) (sym is) (record {
        told = ap as_read is_true ∙ sym (ap (λ (a : Rattle.name_space.specs.Plain.Answered). a.reply) answer);
        quiet = λ exception refused. (let bad : Truth true ≡ Refused exception = sym is_true ∙ refused in cc);
        looks = λ same. (let bad : true ≡ false = same in cc);
        rows = subst (IsOf (written tables (removals set.walk.down.bottom ++ lows)) (next_after view.next.0 (removals set.walk.down.bottom ++ lows))) (sym (ap (λ (a : Rattle.name_space.specs.Plain.Answered). a.space) answer))
            (subst (λ (n : ℕ). IsOf (written tables (removals set.walk.down.bottom ++ lows)) n (without space place.path)) (sym next_is)
            (subst (λ (t : Tables). IsOf t view.next.0 (without space place.path)) (sym tables_are) then));
        flags = subst (λ (t : Tables). FlagsStay tables.inodes t.inodes) (sym tables_are) flags;
        few = omega arith;
        ids = subst (AreIds tables view.next.0 (written tables (removals set.walk.down.bottom ++ lows)) (next_after view.next.0 (removals set.walk.down.bottom ++ lows)) space client (call.Delete place.path false)) (sym answer)
            (λ numbering s number times answered given.
            subst (λ (n : ℕ). IsNumberedBy (numbering_after numbering space (without space place.path) (Did s client number (call.Delete place.path false) times answered)) (written tables (removals set.walk.down.bottom ++ lows)).inodes n (without space place.path)) (sym next_is)
            (subst (λ (t : Tables). IsNumberedBy (numbering_after numbering space (without space place.path) (Did s client number (call.Delete place.path false) times answered)) t.inodes view.next.0 (without space place.path)) (sym tables_are)
            (ids numbering (Did s client number (call.Delete place.path false) times answered) refl given)));
      })
    where
      empty : (es : Namespace) → nat_lt 0 (length es) ≡ false → es ≡ []
      empty [] e = refl
      empty (x ∷ es) e = absurd (true≢false (sym (lt-ltb 0 (length (x ∷ es)) (omega arith)) ∙ e))

      not_root : (path : Path) → is_root path ≡ false → path ≢ []
      not_root path root same = true≢false (sym (ap is_root same) ∙ root)

  answer_leaf : is_whole place ≡ true → is_root place.path ≡ false → place.has_child ≡ false → (reply : Reply) (writes : List (Key × Option Row)) → reply ≡ Truth true → RemovesLast place view.quotas.items writes
      → IsAnswer tables space client user (call.Delete place.path false) view reply writes
  answer_leaf whole root none reply writes is_true goes =
      let last : GoesOnCounted (removals set.walk.down.bottom) (take (length place.found.items - 1) place.found.items) view.quotas.items (lowered 1 (counted_bytes set.walk.down.bottom.1.kind set.walk.down.bottom.1)) writes =
      subst (λ (o : Option (Key × Inode)). IfSome o (λ (x : Key × Inode). GoesOnCounted (removals x) (take (length place.found.items - 1) place.found.items) view.quotas.items (lowered 1 (counted_bytes x.1.kind x.1)) writes)) (last_is tables view.next.0 space locked view.quotas.items place set) goes in
      let e : length (set.walk.first ∷ set.walk.rows) - 1 ≡ length set.walk.rows = omega arith in
      let above : take (length place.found.items - 1) place.found.items ≡ take (length set.walk.rows) (set.walk.first ∷ set.walk.rows) =
      ap (λ (rs : List (Key × Inode)). take (length rs - 1) rs) set.walk.items ∙ ap (λ (n : ℕ). take n (set.walk.first ∷ set.walk.rows)) e in
      let bytes : counted_bytes set.walk.down.bottom.1.kind set.walk.down.bottom.1 ≡ bytes_of (entry_of tables.quotas set.walk.down.bottom.1) = bytes_counted set.walk.down.bottom.1.kind set.walk.down.bottom.1 (quota_of tables.quotas set.walk.down.bottom.1.id) in
      answer_removed whole root none reply writes is_true last.0
      (subst (λ (rs : List (Key × Inode)). AreQuotasFound rs view.quotas.items (removals set.walk.down.bottom) last.0) above last.2)
      (last.1 ∙ ap (λ (n : ℕ). removals set.walk.down.bottom ++ quota_writes (lowered 1 n) last.0) bytes)

  -- what `delete` answers
  answer_delete : (root whole some : Bool) → is_root place.path ≡ root → is_whole place ≡ whole → place.has_child ≡ some → (reply : Reply) (writes : Roomy (Key × Option Row)) → DeleteOf (root || not whole) some place view.quotas.items (Answer reply writes)
      → IsAnswer tables space client user (call.Delete place.path false) view reply writes.items
  answer_delete true whole some top at_end has reply writes is =
      kept tables bound space client user view place locked set (call.Delete place.path false) reply (Truth false) writes.items refl (ap (λ (p : Path). delete space p false) (no_names place.path top) ∙ delete_root space) (ap as_read is.0) is.1
    where
      no_names : (path : Path) → is_root path ≡ true → path ≡ []
      no_names [] e = refl
      no_names (name ∷ names) e = absurd (let zero_long = eqb-true (length (name ∷ names)) 0 e in omega arith)
  answer_delete false false some top at_end has reply writes is =
      kept tables bound space client user view place locked set (call.Delete place.path false) reply (Truth false) writes.items refl (delete_missing space place.path (partial_entry tables bound space client user view place locked set at_end)) (ap as_read is.0) is.1
  answer_delete false true true top at_end has reply writes is =
      let some : nat_lt 0 (length (children space place.path)) ≡ true = sym (knows_children tables view.next.0 space locked view.quotas.items place set lock at_end child) ∙ has in
      kept tables bound space client user view place locked set (call.Delete place.path false) reply (Refused PathIsNotEmptyDirectory) writes.items refl (delete_parent space place.path top (parent_dir space set.names place.path some) some) (ap as_read is.0) is.1
  answer_delete false true false top at_end has reply writes is = answer_leaf at_end top has reply writes.items is.0 is.1

-- ---- the outcome

-- the view knows whether the last row found has a child
child_known : (tables : Tables) (bound : ℕ) (space : Namespace) (own : Option OpId) (client : ClientNo) (asked : Call) (view : View) (place : Place) → view.places.items ≡ place ∷ [] → IsBefore tables bound space own client asked view → KnowsChild tables.inodes place
child_known tables bound space own client asked view place one before =
    let here : AllByRecursion (IsCurrentPlace tables.inodes (plan client asked (place ∷ [])) own) (place ∷ []) = subst (λ (places : List Place). AllByRecursion (IsCurrentPlace tables.inodes (plan client asked places) own) places) one before.current.current in
    here.0.child

no_subtree : (nothing some : Bool) (place : Place) (seen : List (InodeId × QuotaRow)) (of : Rattle.name_space.specs.declared.call.OpKind.OpKind) → DeleteOf nothing some place seen (Subtree of) → ⊥
no_subtree true some place seen of bad = bad
no_subtree false true place seen of bad = bad
no_subtree false false place seen of bad = bad

delete_outcome : (view : View) (client : ClientNo) (user : List ℕ) (place : Place) → view.places.items ≡ place ∷ [] → (outcome : Outcome) → AnswersDelete place view.quotas.items outcome → IsCallsTable view client user (call.Delete place.path false) outcome
delete_outcome view client user place one (Answer reply writes) answers = λ tables bound space own before.
    let set = set_of tables bound space own client (call.Delete place.path false) view place one before in
    let last = last_is tables view.next.0 space (plan client (call.Delete place.path false) (place ∷ [])) view.quotas.items place set in
    answer_delete tables bound space client user view place (plan client (call.Delete place.path false) (place ∷ [])) set (delete_locks_last client place.path place set.walk.down.bottom last) (delete_locks_quotas client place.path place)
    (child_known tables bound space own client (call.Delete place.path false) view place one before) (is_root place.path) (is_whole place) place.has_child refl refl refl reply writes answers
delete_outcome view client user place one (Subtree of) answers = no_subtree (is_root place.path || not (is_whole place)) place.has_child place view.quotas.items of answers

pub delete_result : (view : View) (place : Place) (path : List (List ℕ)) (seen : List (InodeId × QuotaRow)) (r : Result Outcome NoMemory) → IsViewOf view (call.Delete path false) → slice_get view.places.items 0 ≡ Some place → seen ≡ view.quotas.items
    → IfOk r (AnswersDelete place seen) → IfOk r (λ outcome. (client : ClientNo) (user : List ℕ) → IsCallsTable view client user (call.Delete path false) outcome)
delete_result view place path seen (Err e) is first same answers = tt
delete_result view place path seen (Ok outcome) is first same answers = λ client user.
    let has = view_has view (call.Delete path false) place path is first refl in
    subst (λ (p : Path). IsCallsTable view client user (call.Delete p false) outcome) has.1 (delete_outcome view client user place has.0 outcome (subst (λ (s : List (InodeId × QuotaRow)). AnswersDelete place s outcome) same answers))
