-- Answers that change nothing, and those that make directories, against the calls table.
use Rattle.std.proofs.Common.{◌≡◌, ℕ, ◌+◌, ◌≤◌, Bool, true, false, cond, not, ◌&&◌, ◌||◌, List, [], ◌∷◌, ◌++◌, length, reverse, Option, Some, None, is_some, arith, refl, sym, ap, subst, ◌∙◌}
use Rattle.std.proofs.lemmas.Bool.{true≢false}
use Rattle.std.specs.FinMap.Entries as entries
use Rattle.std.specs.List.{AllByRecursion, sum_by}
use Rattle.hops_base.specs.Path.{path_cmp, path_cmp_total, same_path}
use Rattle.hops_base.specs.declared.ids.ClientNo.{ClientNo}
use Rattle.hops_base.specs.declared.ids.InodeId.{InodeId}
use Rattle.hops_base.specs.declared.ids.Mode.{Mode}
use Rattle.hops_base.specs.declared.ids.SessionId.{SessionId}
use Rattle.hops_base.specs.declared.key.Key.{Key}
use Rattle.name_space.specs.Call.{paths_of, changes}
use Rattle.name_space.specs.declared.call.Call.{Call}
use Rattle.name_space.specs.declared.entry.Entry.{Entry}
use Rattle.name_space.specs.declared.reply.Reply.{Reply}
use Rattle.name_space.specs.declared.reply.Reply.TheVariants.{Truth, Refused}
use Rattle.name_space.specs.Namespace as spaces
use Rattle.name_space.specs.Namespace.{Namespace, Path, IsNamespace, entry_at, exists, is_within, paths_below, missing}
use Rattle.name_space.proofs.NamespaceLaws.{dir-exists, entry_at-with_dirs, Rises-with_dirs}
use Rattle.name_space.proofs.PrefixLaws.{among-missing}
use Rattle.name_space.specs.Cut.{is_among}
use Rattle.name_space.specs.Plain.{Answered, with_dirs, told, granted}
use Rattle.name_space.specs.Calls.{plain, as_read}
use Rattle.commit_log.specs.declared.note.Note.{Note}
use Rattle.commit_log.specs.declared.note.Note.TheVariants.{Did}
use Rattle.commit_log.specs.Ids.{Numbering, id_at, with_new, move_of, move_in, numbering_after}
use Rattle.commit_log.proofs.NumberLaws.{numbering-missing}
use Rattle.inode_table.specs.declared.inode.Kind.TheVariants.{Dir}
use Rattle.quota_table.specs.declared.quota.QuotaRow.{QuotaRow}
use Rattle.db_state.specs.Stored.{Tables}
use Rattle.db_state.specs.Consistent.{flag_at}
use Rattle.db_state.specs.Spelled.{Inodes, IsTree, AreGiven}
use Rattle.db_state.specs.Stands.{Stands}
use Rattle.db_state.specs.Counts.{Counts}
use Rattle.db_state.specs.Current.{AreIdsBelow}
use Rattle.db_state.specs.Written.{written, next_after}
use Rattle.db_state.specs.declared.view.Place.{Place}
use Rattle.db_state.specs.declared.view.View.{View}
use Rattle.db_state.specs.declared.writes.Row.{Row}
use Rattle.db_state.specs.NewDirs.{new_dirs, FirstMissing, Unremoved}
use Rattle.db_state.proofs.ChainLaws.{quotas_chained, tree_chained, stands_chained, next_chained, paths_below-length, flags_chained}
use Rattle.db_state.proofs.NumberLaws.{given_chained, next_with_new}
use Rattle.db_state.proofs.WrittenLaws.{written-append, next_after-append}
use Rattle.db_state.specs.Recounted.{names_more}
use Rattle.db_state.proofs.GrowthLaws.{counts_chained}
use Rattle.db_state.proofs.CountLaws.{stands_recounted}
use Rattle.db_state.specs.Recounted.{IsRecounted}
use Rattle.db_state.specs.QuotaWrites.{quota_writes, raised}
use Rattle.db_state.proofs.QuotaWriteLaws.{inodes_written, next_written}
use Rattle.db_state.specs.CallsTable.{IsOf, IsNumberedBy, AreIds, IsAnswer}
use Rattle.inode_ops.specs.QuotaSteps.{AreQuotasFound}
use Rattle.inode_ops.proofs.QuotaLemmas.{LocksQuota}
use Rattle.inode_ops.proofs.PlaceLemmas.{IsSet, path_is, missing_is, missing_row}
use Rattle.inode_ops.proofs.AlongLemmas.{recounted_raised}

-- rows spell a tree with every next id that is above theirs
pub tree_at : (inodes : Inodes) (bound next : ℕ) → IsTree inodes bound → AreIdsBelow inodes next → IsTree inodes next
tree_at inodes bound next tree free = record {
  keys = tree.keys;
  apart = tree.apart;
  range = λ at row e. ((tree.range at row e).0, free at row e);
  dirs = tree.dirs;
  root = tree.root;
  top = tree.top;
  parents = tree.parents;
  spelled = tree.spelled;
}

-- ---- nothing changes

pub or_none : (b : Bool) → b ≡ (b || false)
or_none true = refl
or_none false = refl

pub or_true : (b c : Bool) → b ≡ true → b ≡ (b || c)
or_true true c e = refl
or_true false c e = absurd (true≢false (sym e))

-- a note that changes nothing gives no ids
pub numbering_stays : (numbering : Numbering) (space : Namespace) → IsNamespace space → (s : SessionId) (client : ClientNo) (number reads : ℕ) (asked : Call) (reply : Reply) → move_of space space asked ≡ None
    → ((q : Path) → is_some (id_at numbering q) ≡ exists space q) → numbering_after numbering space space (Did s client number asked reads reply) ≡ numbering
numbering_stays numbering space is s client number reads asked reply still all =
    let root : exists space [] ≡ true = dir-exists (entry_at space []) is.root in
    let none : missing space [] ≡ [] = ap (λ (b : Bool). cond (not b) ([] ∷ []) []) root in
    numbering-missing numbering space space (Did s client number asked reads reply) [] still all is.rises (added root) ∙ ap (with_new numbering) none
  where
    added : exists space [] ≡ true → (q : Path) → exists space q ≡ (exists space q || is_within q [])
    added root [] = or_true (exists space []) true root
    added root (name ∷ names) = or_none (exists space (name ∷ names))

-- an answer that changes nothing
pub unchanged : (tables : Tables) (bound : ℕ) (space : Namespace) (client : ClientNo) (user : List ℕ) (asked : Call) (view : View) (reply said : Reply) (writes : List (Key × Option Row))
    → IsTree tables.inodes view.next.0 → IsNamespace space → Stands tables.inodes tables.quotas [] space → Counts tables.inodes tables.quotas space → move_of space space asked ≡ None
    → plain space client user asked ≡ told said space → as_read reply ≡ said → writes ≡ [] → IsAnswer tables space client user asked view reply writes
unchanged tables bound space client user asked view reply said writes tree is stands counts still answer reads none =
    subst (IsAnswer tables space client user asked view reply) (sym none) (record {
      told = reads ∙ sym (ap (λ (a : Answered). a.reply) answer);
      quiet = λ exception refused. refl;
      looks = λ same. refl;
      rows = subst (IsOf tables view.next.0) (sym (ap (λ (a : Answered). a.space) answer)) (record { tree = tree; stands = stands; counts = counts });
      flags = λ k some. refl;
      few = omega arith;
      ids = subst (AreIds tables view.next.0 tables view.next.0 space client asked) (sym answer) same;
    })
  where
    same : AreIds tables view.next.0 tables view.next.0 space client asked (told said space)
    same numbering s number times answered given = subst (λ (n : Numbering). IsNumberedBy n tables.inodes view.next.0 space) (sym (numbering_stays numbering space is s client number times asked answered still given.all)) given

-- ---- directories are made

pub unremoved : (paths : List Path) → Unremoved [] paths
unremoved [] = tt
unremoved (path ∷ paths) = (refl, unremoved paths)

-- new paths have ids, and so has what had one
pub all_new : (paths : List Path) (numbering : Numbering) (q : Path) → is_some (id_at (with_new numbering paths) q) ≡ (is_among paths q || is_some (id_at numbering q))
all_new [] numbering q = refl
all_new (path ∷ paths) numbering q =
    all_new paths (record { ids = entries.put path_cmp path numbering.next numbering.ids; next = numbering.next + 1 }) q
    ∙ ap (λ (o : Option ℕ). is_among paths q || is_some o) (entries.find-put path_cmp path_cmp_total q path numbering.next numbering.ids)
    ∙ either (is_among paths q) (same_path q path) (id_at numbering q)
  where
    either : (a b : Bool) (o : Option ℕ) → (a || is_some (cond b (Some numbering.next) o)) ≡ ((b || a) || is_some o)
    either true true o = refl
    either true false o = refl
    either false true o = refl
    either false false o = refl

exists_made : (b : Bool) (entry : Entry) (o : Option Entry) → is_some (cond b (Some entry) o) ≡ (b || is_some o)
exists_made true entry o = refl
exists_made false entry o = refl

module _ (tables : Tables) (space : Namespace) (locked : List (Key × Mode)) (seen : List (InodeId × QuotaRow)) (place : Place) (view : View) (set : IsSet tables view.next.0 space locked seen place)
    (locks : AllByRecursion (LocksQuota locked) (set.walk.first ∷ set.walk.rows)) (dir : set.walk.down.at.there.row.kind ≡ Dir) (user : List ℕ)
    (chosen : List (InodeId × QuotaRow)) (are : AreQuotasFound (set.walk.first ∷ set.walk.rows) seen [] chosen) where
  -- the writes of the directories and of the quota rows above them, and the tables with them
  abbrev dirs : List (Key × Option Row)
  dirs = new_dirs set.walk.down.at.there.row.id.0 view.next.0 user set.walk.down.rest

  abbrev more : List (Key × Option Row)
  more = quota_writes (raised (length set.walk.down.rest) 0) chosen

  abbrev chained : Tables
  chained = written tables (new_dirs set.walk.down.at.there.row.id.0 view.next.0 user set.walk.down.rest)

  abbrev after : Tables
  after = written chained (quota_writes (raised (length set.walk.down.rest) 0) chosen)

  -- the namespace then
  abbrev later : Namespace
  later = with_dirs space user (missing space place.path)

  abbrev last_id : ℕ
  last_id = view.next.0 + length set.walk.down.rest

  none : FirstMissing tables.inodes set.walk.down.at.there.row.id set.walk.down.rest
  none = missing_row tables view.next.0 space locked seen place set

  all_missing : missing space place.path ≡ paths_below (reverse set.walk.down.dir) set.walk.down.rest
  all_missing = missing_is tables view.next.0 space locked seen place set

  count : length (missing space place.path) ≡ length set.walk.down.rest
  count = ap (λ (ps : List Path). length ps) all_missing ∙ paths_below-length set.walk.down.rest (reverse set.walk.down.dir)

  recounted : IsRecounted tables.inodes place.path (names_more (length set.walk.down.rest)) tables.quotas after.quotas
  recounted = recounted_raised tables view.next.0 space locked seen place set locks chosen are (length set.walk.down.rest) chained (quotas_chained set.walk.down.rest tables set.walk.down.at.there.row.id.0 view.next.0 user)

  inodes_are : after.inodes ≡ chained.inodes
  inodes_are = inodes_written (raised (length set.walk.down.rest) 0) chosen chained

  next_is : next_after view.next.0 (dirs ++ more) ≡ last_id
  next_is =
      next_after-append dirs more view.next.0
      ∙ next_written (raised (length set.walk.down.rest) 0) chosen (next_after view.next.0 dirs)
      ∙ next_chained set.walk.down.rest set.walk.down.at.there.row.id.0 view.next.0 user

  tree_then : IsTree chained.inodes last_id
  tree_then = tree_chained set.walk.down.rest tables view.next.0 set.tree set.walk.down.dir set.walk.down.at.there.row user set.walk.down.at.spelt dir none

  stands_then : Stands chained.inodes tables.quotas [] later
  stands_then =
      subst (λ (ps : List Path). Stands chained.inodes tables.quotas [] (with_dirs space user ps)) (sym all_missing)
      (stands_chained set.walk.down.rest tables view.next.0 set.tree tables.quotas [] space set.stands set.walk.down.dir set.walk.down.at.there.row user set.walk.down.at.spelt dir none
      (unremoved (paths_below (reverse set.walk.down.dir) set.walk.down.rest)))

  counts_then : Counts chained.inodes after.quotas later
  counts_then =
      subst (λ (ps : List Path). Counts chained.inodes after.quotas (with_dirs space user ps)) (sym all_missing)
      (counts_chained tables view.next.0 set.tree tables.quotas after.quotas space set.stands set.names set.counts set.walk.down.dir set.walk.down.at.there.row set.walk.down.at.spelt dir user set.walk.down.rest none
      (subst (λ (p : Path). IsRecounted tables.inodes p (names_more (length set.walk.down.rest)) tables.quotas after.quotas) (sym (path_is tables view.next.0 space locked seen place set)) recounted))

  -- the rows stand for the namespace with the directories
  rows_of : IsOf after last_id later
  rows_of = record {
    tree = subst (λ (i : Inodes). IsTree i last_id) (sym inodes_are) tree_then;
    stands = subst (λ (i : Inodes). Stands i after.quotas [] later) (sym inodes_are)
        (stands_recounted tables.inodes place.path (names_more (length set.walk.down.rest)) tables.quotas after.quotas recounted chained.inodes [] later stands_then);
    counts = subst (λ (i : Inodes). Counts i after.quotas later) (sym inodes_are) counts_then;
  }

  -- and have the ids that the history gives
  ids_of : (numbering : Numbering) (note : Note) → move_in space later note ≡ None → IsNumberedBy numbering tables.inodes view.next.0 space → IsNumberedBy (numbering_after numbering space later note) after.inodes last_id later
  ids_of numbering note still given =
      let numbers : numbering_after numbering space later note ≡ with_new numbering (missing space place.path) =
      numbering-missing numbering space later note place.path still given.all (Rises-with_dirs space user (missing space place.path) set.names.rises) added in
      subst (λ (n : Numbering). IsNumberedBy n after.inodes last_id later) (sym numbers) (record {
        all = λ path. all_new (missing space place.path) numbering path ∙ ap (λ (b : Bool). is_among (missing space place.path) path || b) (given.all path) ∙ sym (there path);
        given = subst (λ (i : Inodes). AreGiven i (with_new numbering (missing space place.path))) (sym inodes_are)
            (subst (λ (ps : List Path). AreGiven chained.inodes (with_new numbering ps)) (sym all_missing)
            (given_chained set.walk.down.rest tables view.next.0 set.tree set.walk.down.dir set.walk.down.at.there.row user set.walk.down.at.spelt dir none numbering (sym given.least) given.given));
        least = let last = next_with_new (missing space place.path) numbering in let many = count in let least = given.least in omega arith;
      })
    where
      there : (q : Path) → exists later q ≡ (is_among (missing space place.path) q || exists space q)
      there q = ap is_some (entry_at-with_dirs space user (missing space place.path) q) ∙ exists_made (is_among (missing space place.path) q) (spaces.new_dir user) (entry_at space q)

      swapped : (a b : Bool) → ((not a && b) || a) ≡ (a || b)
      swapped true b = refl
      swapped false true = refl
      swapped false false = refl

      added : (q : Path) → exists later q ≡ (exists space q || is_within q place.path)
      added q = there q ∙ ap (λ (b : Bool). b || exists space q) (among-missing space place.path q) ∙ swapped (exists space q) (is_within q place.path)

  -- an answer that makes the missing directories
  pub made : (client : ClientNo) (asked : Call) (reply : Reply) (writes : List (Key × Option Row)) → ((old new : Namespace) → move_of old new asked ≡ None) → changes asked ≡ true → length set.walk.down.rest ≤ sum_by (λ (p : Path). length p) (paths_of asked)
      → plain space client user asked ≡ granted later → as_read reply ≡ (granted later).reply → writes ≡ dirs ++ more → IsAnswer tables space client user asked view reply writes
  made client asked reply writes still acts few answer reads is =
      let tables_are : written tables (dirs ++ more) ≡ after = written-append dirs more tables in
      subst (IsAnswer tables space client user asked view reply) (sym is) (record {
        told = reads ∙ sym (ap (λ (a : Answered). a.reply) answer);
        quiet = λ exception refused. (let bad : Truth true ≡ Refused exception = sym reads ∙ ap as_read refused in cc);
        looks = λ same. (let bad : true ≡ false = sym acts ∙ same in cc);
        rows = subst (IsOf (written tables (dirs ++ more)) (next_after view.next.0 (dirs ++ more))) (sym (ap (λ (a : Answered). a.space) answer))
            (subst (λ (n : ℕ). IsOf (written tables (dirs ++ more)) n later) (sym next_is) (subst (λ (t : Tables). IsOf t last_id later) (sym tables_are) rows_of));
        flags = λ k some. ap (λ (t : Tables). flag_at t.inodes k) tables_are ∙ ap (λ (inodes : Inodes). flag_at inodes k) inodes_are
            ∙ flags_chained set.walk.down.rest tables view.next.0 set.tree set.walk.down.dir set.walk.down.at.there.row user set.walk.down.at.spelt dir none k;
        few = let past = next_is in omega arith;
        ids = subst (AreIds tables view.next.0 (written tables (dirs ++ more)) (next_after view.next.0 (dirs ++ more)) space client asked) (sym answer)
            (λ numbering s number times answered given.
            subst (λ (n : ℕ). IsNumberedBy (numbering_after numbering space later (Did s client number asked times answered)) (written tables (dirs ++ more)).inodes n later) (sym next_is)
            (subst (λ (t : Tables). IsNumberedBy (numbering_after numbering space later (Did s client number asked times answered)) t.inodes last_id later) (sym tables_are)
            (ids_of numbering (Did s client number asked times answered) (still space later) given)));
      })
