-- A new file against the calls table: its row, those of the directories above it, and the quota rows along its path.
use Rattle.std.proofs.Common.{◌≡◌, ℕ, ◌+◌, ◌≤◌, Bool, true, false, cond, not, ◌&&◌, ◌||◌, List, [], ◌∷◌, ◌++◌, length, reverse, Option, Some, None, is_some, arith, refl, sym, ap, subst, ◌∙◌, inl, inr, length-append}
use Rattle.std.specs.List.{AllByRecursion, sum_by}
use Rattle.hops_base.specs.Path.{same_path}
use Rattle.hops_base.proofs.Tells.{paths_tell}
use Rattle.hops_base.specs.declared.ids.ClientNo.{ClientNo}
use Rattle.hops_base.specs.declared.ids.InodeId.{InodeId}
use Rattle.hops_base.specs.declared.ids.Mode.{Mode}
use Rattle.hops_base.specs.declared.key.Key.{Key}
use Rattle.name_space.specs.Call.{paths_of, changes}
use Rattle.name_space.specs.declared.call.Call.{Call}
use Rattle.name_space.specs.declared.entry.Entry.{Entry}
use Rattle.name_space.specs.declared.reply.Reply.{Reply}
use Rattle.name_space.specs.declared.reply.Reply.TheVariants.{Truth, Refused}
use Rattle.name_space.specs.Namespace as spaces
use Rattle.name_space.specs.Namespace.{Namespace, Path, entry_at, exists, is_within, with_entry, paths_below, missing}
use Rattle.name_space.proofs.NamespaceLaws.{entry_at-with_entry, entry_at-with_dirs, Rises-with_dirs, Rises-with_entry}
use Rattle.name_space.proofs.PathLaws.{is_within-self}
use Rattle.name_space.proofs.PrefixLaws.{among-missing}
use Rattle.name_space.specs.Cut.{is_among}
use Rattle.name_space.specs.Plain as plain_words
use Rattle.name_space.specs.Plain.{Answered, with_dirs, granted}
use Rattle.name_space.specs.Calls.{plain, as_read}
use Rattle.commit_log.specs.declared.note.Note.{Note}
use Rattle.commit_log.specs.declared.note.Note.TheVariants.{Did}
use Rattle.commit_log.specs.Ids.{Numbering, with_new, move_of, move_in, numbering_after}
use Rattle.commit_log.proofs.NumberLaws.{numbering-missing}
use Rattle.inode_table.specs.declared.inode.Kind.TheVariants.{Dir}
use Rattle.quota_table.specs.declared.quota.QuotaRow.{QuotaRow}
use Rattle.db_state.specs.Stored.{Tables}
use Rattle.db_state.specs.Consistent.{flag_at}
use Rattle.db_state.specs.Spelled.{Inodes, IsTree, AreGiven}
use Rattle.db_state.specs.Stands.{Stands}
use Rattle.db_state.specs.Counts.{Counts}
use Rattle.db_state.specs.Written.{written, next_after}
use Rattle.db_state.specs.declared.view.Place.{Place}
use Rattle.db_state.specs.declared.view.View.{View}
use Rattle.db_state.specs.declared.writes.Row.{Row}
use Rattle.db_state.specs.NewDirs.{FirstMissing}
use Rattle.inode_ops.specs.NewFile.{new_file_rows}
use Rattle.db_state.proofs.NumberLaws.{next_with_new}
use Rattle.db_state.proofs.WrittenLaws.{written-append, next_after-append}
use Rattle.db_state.proofs.ChainLaws.{paths_below-length}
use Rattle.inode_ops.proofs.FileLaws.{quotas_filed, next_filed, flags_filed, tree_filed, given_filed, stands_filed}
use Rattle.db_state.specs.Recounted.{names_more}
use Rattle.inode_ops.proofs.FileCountLaws.{counts_filed}
use Rattle.db_state.proofs.CountLaws.{stands_recounted}
use Rattle.db_state.specs.Recounted.{IsRecounted}
use Rattle.db_state.specs.QuotaWrites.{quota_writes, raised}
use Rattle.db_state.proofs.QuotaWriteLaws.{inodes_written, next_written}
use Rattle.db_state.specs.CallsTable.{IsOf, IsNumberedBy, AreIds, IsAnswer}
use Rattle.inode_ops.specs.QuotaSteps.{AreQuotasFound}
use Rattle.inode_ops.proofs.QuotaLemmas.{LocksQuota}
use Rattle.inode_ops.proofs.PlaceLemmas.{IsSet, path_is as path_of_place, missing_is, missing_row}
use Rattle.inode_ops.proofs.AlongLemmas.{recounted_raised}
use Rattle.inode_ops.proofs.TableLemmas.{unremoved, all_new}

module _ (tables : Tables) (space : Namespace) (locked : List (Key × Mode)) (seen : List (InodeId × QuotaRow)) (place : Place) (view : View) (set : IsSet tables view.next.0 space locked seen place)
    (locks : AllByRecursion (LocksQuota locked) (set.walk.first ∷ set.walk.rows)) (dir : set.walk.down.at.there.row.kind ≡ Dir) (client : ClientNo) (user : List ℕ)
    (ups : List (List ℕ)) (name : List ℕ) (split : set.walk.down.rest ≡ ups ++ name ∷ []) (chosen : List (InodeId × QuotaRow)) (are : AreQuotasFound (set.walk.first ∷ set.walk.rows) seen [] chosen) where
  -- the writes of the file and of the directories above it, those of the quota rows, and the tables with them
  abbrev rows : List (Key × Option Row)
  rows = new_file_rows set.walk.down.at.there.row.id.0 view.next.0 user ups name client

  abbrev more : List (Key × Option Row)
  more = quota_writes (raised (length set.walk.down.rest) 0) chosen

  abbrev filed : Tables
  filed = written tables (new_file_rows set.walk.down.at.there.row.id.0 view.next.0 user ups name client)

  abbrev after : Tables
  after = written filed (quota_writes (raised (length set.walk.down.rest) 0) chosen)

  -- the namespace then
  abbrev later : Namespace
  later = with_entry (with_dirs space user (missing space place.path)) place.path (plain_words.new_file client user)

  abbrev last_id : ℕ
  last_id = view.next.0 + length ups + 1

  none : FirstMissing tables.inodes set.walk.down.at.there.row.id (ups ++ name ∷ [])
  none = subst (FirstMissing tables.inodes set.walk.down.at.there.row.id) split (missing_row tables view.next.0 space locked seen place set)

  path_split : reverse set.walk.down.dir ++ (ups ++ name ∷ []) ≡ place.path
  path_split = ap (λ (p : List (List ℕ)). reverse set.walk.down.dir ++ p) (sym split) ∙ path_of_place tables view.next.0 space locked seen place set

  missing_split : missing space place.path ≡ paths_below (reverse set.walk.down.dir) (ups ++ name ∷ [])
  missing_split = missing_is tables view.next.0 space locked seen place set ∙ ap (paths_below (reverse set.walk.down.dir)) split

  later_is : with_entry (with_dirs space user (paths_below (reverse set.walk.down.dir) (ups ++ name ∷ []))) (reverse set.walk.down.dir ++ (ups ++ name ∷ [])) (plain_words.new_file client user) ≡ later
  later_is = λ i. with_entry (with_dirs space user (sym missing_split i)) (path_split i) (plain_words.new_file client user)

  recounted : IsRecounted tables.inodes place.path (names_more (length set.walk.down.rest)) tables.quotas after.quotas
  recounted = recounted_raised tables view.next.0 space locked seen place set locks chosen are (length set.walk.down.rest) filed (quotas_filed ups tables set.walk.down.at.there.row.id.0 view.next.0 user name client)

  inodes_are : after.inodes ≡ filed.inodes
  inodes_are = inodes_written (raised (length set.walk.down.rest) 0) chosen filed

  next_is : next_after view.next.0 (rows ++ more) ≡ last_id
  next_is =
      next_after-append rows more view.next.0
      ∙ next_written (raised (length set.walk.down.rest) 0) chosen (next_after view.next.0 rows)
      ∙ next_filed ups set.walk.down.at.there.row.id.0 view.next.0 user name client

  long : length set.walk.down.rest ≡ length ups + 1
  long = ap (λ (p : List (List ℕ)). length p) split ∙ length-append ups (name ∷ [])

  count : length (missing space place.path) ≡ length ups + 1
  count = ap (λ (ps : List Path). length ps) (missing_is tables view.next.0 space locked seen place set) ∙ paths_below-length set.walk.down.rest (reverse set.walk.down.dir) ∙ long

  tree_then : IsTree filed.inodes last_id
  tree_then = tree_filed ups tables view.next.0 set.tree set.walk.down.dir set.walk.down.at.there.row user name client set.walk.down.at.spelt dir none

  stands_then : Stands filed.inodes tables.quotas [] later
  stands_then =
      subst (Stands filed.inodes tables.quotas []) later_is
      (stands_filed ups tables view.next.0 set.tree set.walk.down.dir set.walk.down.at.there.row user name client set.walk.down.at.spelt dir none tables.quotas [] space set.stands
      (unremoved (paths_below (reverse set.walk.down.dir) (ups ++ name ∷ []))))

  counts_then : Counts filed.inodes after.quotas later
  counts_then =
      subst (Counts filed.inodes after.quotas) later_is
      (counts_filed tables view.next.0 set.tree tables.quotas after.quotas space set.stands set.names set.counts set.walk.down.dir set.walk.down.at.there.row set.walk.down.at.spelt dir user ups name client none
      (subst (λ (p : Path). IsRecounted tables.inodes p (names_more (length (ups ++ name ∷ []))) tables.quotas after.quotas) (sym path_split)
      (subst (λ (p : List (List ℕ)). IsRecounted tables.inodes place.path (names_more (length p)) tables.quotas after.quotas) split recounted)))

  -- the rows stand for the namespace with the file
  rows_of : IsOf after last_id later
  rows_of = record {
    tree = subst (λ (i : Inodes). IsTree i last_id) (sym inodes_are) tree_then;
    stands = subst (λ (i : Inodes). Stands i after.quotas [] later) (sym inodes_are)
        (stands_recounted tables.inodes place.path (names_more (length set.walk.down.rest)) tables.quotas after.quotas recounted filed.inodes [] later stands_then);
    counts = subst (λ (i : Inodes). Counts i after.quotas later) (sym inodes_are) counts_then;
  }

  -- which paths there are then
  there : (q : Path) → exists later q ≡ (is_among (missing space place.path) q || exists space q)
  there q =
      ap is_some (entry_at-with_entry (with_dirs space user (missing space place.path)) place.path (plain_words.new_file client user) q ∙ ap (cond (same_path q place.path) (Some (plain_words.new_file client user))) (entry_at-with_dirs space user (missing space place.path) q))
      ∙ either (same_path q place.path) (is_among (missing space place.path) q) (entry_at space q) own
    where
      own : same_path q place.path ≡ true → (is_among (missing space place.path) q || exists space q) ≡ true
      own same = elim (paths_tell q place.path) [
        | inl h ↦
            let within : is_within q place.path ≡ true = ap (λ (p : Path). is_within p place.path) h.1 ∙ is_within-self place.path in
            ap (λ (b : Bool). b || exists space q) (among-missing space place.path q ∙ ap (λ (b : Bool). not (exists space q) && b) within) ∙ filled (exists space q)
        | inr h ↦ absurd (Rattle.std.proofs.lemmas.Bool.true≢false (sym same ∙ h.0))
      ]
        where
          filled : (b : Bool) → ((not b && true) || b) ≡ true
          filled true = refl
          filled false = refl

      either : (same among : Bool) (o : Option Entry) → (same ≡ true → (among || is_some o) ≡ true) → is_some (cond same (Some (plain_words.new_file client user)) (cond among (Some (spaces.new_dir user)) o)) ≡ (among || is_some o)
      either true among o own = sym (own refl)
      either false true o own = refl
      either false false o own = refl

  added : (q : Path) → exists later q ≡ (exists space q || is_within q place.path)
  added q = there q ∙ ap (λ (b : Bool). b || exists space q) (among-missing space place.path q) ∙ turned (exists space q) (is_within q place.path)
    where
      turned : (a b : Bool) → ((not a && b) || a) ≡ (a || b)
      turned true b = refl
      turned false true = refl
      turned false false = refl

  -- and have the ids that the history gives
  ids_of : (numbering : Numbering) (note : Note) → move_in space later note ≡ None → IsNumberedBy numbering tables.inodes view.next.0 space → IsNumberedBy (numbering_after numbering space later note) after.inodes last_id later
  ids_of numbering note still given =
      let rises = Rises-with_entry (with_dirs space user (missing space place.path)) place.path (plain_words.new_file client user) (Rises-with_dirs space user (missing space place.path) set.names.rises) in
      let numbers : numbering_after numbering space later note ≡ with_new numbering (missing space place.path) = numbering-missing numbering space later note place.path still given.all rises added in
      subst (λ (n : Numbering). IsNumberedBy n after.inodes last_id later) (sym numbers) (record {
        all = λ path. all_new (missing space place.path) numbering path ∙ ap (λ (b : Bool). is_among (missing space place.path) path || b) (given.all path) ∙ sym (there path);
        given = subst (λ (i : Inodes). AreGiven i (with_new numbering (missing space place.path))) (sym inodes_are)
            (subst (λ (ps : List Path). AreGiven filed.inodes (with_new numbering ps)) (sym missing_split)
            (given_filed ups tables view.next.0 set.tree set.walk.down.dir set.walk.down.at.there.row user name client set.walk.down.at.spelt dir none numbering (sym given.least) given.given));
        least = let last = next_with_new (missing space place.path) numbering in let many = count in let least = given.least in omega arith;
      })

  -- an answer that makes the file
  pub filed_answer : (asked : Call) (reply : Reply) (writes : List (Key × Option Row)) → ((old new : Namespace) → move_of old new asked ≡ None) → changes asked ≡ true → length ups + 1 ≤ sum_by (λ (p : Path). length p) (paths_of asked)
      → plain space client user asked ≡ granted later → as_read reply ≡ (granted later).reply → writes ≡ rows ++ more → IsAnswer tables space client user asked view reply writes
  filed_answer asked reply writes still acts few answer reads is =
      let tables_are : written tables (rows ++ more) ≡ after = written-append rows more tables in
      subst (IsAnswer tables space client user asked view reply) (sym is) (record {
        told = reads ∙ sym (ap (λ (a : Answered). a.reply) answer);
        quiet = λ exception refused. (let bad : Truth true ≡ Refused exception = sym reads ∙ ap as_read refused in cc);
        looks = λ same. (let bad : true ≡ false = sym acts ∙ same in cc);
        rows = subst (IsOf (written tables (rows ++ more)) (next_after view.next.0 (rows ++ more))) (sym (ap (λ (a : Answered). a.space) answer))
            (subst (λ (n : ℕ). IsOf (written tables (rows ++ more)) n later) (sym next_is) (subst (λ (t : Tables). IsOf t last_id later) (sym tables_are) rows_of));
        flags = λ k some. ap (λ (t : Tables). flag_at t.inodes k) tables_are ∙ ap (λ (inodes : Inodes). flag_at inodes k) inodes_are
            ∙ flags_filed ups tables view.next.0 set.tree set.walk.down.dir set.walk.down.at.there.row user name client set.walk.down.at.spelt dir none k;
        few = let past = next_is in omega arith;
        ids = subst (AreIds tables view.next.0 (written tables (rows ++ more)) (next_after view.next.0 (rows ++ more)) space client asked) (sym answer)
            (λ numbering s number times answered given.
            subst (λ (n : ℕ). IsNumberedBy (numbering_after numbering space later (Did s client number asked times answered)) (written tables (rows ++ more)).inodes n later) (sym next_is)
            (subst (λ (t : Tables). IsNumberedBy (numbering_after numbering space later (Did s client number asked times answered)) t.inodes last_id later) (sym tables_are)
            (ids_of numbering (Did s client number asked times answered) (still space later) given)));
      })
