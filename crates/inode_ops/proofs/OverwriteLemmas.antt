-- A file that is overwritten against the calls table: its row, and the quota rows along its path.
use Rattle.std.proofs.Common.{◌≡◌, ◌≢◌, ℕ, ◌+◌, ◌<◌, ◌≤◌, Bool, true, false, cond, not, ◌||◌, max, List, [], ◌∷◌, ◌++◌, reverse, Option, Some, None, is_some, arith, refl, sym, ap, subst, ◌∙◌, inl, inr, append-nil}
use Rattle.std.proofs.lemmas.List.{reverse-reverse}
use Rattle.std.specs.FinMap as map
use Rattle.std.specs.List.{AllByRecursion}
use Rattle.hops_base.proofs.Tells.{paths_tell}
use Rattle.hops_base.specs.declared.ids.ClientNo.{ClientNo}
use Rattle.hops_base.specs.declared.ids.InodeId.{InodeId}
use Rattle.hops_base.specs.declared.ids.Mode.{Mode}
use Rattle.hops_base.specs.declared.key.Key.{Key}
use Rattle.name_space.specs.declared.call.Call.{Call}
use Rattle.name_space.specs.declared.entry.Entry.{Entry}
use Rattle.name_space.specs.declared.entry.Entry.TheVariants as entry
use Rattle.name_space.specs.declared.reply.Reply.{Reply}
use Rattle.name_space.specs.declared.reply.Reply.TheVariants.{Truth, Refused}
use Rattle.name_space.specs.Namespace.{Namespace, Path, entry_at, exists, is_within, with_entry, missing, used_bytes}
use Rattle.name_space.proofs.NamespaceLaws.{dir-exists, entry_at-with_entry, Rises-with_entry}
use Rattle.name_space.proofs.UsedLaws.{used_bytes-with_old}
use Rattle.name_space.specs.Plain.{Answered, new_file, granted}
use Rattle.name_space.specs.Call.{changes}
use Rattle.name_space.specs.Calls.{plain, as_read}
use Rattle.commit_log.specs.declared.note.Note.{Note}
use Rattle.commit_log.specs.declared.note.Note.TheVariants.{Did}
use Rattle.commit_log.specs.Ids.{Numbering, with_new, move_of, move_in, numbering_after}
use Rattle.commit_log.proofs.NumberLaws.{numbering-missing}
use Rattle.inode_table.specs.declared.inode.Inode.{Inode}
use Rattle.inode_table.specs.declared.inode.Kind.{Kind}
use Rattle.inode_table.specs.declared.inode.Kind.TheVariants.{Dir, File}
use Rattle.quota_table.specs.declared.quota.QuotaRow.{QuotaRow}
use Rattle.db_state.specs.Stored.{Tables, root_key, root_row}
use Rattle.db_state.specs.Consistent.{flag_at}
use Rattle.db_state.specs.Spelled.{Inodes, spelled, row_of, IsTree}
use Rattle.db_state.specs.Stands.{quota_of, entry_of, entry_of_kind, Stands}
use Rattle.db_state.specs.Counts.{Counts}
use Rattle.db_state.specs.Written.{written, next_after}
use Rattle.db_state.specs.declared.view.Place.{Place}
use Rattle.db_state.specs.declared.view.View.{View}
use Rattle.db_state.specs.declared.writes.Row.{Row}
use Rattle.db_state.specs.declared.writes.Row.TheVariants as row
use Rattle.db_state.specs.Plan.{is_whole}
use Rattle.db_state.proofs.ChangeLaws.{stands_changed, tree_changed, given_changed, flags_changed}
use Rattle.db_state.specs.Recounted.{in_place}
use Rattle.db_state.proofs.CountLaws.{counts_changed, stands_recounted, is_along-within}
use Rattle.db_state.specs.QuotaWrites.{quota_writes, lowered}
use Rattle.db_state.proofs.QuotaWriteLaws.{inodes_written, next_written, becomes_lowered}
use Rattle.db_state.specs.Recounted.{is_along, IsRecounted}
use Rattle.db_state.specs.CallsTable.{IsOf, IsNumberedBy, AreIds, IsAnswer}
use Rattle.inode_ops.specs.CreateSteps.{overwritten}
use Rattle.inode_ops.specs.QuotaSteps.{AreQuotasFound}
use Rattle.inode_ops.proofs.QuotaLemmas.{LocksQuota}
use Rattle.inode_ops.proofs.PlaceLemmas.{IsSet, path_is, whole_rest, entry_bottom}
use Rattle.inode_ops.proofs.AlongLemmas.{recounted_chosen}
use Rattle.inode_ops.proofs.TableLemmas.{or_none, or_true}

module _ (tables : Tables) (space : Namespace) (locked : List (Key × Mode)) (seen : List (InodeId × QuotaRow)) (place : Place) (view : View) (set : IsSet tables view.next.0 space locked seen place)
    (locks : AllByRecursion (LocksQuota locked) (set.walk.first ∷ set.walk.rows)) (whole : is_whole place ≡ true) (file : set.walk.down.at.there.row.kind ≡ File) (client : ClientNo) (user : List ℕ)
    (chosen : List (InodeId × QuotaRow)) (are : AreQuotasFound (set.walk.first ∷ set.walk.rows) seen [] chosen) where
  -- the file's row and what it becomes
  abbrev old : Inode
  old = set.walk.down.at.there.row

  abbrev new : Inode
  new = overwritten client user set.walk.down.at.there.row

  -- the inode rows with it, and the writes
  abbrev inodes : Inodes
  inodes = map.insert tables.inodes set.walk.down.bottom.0 new

  abbrev rows : List (Key × Option Row)
  rows = (set.walk.down.bottom.0, Some (row.Inode new)) ∷ quota_writes (lowered 0 old.len) chosen

  abbrev after : Tables
  after = written (record { inodes = inodes; quotas = tables.quotas }) (quota_writes (lowered 0 old.len) chosen)

  -- the entry that stands there, and that which comes in its place
  abbrev was : Entry
  was = entry.File old.len old.writer old.mode old.owner

  abbrev now : Entry
  now = new_file client user

  abbrev later : Namespace
  later = with_entry space place.path now

  path_whole : reverse set.walk.down.dir ≡ place.path
  path_whole =
      sym (append-nil (reverse set.walk.down.dir)) ∙ ap (λ (p : List (List ℕ)). reverse set.walk.down.dir ++ p) (sym (whole_rest tables view.next.0 space locked seen place set whole))
      ∙ path_is tables view.next.0 space locked seen place set

  here : row_of tables.inodes place.path ≡ Some old
  here = ap (row_of tables.inodes) (sym path_whole) ∙ ap (spelled tables.inodes) (reverse-reverse set.walk.down.dir) ∙ set.walk.down.at.spelt

  stood : entry_at space place.path ≡ Some was
  stood =
      ap (entry_at space) (sym path_whole) ∙ entry_bottom tables view.next.0 space locked seen place set
      ∙ ap (λ (k : Kind). Some (entry_of_kind k old (quota_of tables.quotas old.id))) file

  comes : entry_of tables.quotas new ≡ now
  comes = ap (λ (k : Kind). entry_of_kind k new (quota_of tables.quotas old.id)) file

  -- it isn't the root's
  below : set.walk.down.bottom.0 ≢ root_key
  below same =
      let root : Some old ≡ Some root_row = sym set.walk.down.at.there.there ∙ ap (map.get tables.inodes) same ∙ set.tree.root in
      let is : old ≡ root_row = cc in
      let kinds : File ≡ Dir = sym file ∙ ap (λ (r : Inode). r.kind) is in
      cc

  -- each quota row along the path counts the bytes of the file
  enough : (id : InodeId) (quota : QuotaRow) → quota_of tables.quotas id ≡ Some quota → is_along tables.inodes place.path id ≡ true → old.len ≤ quota.used_bytes
  enough id quota e along =
      let of = set.stands.rows id quota e in
      let way = set.tree.spelled of.at of.row of.there in
      let at : row_of tables.inodes (reverse way.0) ≡ Some of.row = ap (spelled tables.inodes) (reverse-reverse way.0) ∙ way.1 in
      let within : is_within (reverse way.0) place.path ≡ true = sym (is_along-within tables.inodes view.next.0 set.tree (reverse way.0) of.row at place.path) ∙ ap (is_along tables.inodes place.path) of.is ∙ along in
      let counted = set.counts (reverse way.0) of.row quota at (ap (quota_of tables.quotas) of.is ∙ e) in
      let bytes = used_bytes-with_old space set.names.rises place.path now (reverse way.0) was stood in
      let sum : used_bytes later (reverse way.0) + old.len ≡ used_bytes space (reverse way.0) + 0 = subst (λ (b : Bool). used_bytes later (reverse way.0) + cond b old.len 0 ≡ used_bytes space (reverse way.0) + cond b 0 0) within bytes in
      let used : quota.used_bytes ≡ used_bytes space (reverse way.0) = counted.1 in
      omega arith

  recounted : IsRecounted tables.inodes place.path (in_place was now) tables.quotas after.quotas
  recounted = recounted_chosen tables view.next.0 space locked seen place set locks chosen are (in_place was now) (lowered 0 old.len) (record { inodes = inodes; quotas = tables.quotas }) refl
      (λ id quota e along. becomes_lowered 0 old.len quota (omega arith) (enough id quota e along))

  inodes_are : after.inodes ≡ inodes
  inodes_are = inodes_written (lowered 0 old.len) chosen (record { inodes = inodes; quotas = tables.quotas })

  next_is : next_after view.next.0 rows ≡ view.next.0
  next_is =
      let range = set.tree.range set.walk.down.bottom.0 old set.walk.down.at.there.there in
      let free : old.id.0 < view.next.0 = range.1 in
      let same : max view.next.0 (old.id.0 + 1) ≡ view.next.0 = omega arith in
      next_written (lowered 0 old.len) chosen (max view.next.0 (old.id.0 + 1)) ∙ same

  stands_then : Stands inodes tables.quotas [] later
  stands_then =
      subst (λ (e : Entry). Stands inodes tables.quotas [] (with_entry space place.path e)) comes
      (stands_changed tables.inodes view.next.0 set.tree set.walk.down.bottom.0 old new set.walk.down.at.there.there refl place.path here tables.quotas [] space set.stands refl refl)

  -- the rows stand for the namespace with the new file
  rows_of : IsOf after view.next.0 later
  rows_of = record {
    tree = subst (λ (i : Inodes). IsTree i view.next.0) (sym inodes_are) (tree_changed tables.inodes view.next.0 set.tree set.walk.down.bottom.0 old new set.walk.down.at.there.there refl below refl (λ dir. absurd (let bad : File ≡ Dir = sym file ∙ dir in cc)));
    stands = subst (λ (i : Inodes). Stands i after.quotas [] later) (sym inodes_are) (stands_recounted tables.inodes place.path (in_place was now) tables.quotas after.quotas recounted inodes [] later stands_then);
    counts = subst (λ (i : Inodes). Counts i after.quotas later) (sym inodes_are)
        (counts_changed tables.inodes view.next.0 set.tree set.walk.down.bottom.0 old new set.walk.down.at.there.there refl place.path here tables.quotas after.quotas space set.names.rises set.counts was now stood recounted);
  }

  -- the same paths are there
  there : (q : Path) → exists later q ≡ exists space q
  there q = ap is_some (entry_at-with_entry space place.path now q) ∙ (elim (paths_tell q place.path) [
    | inl h ↦ ap (λ (b : Bool). is_some (cond b (Some now) (entry_at space q))) h.0 ∙ sym (ap (λ (p : Path). exists space p) h.1 ∙ ap is_some stood)
    | inr h ↦ ap (λ (b : Bool). is_some (cond b (Some now) (entry_at space q))) h.0
  ])

  -- so the ids stay
  ids_of : (numbering : Numbering) (note : Note) → move_in space later note ≡ None → IsNumberedBy numbering tables.inodes view.next.0 space → IsNumberedBy (numbering_after numbering space later note) after.inodes view.next.0 later
  ids_of numbering note still given =
      let root : exists space [] ≡ true = dir-exists (entry_at space []) set.names.root in
      let none : missing space [] ≡ [] = ap (λ (b : Bool). cond (not b) ([] ∷ []) []) root in
      let numbers : numbering_after numbering space later note ≡ numbering = numbering-missing numbering space later note [] still given.all (Rises-with_entry space place.path now set.names.rises) (λ q. there q ∙ nothing root q) ∙ ap (with_new numbering) none in
      subst (λ (n : Numbering). IsNumberedBy n after.inodes view.next.0 later) (sym numbers) (record {
        all = λ q. given.all q ∙ sym (there q);
        given = subst (λ (i : Inodes). Rattle.db_state.specs.Spelled.AreGiven i numbering) (sym inodes_are) (given_changed tables.inodes view.next.0 set.tree set.walk.down.bottom.0 old new set.walk.down.at.there.there refl numbering given.given);
        least = given.least;
      })
    where
      nothing : exists space [] ≡ true → (q : Path) → exists space q ≡ (exists space q || is_within q [])
      nothing root [] = or_true (exists space []) true root
      nothing root (name ∷ names) = or_none (exists space (name ∷ names))

  -- an answer that overwrites the file
  pub overwritten_answer : (asked : Call) (reply : Reply) (writes : List (Key × Option Row)) → ((before then : Namespace) → move_of before then asked ≡ None) → changes asked ≡ true → plain space client user asked ≡ granted later → as_read reply ≡ (granted later).reply → writes ≡ rows
      → IsAnswer tables space client user asked view reply writes
  overwritten_answer asked reply writes still acts answer reads is = subst (IsAnswer tables space client user asked view reply) (sym is) (record {
    told = reads ∙ sym (ap (λ (a : Answered). a.reply) answer);
    quiet = λ exception refused. (let bad : Truth true ≡ Refused exception = sym reads ∙ ap as_read refused in cc);
    looks = λ same. (let bad : true ≡ false = sym acts ∙ same in cc);
    rows = subst (IsOf (written tables rows) (next_after view.next.0 rows)) (sym (ap (λ (a : Answered). a.space) answer)) (subst (λ (n : ℕ). IsOf (written tables rows) n later) (sym next_is) rows_of);
    flags = λ k some. ap (λ (inodes : Inodes). flag_at inodes k) inodes_are ∙ flags_changed tables.inodes view.next.0 set.tree set.walk.down.bottom.0 old new set.walk.down.at.there.there refl refl k;
    few = let past = next_is in omega arith;
    ids = subst (AreIds tables view.next.0 (written tables rows) (next_after view.next.0 rows) space client asked) (sym answer)
        (λ numbering s number times answered given.
        subst (λ (n : ℕ). IsNumberedBy (numbering_after numbering space later (Did s client number asked times answered)) (written tables rows).inodes n later) (sym next_is)
        (ids_of numbering (Did s client number asked times answered) (still space later) given));
  })
