-- The rows found for a path are those along it, so quota rows that are counted anew with them are recounted.
use Rattle.std.proofs.Common.{◌≡◌, ℕ, Bool, true, false, List, [], ◌∷◌, reverse, Some, refl, sym, ap, subst, ◌∙◌, append-nil}
use Rattle.std.proofs.lemmas.Bool.{true≢false, false_from_ne_true}
use Rattle.std.proofs.lemmas.List.{reverse-reverse}
use Rattle.std.specs.List.{AllByRecursion}
use Rattle.hops_base.specs.declared.ids.InodeId.{InodeId}
use Rattle.hops_base.specs.declared.ids.Mode.{Mode}
use Rattle.hops_base.specs.declared.key.Key.{Key}
use Rattle.name_space.specs.Namespace.{Namespace, Path, is_within}
use Rattle.inode_table.specs.declared.inode.Inode.{Inode}
use Rattle.quota_table.specs.declared.quota.QuotaRow.{QuotaRow}
use Rattle.db_state.specs.Stored.{Tables}
use Rattle.db_state.specs.Spelled.{spelled, row_of}
use Rattle.db_state.specs.Stands.{Quotas, quota_of}
use Rattle.db_state.specs.Written.{written}
use Rattle.db_state.specs.declared.view.Place.{Place}
use Rattle.db_state.specs.QuotaWrites.{quota_writes, raised}
use Rattle.db_state.specs.QuotaWrites.{AreOf, is_written}
use Rattle.db_state.proofs.QuotaWriteLaws.{recounted_written, becomes_raised}
use Rattle.db_state.specs.Recounted.{is_along, Change, Becomes, IsRecounted}
use Rattle.db_state.proofs.CountLaws.{is_along-within}
use Rattle.db_state.specs.Recounted.{names_more}
use Rattle.inode_ops.specs.QuotaSteps.{quota_in, has_id, IsQuotaFound, AreQuotasFound}
use Rattle.inode_ops.proofs.CountLemmas.{written_found}
use Rattle.inode_ops.proofs.WalkLemmas.{found_above, found_within}
use Rattle.inode_ops.proofs.QuotaLemmas.{LocksQuota, seen_of}
use Rattle.inode_ops.proofs.PlaceLemmas.{IsSet}

module _ (tables : Tables) (next : ℕ) (space : Namespace) (locked : List (Key × Mode)) (seen : List (InodeId × QuotaRow)) (place : Place) (set : IsSet tables next space locked seen place) where
  -- a row found has the id where the path lies within
  has_within : (at : Path) (x : Inode) → row_of tables.inodes at ≡ Some x → has_id (set.walk.first ∷ set.walk.rows) x.id ≡ true → is_within at place.path ≡ true
  has_within at x there has =
      subst (λ (p : Path). is_within p place.path ≡ true) (reverse-reverse at)
      (found_within tables.inodes locked next set.tree place.path [] set.walk.first set.walk.rows place.missing (reverse at) x set.walk.at set.walk.leads set.walk.there.1 there has)

  not_within : (at : Path) (x : Inode) → row_of tables.inodes at ≡ Some x → has_id (set.walk.first ∷ set.walk.rows) x.id ≡ false → is_within at place.path ≡ false
  not_within at x there has = false_from_ne_true (is_within at place.path) (λ within. true≢false (sym
      (found_above tables.inodes locked next set.tree at place.path [] set.walk.first set.walk.rows place.missing x set.walk.at set.walk.leads set.walk.there.1 set.none within (ap (spelled tables.inodes) (append-nil (reverse at)) ∙ there)) ∙ has))

  -- a row is along the path exactly where a row found has its id
  row_along : (up : List (List ℕ)) (x : Inode) → spelled tables.inodes up ≡ Some x → is_along tables.inodes place.path x.id ≡ has_id (set.walk.first ∷ set.walk.rows) x.id
  row_along up x there =
      let at : row_of tables.inodes (reverse up) ≡ Some x = ap (spelled tables.inodes) (reverse-reverse up) ∙ there in
      is_along-within tables.inodes next set.tree (reverse up) x at place.path ∙ by_id at (has_id (set.walk.first ∷ set.walk.rows) x.id) refl
    where
      by_id : row_of tables.inodes (reverse up) ≡ Some x → (b : Bool) → has_id (set.walk.first ∷ set.walk.rows) x.id ≡ b → is_within (reverse up) place.path ≡ b
      by_id at true has = has_within (reverse up) x at has
      by_id at false has = not_within (reverse up) x at has

  -- so are the directories with a quota row
  pub quota_along : (id : InodeId) (quota : QuotaRow) → quota_of tables.quotas id ≡ Some quota → is_along tables.inodes place.path id ≡ has_id (set.walk.first ∷ set.walk.rows) id
  quota_along id quota e =
      let of = set.stands.rows id quota e in
      let way = set.tree.spelled of.at of.row of.there in
      subst (λ (i : InodeId). is_along tables.inodes place.path i ≡ has_id (set.walk.first ∷ set.walk.rows) i) of.is (row_along way.0 of.row way.1)

  module _ (locks : AllByRecursion (LocksQuota locked) (set.walk.first ∷ set.walk.rows)) (chosen : List (InodeId × QuotaRow)) (are : AreQuotasFound (set.walk.first ∷ set.walk.rows) seen [] chosen) where
    -- the quota rows read of the rows found are those that are there
    read_is : (id : InodeId) → has_id (set.walk.first ∷ set.walk.rows) id ≡ true → quota_in seen id ≡ quota_of tables.quotas id
    read_is = seen_of tables.inodes tables.quotas space set.stands locked seen set.sees (set.walk.first ∷ set.walk.rows) set.walk.there locks

    chosen_of : (rows : List (InodeId × QuotaRow)) → AllByRecursion (IsQuotaFound (set.walk.first ∷ set.walk.rows) seen) rows → AreOf tables.quotas rows
    chosen_of [] each = tt
    chosen_of (q ∷ rows) each = (sym (read_is q.0 each.0.0) ∙ each.0.1, chosen_of rows each.1)

    -- they are those of the ids along the path
    chosen_along : (id : InodeId) (quota : QuotaRow) → quota_of tables.quotas id ≡ Some quota → is_written chosen id ≡ is_along tables.inodes place.path id
    chosen_along id quota e = by_id (has_id (set.walk.first ∷ set.walk.rows) id) refl ∙ sym (quota_along id quota e)
      where
        by_id : (b : Bool) → has_id (set.walk.first ∷ set.walk.rows) id ≡ b → is_written chosen id ≡ has_id (set.walk.first ∷ set.walk.rows) id
        by_id true has = are.all id quota has (read_is id has ∙ e) refl ∙ sym has
        by_id false has = false_from_ne_true (is_written chosen id) (λ wrote. true≢false (sym (written_found (set.walk.first ∷ set.walk.rows) seen chosen id are.each wrote) ∙ has)) ∙ sym has

    -- so when they are written, and no other, the quota rows are recounted
    pub recounted_chosen : (change : Change) (make : QuotaRow → QuotaRow) (then : Tables) → then.quotas ≡ tables.quotas
        → ((id : InodeId) (quota : QuotaRow) → quota_of tables.quotas id ≡ Some quota → is_along tables.inodes place.path id ≡ true → Becomes change true quota (make quota))
        → IsRecounted tables.inodes place.path change tables.quotas (written then (quota_writes make chosen)).quotas
    recounted_chosen change make then same becomes =
        subst (λ (quotas : Quotas). IsRecounted tables.inodes place.path change tables.quotas (written (record { inodes = then.inodes; quotas = quotas }) (quota_writes make chosen)).quotas) (sym same)
        (recounted_written change make chosen (record { inodes = then.inodes; quotas = tables.quotas }) tables.inodes place.path (chosen_of chosen are.each) set.stands.keys chosen_along becomes)

    -- and raised by so many names they count these
    pub recounted_raised : (names : ℕ) (then : Tables) → then.quotas ≡ tables.quotas → IsRecounted tables.inodes place.path (names_more names) tables.quotas (written then (quota_writes (raised names 0) chosen)).quotas
    recounted_raised names then same = recounted_chosen (names_more names) (raised names 0) then same (λ id quota e along. becomes_raised names 0 quota)
