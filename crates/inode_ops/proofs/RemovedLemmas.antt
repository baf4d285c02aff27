-- The rows once a row with none under it is removed with its quota row, and the quota rows above it count it no more.
use Rattle.std.proofs.Common.{◌≡◌, ◌≢◌, ℕ, ◌≤◌, Bool, true, false, not, ◌&&◌, cond, List, [], ◌∷◌, ◌++◌, map as list_map, reverse, Option, Some, None, is_some, option_map, arith, refl, sym, ap, subst, ◌∙◌, inl, inr}
use Rattle.std.proofs.lemmas.Bool.{true≢false}
use Rattle.std.proofs.lemmas.List.{reverse-reverse}
use Rattle.std.specs.FinMap as map
use Rattle.std.specs.FinMap.Entries as entries
use Rattle.std.specs.List.{filter}
use Rattle.hops_base.specs.declared.ids.InodeId.{InodeId}
use Rattle.hops_base.specs.declared.key.Key.{Key}
use Rattle.hops_base.specs.declared.key.Key.TheVariants as key
use Rattle.hops_base.specs.Key.{key_cmp, key_cmp_total, same_key}
use Rattle.hops_base.proofs.Tells.{key_cmp_exact}
use Rattle.hops_base.specs.Path.{path_cmp, path_cmp_total, same_path}
use Rattle.hops_base.proofs.Tells.{keys_tell, paths_tell}
use Rattle.name_space.specs.declared.entry.Entry.{Entry}
use Rattle.name_space.specs.Cut.{is_among}
use Rattle.name_space.specs.Namespace.{Namespace, Path, IsNamespace, entry_at, exists, is_within, without, bytes_of}
use Rattle.name_space.proofs.NamespaceLaws.{Rises-without}
use Rattle.name_space.proofs.PrefixLaws.{among-filter}
use Rattle.name_space.proofs.RisingLaws.{same_rising, is_rising-keys}
use Rattle.name_space.proofs.UsedLaws.{used_names-without, used_bytes-without}
use Rattle.commit_log.specs.declared.note.Note.{Note}
use Rattle.commit_log.specs.Ids.{Numbering, id_at, with_new, move_in, moved_ids, unnumbered, numbering_after}
use Rattle.inode_table.specs.declared.inode.Inode.{Inode}
use Rattle.quota_table.specs.declared.quota.QuotaRow.{QuotaRow}
use Rattle.db_state.specs.Stored.{Tables, root_key}
use Rattle.db_state.specs.Spelled.{Inodes, spelled, row_of, IsTree, AreGiven}
use Rattle.db_state.specs.Stands.{Quotas, quota_of, entry_of, Stands}
use Rattle.db_state.specs.Counts.{Counts}
use Rattle.db_state.specs.Consistent.{FlagsStay}
use Rattle.db_state.specs.Written.{written}
use Rattle.db_state.proofs.RemoveLaws.{not_root_key, tree_removed, flags_removed, given_removed, stands_removed}
use Rattle.db_state.proofs.UnderLaws.{none_under_leaf, entry_at-without_leaf, used_names-leaf, used_bytes-leaf}
use Rattle.db_state.specs.Recounted.{is_along, IsRecounted}
use Rattle.db_state.proofs.CountLaws.{is_along-within, stands_recounted, counts_removed}
use Rattle.db_state.specs.Recounted.{one_gone}
use Rattle.db_state.specs.QuotaWrites.{quota_writes, lowered}
use Rattle.db_state.specs.QuotaWrites.{is_written, AreOf}
use Rattle.db_state.proofs.QuotaWriteLaws.{inodes_written, recounted_written, becomes_lowered}
use Rattle.db_state.specs.CallsTable.{IsOf, IsNumberedBy}
use Rattle.inode_ops.specs.DeleteSteps.{removals}

-- ---- the writes that remove

-- a key that isn't there is removed in vain
pub remove_none : {X : Type 0} (m : map.FinMap key_cmp X) (k : Key) → map.get m k ≡ None → map.remove m k ≡ m
remove_none m k none = map.same_map key_cmp_total key_cmp_exact (map.remove m k) m (λ q. map.get-remove key_cmp_total m k q ∙ (elim (keys_tell q k) [
  | inl h ↦ rw h.0 (sym none ∙ ap (map.get m) (sym h.1))
  | inr h ↦ rw h.0 refl
]))

-- the row of a key is gone, and the quota row of its id, and no other
pub record IsLeft (tables after : Tables) (at : Key) (id : InodeId) : Type 0 where
  pub inodes_are : after.inodes ≡ map.remove tables.inodes at
  pub under_quotas : (k : Key) (quota : QuotaRow) → map.get after.quotas k ≡ Some quota → (other : InodeId) × (k ≡ key.Quota other)
  pub gone : quota_of after.quotas id ≡ None
  pub others : (other : InodeId) → other ≢ id → quota_of after.quotas other ≡ quota_of tables.quotas other

module _ (tables : Tables) (next : ℕ) (tree : IsTree tables.inodes next) (space : Namespace) (stands : Stands tables.inodes tables.quotas [] space) (at : Key) (old : Inode) (there : map.get tables.inodes at ≡ Some old) where
  -- no inode row is under a quota key, nor a quota row under that of an inode
  no_inode : (id : InodeId) → map.get tables.inodes (key.Quota id) ≡ None
  no_inode id = (elim (map.get tables.inodes (key.Quota id)) as (λ o. map.get tables.inodes (key.Quota id) ≡ o → o ≡ None) [
    | None ↦ λ e. refl
    | Some row ↦ λ e. absurd (let own = tree.keys (key.Quota id) row e in let bad : key.Quota id ≡ key.Inode own.0 own.1 = own.2 in cc)
  ]) refl

  no_quota : map.get tables.quotas at ≡ None
  no_quota = (elim (map.get tables.quotas at) as (λ o. map.get tables.quotas at ≡ o → o ≡ None) [
    | None ↦ λ e. refl
    | Some quota ↦ λ e. absurd (
        let own = tree.keys at old there in
        let of = stands.keys at quota e in
        let bad : key.Quota of.0 ≡ key.Inode own.0 own.1 = sym of.1 ∙ own.2 in
        cc)
  ]) refl

  -- a quota key isn't that of the row
  pub not_own_key : (id : InodeId) → same_key (key.Quota id) at ≡ false
  not_own_key id = elim (keys_tell (key.Quota id) at) [
    | inl h ↦ absurd (let own = tree.keys at old there in let bad : key.Quota id ≡ key.Inode own.0 own.1 = h.1 ∙ own.2 in cc)
    | inr h ↦ h.0
  ]

  -- a row that has no quota row leaves all of them
  plain_left : old.has_quota ≡ false → IsLeft tables (record { inodes = map.remove tables.inodes at; quotas = map.remove tables.quotas at }) at old.id
  plain_left plain = record {
    inodes_are = refl;
    under_quotas = λ k quota e. stands.keys k quota (ap (λ (m : Quotas). map.get m k) (sym same) ∙ e);
    gone = ap (λ (m : Quotas). quota_of m old.id) same ∙ none;
    others = λ other differ. ap (λ (m : Quotas). quota_of m other) same;
  }
    where
      same : map.remove tables.quotas at ≡ tables.quotas
      same = remove_none tables.quotas at no_quota

      none : quota_of tables.quotas old.id ≡ None
      none = (elim (quota_of tables.quotas old.id) as (λ o. quota_of tables.quotas old.id ≡ o → o ≡ None) [
        | None ↦ λ e. refl
        | Some quota ↦ λ e. absurd (true≢false (sym (ap is_some e) ∙ sym (stands.marks at old there) ∙ plain))
      ]) refl

  -- one that has one takes it along
  quota_left : IsLeft tables (record { inodes = map.remove (map.remove tables.inodes at) (key.Quota old.id); quotas = map.remove (map.remove tables.quotas at) (key.Quota old.id) }) at old.id
  quota_left = record {
    inodes_are = remove_none (map.remove tables.inodes at) (key.Quota old.id) (map.get-remove key_cmp_total tables.inodes at (key.Quota old.id) ∙ rw (not_own_key old.id) (no_inode old.id));
    under_quotas = λ k quota e.
        let got : cond (same_key k (key.Quota old.id)) None (map.get tables.quotas k) ≡ Some quota = sym (at_key k) ∙ e in
        elim (keys_tell k (key.Quota old.id)) [
          | inl h ↦ absurd (let bad = rw h.0 at got in cc)
          | inr h ↦ let same = rw h.0 at got in stands.keys k quota same
        ];
    gone = at_key (key.Quota old.id) ∙ (elim (keys_tell (key.Quota old.id) (key.Quota old.id)) [ inl h ↦ rw h.0 refl | inr h ↦ absurd (h.1 refl) ]);
    others = λ other differ. at_key (key.Quota other) ∙ (elim (keys_tell (key.Quota other) (key.Quota old.id)) [
      | inl h ↦ absurd (let same = h.1 in differ cc)
      | inr h ↦ rw h.0 refl
    ]);
  }
    where
      at_key : (k : Key) → map.get (map.remove (map.remove tables.quotas at) (key.Quota old.id)) k ≡ cond (same_key k (key.Quota old.id)) None (map.get tables.quotas k)
      at_key k = ap (λ (m : Quotas). map.get (map.remove m (key.Quota old.id)) k) (remove_none tables.quotas at no_quota) ∙ map.get-remove key_cmp_total tables.quotas (key.Quota old.id) k

  -- what the removals leave
  pub left_of : IsLeft tables (written tables (removals (at, old))) at old.id
  left_of = by_mark old.has_quota refl
    where
      by_mark : (b : Bool) → old.has_quota ≡ b → IsLeft tables (written tables (removals (at, old))) at old.id
      by_mark true e = rw e quota_left
      by_mark false e = rw e (plain_left e)

-- ---- ids

-- the numbering without the paths that a namespace hasn't
abbrev pub fewer_ids : Numbering → Namespace → Numbering
fewer_ids numbering new = record { ids = filter (λ (p : Path × ℕ). exists new p.0) numbering.ids; next = numbering.next }

id_at-fewer : (numbering : Numbering) (new : Namespace) (q : Path) → id_at (fewer_ids numbering new) q ≡ cond (exists new q) (id_at numbering q) None
id_at-fewer numbering new q = entries.find-where_key path_cmp (exists new) q (λ x tied. ap is_some (entries.find_tied path_cmp path_cmp_total q x tied new)) numbering.ids

-- where a note moves nothing and only takes paths away, these lose their ids, and none is given
pub numbering-fewer : (numbering : Numbering) (old new : Namespace) (note : Note) → move_in old new note ≡ None → ((q : Path) → is_some (id_at numbering q) ≡ exists old q)
    → entries.is_sorted path_cmp new ≡ true → ((q : Path) → exists new q ≡ true → exists old q ≡ true) → numbering_after numbering old new note ≡ fewer_ids numbering new
numbering-fewer numbering old new note still numbered rises fewer =
    ap (λ (m : Option (Path × Path)). with_new (record { ids = filter (λ (p : Path × ℕ). exists new p.0) (moved_ids m numbering.ids); next = numbering.next }) (unnumbered (moved_ids m numbering.ids) new)) still
    ∙ ap (with_new (fewer_ids numbering new)) (same_rising (unnumbered numbering.ids new) []
    (is_rising-keys (λ (p : Path). not (is_some (entries.find path_cmp p numbering.ids))) new rises) refl
    (λ q. among-filter (λ (p : Path). not (is_some (entries.find path_cmp p numbering.ids))) (list_map (λ (e : Path × Entry). e.0) new) q
    ∙ ap (λ (b : Bool). not b && is_among (list_map (λ (e : Path × Entry). e.0) new) q) (numbered q)
    ∙ ap (λ (b : Bool). not (exists old q) && b) (sym (entries.is_some-find path_cmp q new))
    ∙ none_new (exists old q) (exists new q) (fewer q)))
  where
    none_new : (a b : Bool) → (b ≡ true → a ≡ true) → (not a && b) ≡ false
    none_new true b more = refl
    none_new false true more = sym (more refl)
    none_new false false more = refl

-- ---- the rows then

module _ (tables : Tables) (next : ℕ) (tree : IsTree tables.inodes next) (space : Namespace) (names : IsNamespace space) (stands : Stands tables.inodes tables.quotas [] space) (counts : Counts tables.inodes tables.quotas space)
    (at : Key) (old : Inode) (there : map.get tables.inodes at ≡ Some old) (path : Path) (some : path ≢ []) (here : row_of tables.inodes path ≡ Some old)
    (leaf : (name : List ℕ) → entry_at space (path ++ name ∷ []) ≡ None) where
  under : (name : List ℕ) → map.get tables.inodes (key.Inode old.id name) ≡ None
  under = none_under_leaf tables.inodes tables.quotas space stands path old here leaf

  below : at ≢ root_key
  below = not_root_key tables.inodes next tree path at old some here there

  found : entry_at space path ≡ Some (entry_of tables.quotas old)
  found = stands.entries path ∙ ap (option_map (entry_of tables.quotas)) here

  left_entries : (q : Path) → entry_at (without space path) q ≡ cond (same_path q path) None (entry_at space q)
  left_entries = entry_at-without_leaf space path leaf names

  -- a quota row above the path counts what stands there
  enough : (id : InodeId) (quota : QuotaRow) → quota_of tables.quotas id ≡ Some quota → is_along tables.inodes path id ≡ true → (1 ≤ quota.used_names) × (bytes_of (entry_of tables.quotas old) ≤ quota.used_bytes)
  enough id quota is along =
      let of = stands.rows id quota is in
      let way = tree.spelled of.at of.row of.there in
      let top : row_of tables.inodes (reverse way.0) ≡ Some of.row = ap (spelled tables.inodes) (reverse-reverse way.0) ∙ way.1 in
      let counted = counts (reverse way.0) of.row quota top (ap (quota_of tables.quotas) of.is ∙ is) in
      let above : is_within (reverse way.0) path ≡ true = sym (is_along-within tables.inodes next tree (reverse way.0) of.row top path) ∙ ap (is_along tables.inodes path) of.is ∙ along in
      let some_names = used_names-without space path (reverse way.0) above in
      let some_bytes = used_bytes-without space path (reverse way.0) above in
      let name = used_names-leaf space path leaf names (entry_of tables.quotas old) found in
      let own = used_bytes-leaf space path leaf names (entry_of tables.quotas old) found in
      let is_names = counted.0 in
      let is_bytes = counted.1 in
      (omega arith, omega arith)

  module _ (after : Tables) (left : IsLeft tables after at old.id) where
    -- a quota row that is left was there
    pub was_there : (id : InodeId) (quota : QuotaRow) → quota_of after.quotas id ≡ Some quota → (id ≢ old.id) × (quota_of tables.quotas id ≡ Some quota)
    was_there id quota e =
        let differ : id ≢ old.id = (λ same. let bad : None ≡ Some quota = sym left.gone ∙ ap (quota_of after.quotas) (sym same) ∙ e in cc) in
        (differ, sym (left.others id differ) ∙ e)

    module _ (quotas : List (InodeId × QuotaRow)) (are : AreOf after.quotas quotas) (along : (id : InodeId) (quota : QuotaRow) → quota_of after.quotas id ≡ Some quota → is_written quotas id ≡ is_along tables.inodes path id) where
      recounted : IsRecounted tables.inodes path (one_gone (entry_of tables.quotas old)) after.quotas (written after (quota_writes (lowered 1 (bytes_of (entry_of tables.quotas old))) quotas)).quotas
      recounted = recounted_written (one_gone (entry_of tables.quotas old)) (lowered 1 (bytes_of (entry_of tables.quotas old))) quotas after tables.inodes path are left.under_quotas along (λ id quota e is.
          let has = enough id quota (was_there id quota e).1 is in
          becomes_lowered 1 (bytes_of (entry_of tables.quotas old)) quota has.0 has.1)

      inodes_then : (written after (quota_writes (lowered 1 (bytes_of (entry_of tables.quotas old))) quotas)).inodes ≡ map.remove tables.inodes at
      inodes_then = inodes_written (lowered 1 (bytes_of (entry_of tables.quotas old))) quotas after ∙ left.inodes_are

      -- they stand for the namespace without the path, and count it
      pub rows_removed : IsOf (written after (quota_writes (lowered 1 (bytes_of (entry_of tables.quotas old))) quotas)) next (without space path)
      rows_removed = record {
        tree = subst (λ (i : Inodes). IsTree i next) (sym inodes_then) (tree_removed tables.inodes next tree at old there under below);
        stands = subst (λ (i : Inodes). Stands i (written after (quota_writes (lowered 1 (bytes_of (entry_of tables.quotas old))) quotas)).quotas [] (without space path)) (sym inodes_then)
            (stands_recounted tables.inodes path (one_gone (entry_of tables.quotas old)) after.quotas (written after (quota_writes (lowered 1 (bytes_of (entry_of tables.quotas old))) quotas)).quotas recounted (map.remove tables.inodes at) [] (without space path)
            (stands_removed tables.inodes next tree at old there under below path here tables.quotas [] space stands after.quotas left.under_quotas left.gone left.others (without space path) left_entries));
        counts = subst (λ (i : Inodes). Counts i (written after (quota_writes (lowered 1 (bytes_of (entry_of tables.quotas old))) quotas)).quotas (without space path)) (sym inodes_then)
            (counts_removed tables.inodes next tree at old there under below path here tables.quotas after.quotas (written after (quota_writes (lowered 1 (bytes_of (entry_of tables.quotas old))) quotas)).quotas [] space stands names counts (entry_of tables.quotas old) found leaf
            (λ id quota e. (was_there id quota e).1) recounted);
      }

      pub flags_then : FlagsStay tables.inodes (written after (quota_writes (lowered 1 (bytes_of (entry_of tables.quotas old))) quotas)).inodes
      flags_then = subst (FlagsStay tables.inodes) (sym inodes_then) (flags_removed tables.inodes next tree at old there under below)

      -- and have the ids that the history gives
      pub ids_removed : (numbering : Numbering) (note : Note) → move_in space (without space path) note ≡ None → IsNumberedBy numbering tables.inodes next space
          → IsNumberedBy (numbering_after numbering space (without space path) note) (written after (quota_writes (lowered 1 (bytes_of (entry_of tables.quotas old))) quotas)).inodes next (without space path)
      ids_removed numbering note still given = subst (λ (n : Numbering). IsNumberedBy n (written after (quota_writes (lowered 1 (bytes_of (entry_of tables.quotas old))) quotas)).inodes next (without space path))
          (sym (numbering-fewer numbering space (without space path) note still given.all (Rises-without space path names.rises) fewer)) (record {
            all = λ q. ap is_some (id_at-fewer numbering (without space path) q) ∙ kept (exists (without space path) q) (id_at numbering q) (exists space q) (given.all q) (fewer q);
            given = subst (λ (i : Inodes). AreGiven i (fewer_ids numbering (without space path))) (sym inodes_then)
                (given_removed tables.inodes next tree at old there under below path here numbering (fewer_ids numbering (without space path)) given.given (λ q row is differ.
                id_at-fewer numbering (without space path) q ∙ ap (λ (b : Bool). cond b (id_at numbering q) None) (stays q row is differ)));
            least = given.least;
          })
        where
          fewer : (q : Path) → exists (without space path) q ≡ true → exists space q ≡ true
          fewer q is = by_test (same_path q path) (entry_at space q) (sym (ap is_some (left_entries q)) ∙ is)
            where
              by_test : (b : Bool) (o : Option Entry) → is_some (cond b None o) ≡ true → is_some o ≡ true
              by_test true o e = absurd (true≢false (sym e))
              by_test false o e = e

          kept : (b : Bool) (o : Option ℕ) (c : Bool) → is_some o ≡ c → (b ≡ true → c ≡ true) → is_some (cond b o None) ≡ b
          kept true o c e more = e ∙ more refl
          kept false o c e more = refl

          stays : (q : Path) (row : Inode) → row_of tables.inodes q ≡ Some row → q ≢ path → exists (without space path) q ≡ true
          stays q row is differ =
              ap is_some (left_entries q) ∙ (elim (paths_tell q path) [
                | inl h ↦ absurd (differ h.1)
                | inr h ↦ rw h.0 (ap is_some (stands.entries q ∙ ap (option_map (entry_of tables.quotas)) is))
              ])
