-- Laws of rows of which one gets, changes or loses its quota row.
use Rattle.std.proofs.Common.{◌≡◌, ◌≢◌, ◌⊎◌, ℕ, ◌+◌, Bool, true, false, ◌==◌, cond, reverse, Option, Some, None, IsSome, is_some, option_map, inl, inr, arith, refl, sym, ap, ◌∙◌, eqb-true}
use Rattle.std.specs.FinMap as map
use Rattle.std.specs.FinMap.Entries.{find-put}
use Rattle.std.specs.Option.{option_or}
use Rattle.std.proofs.lemmas.List.{reverse-reverse}
use Rattle.hops_base.specs.declared.ids.InodeId.{InodeId}
use Rattle.hops_base.specs.declared.key.Key.{Key}
use Rattle.hops_base.specs.declared.key.Key.TheVariants as key
use Rattle.hops_base.specs.Key.{key_cmp_total, same_key, number_of}
use Rattle.hops_base.specs.Path.{path_cmp, path_cmp_total}
use Rattle.hops_base.proofs.Tells.{keys_tell, paths_tell}
use Rattle.name_space.specs.declared.entry.Entry.{Entry}
use Rattle.name_space.specs.Namespace.{Namespace, Path, entry_at, is_within, with_entry, bytes_of, used_names, used_bytes}
use Rattle.name_space.specs.Namespace.{Rises}
use Rattle.name_space.proofs.UsedLaws.{used_names-with_old, used_bytes-with_old}
use Rattle.inode_table.specs.declared.inode.Inode.{Inode}
use Rattle.inode_table.specs.declared.inode.Kind.TheVariants.{Dir}
use Rattle.quota_table.specs.declared.quota.QuotaRow.{QuotaRow}
use Rattle.db_state.specs.Spelled.{Inodes, row_of, IsTree}
use Rattle.db_state.specs.Stands.{Quotas, quota_of, entry_of_kind, entry_of, Stands}
use Rattle.db_state.specs.Counts.{Counts}
use Rattle.db_state.proofs.PathLaws.{same_id, injective}
use Rattle.db_state.proofs.StandLaws.{not_removed}
use Rattle.db_state.proofs.ChangeLaws.{swapped, swapped-id, found_before, changed_spelled, changed_key, row_of_changed}
use Rattle.db_state.specs.Requoted.{HasLimit, IsRequoted}

-- ids are one or differ
one_id : (a b : InodeId) → (a ≡ b) ⊎ (a ≢ b)
one_id a b =
    (elim (a.0 == b.0) as (λ t. (a.0 == b.0) ≡ t → (a ≡ b) ⊎ (a ≢ b)) [
      | true ↦ λ e. inl (same_id a b (eqb-true a.0 b.0 e))
      | false ↦ λ e. inr (λ same. let itself : (a.0 == b.0) ≡ true = Rattle.std.proofs.Common.eq-eqb a.0 b.0 (ap (λ (i : InodeId). i.0) same) in let bad = sym e ∙ itself in cc)
    ]) refl

module _ (inodes : Inodes) (next : ℕ) (tree : IsTree inodes next) (at : Key) (old new : Inode) (there : map.get inodes at ≡ Some old) (ids : new.id ≡ old.id) (path : Path) (here : row_of inodes path ≡ Some old) where
  -- a row of another path has another id
  apart_from : (q : Path) (row : Inode) → row_of inodes q ≡ Some row → q ≢ path → row.id ≢ old.id
  apart_from q row e differ same =
      let ups : reverse q ≡ reverse path = injective inodes next tree (reverse q) (reverse path) row old e here same in
      differ (sym (reverse-reverse q) ∙ ap reverse ups ∙ reverse-reverse path)

  module _ (quotas others : Quotas) (requoted : IsRequoted quotas others old.id) where
    same_entry : (q : Path) (o : Option Inode) → row_of inodes q ≡ o → q ≢ path → option_map (entry_of quotas) o ≡ option_map (entry_of others) o
    same_entry q None e differ = refl
    same_entry q (Some row) e differ = ap (λ (quota : Option QuotaRow). Some (entry_of_kind row.kind row quota)) (sym (requoted.same row.id (apart_from q row e differ)))

    -- rows of which one changed stand for the namespace with its entry, where its quota row changed too and it says so
    pub stands_requoted : (removed space : Namespace) → Stands inodes quotas removed space → new.kind ≡ Dir → new.has_quota ≡ is_some (quota_of others old.id) → ((quota : QuotaRow) → quota_of others old.id ≡ Some quota → HasLimit quota)
        → Stands (map.insert inodes at new) others removed (with_entry space path (entry_of others new))
    stands_requoted removed space stands dir mark limits =
        let unremoved = not_removed inodes quotas removed space stands path old here in
        record {
          entries = λ q. find-put path_cmp path_cmp_total q path (entry_of others new) space ∙ (elim (paths_tell q path) [
            | inl h ↦ let row = row_of_changed inodes next tree at old new there ids path here q in rw (row, h.0, h.1, unremoved) refl
            | inr h ↦ let row = row_of_changed inodes next tree at old new there ids path here q in rw (row, h.0) (stands.entries q ∙ ap (option_or (entry_at removed q)) (same_entry q (row_of inodes q) refl h.1))
          ]);
          once = λ q some. changed_spelled inodes next tree at old new there ids (reverse q) ∙ ap (option_map (swapped new)) (stands.once q some);
          apart = stands.apart;
          keys = requoted.keys;
          rows = λ id quota e. elim (one_id id old.id) [
            | inl is ↦ record {
              at = at;
              row = new;
              there = map.get-insert key_cmp_total inodes at new at ∙ (elim (keys_tell at at) [ inl h ↦ rw h.0 refl | inr h ↦ absurd (h.1 refl) ]);
              is = ids ∙ sym is;
              dir = dir;
              limit = limits quota (ap (quota_of others) (sym is) ∙ e);
            }
            | inr differ ↦ let of = stands.rows id quota (sym (requoted.same id differ) ∙ e) in record {
              at = of.at;
              row = of.row;
              there = map.get-insert key_cmp_total inodes at new of.at ∙ (elim (keys_tell of.at at) [
                | inl h ↦ absurd (
                    let row : Some of.row ≡ Some old = sym of.there ∙ ap (map.get inodes) h.1 ∙ there in
                    let same : of.row ≡ old = cc in
                    differ (sym of.is ∙ ap (λ (r : Inode). r.id) same))
                | inr h ↦ rw h.0 of.there
              ]);
              is = of.is;
              dir = of.dir;
              limit = of.limit;
            }
          ];
          marks = λ k x e. elim (changed_key inodes next tree at old new there ids k x e) [
            | inl h ↦ ap (λ (r : Inode). r.has_quota) h.1 ∙ mark ∙ ap (λ (i : InodeId). is_some (quota_of others i)) (sym (ap (λ (r : Inode). r.id) h.1 ∙ ids))
            | inr h ↦ stands.marks k x h.1 ∙ ap is_some (sym (requoted.same x.id (λ same. h.0 (tree.apart k at x old h.1 there same))))
          ];
        }

    -- and they count what is used, where the changed one does
    pub counts_requoted : (space : Namespace) → Rises space → Counts inodes quotas space → (was now : Entry) → entry_at space path ≡ Some was → bytes_of was ≡ bytes_of now
        → ((quota : QuotaRow) → quota_of others old.id ≡ Some quota → (quota.used_names ≡ used_names space path) × (quota.used_bytes ≡ used_bytes space path))
        → Counts (map.insert inodes at new) others (with_entry space path now)
    counts_requoted space rises counts was now found bytes own top row quota e q =
        let before = found_before new (row_of inodes top) row (sym (changed_spelled inodes next tree at old new there ids (reverse top)) ∙ e) in
        let same : before.0.id ≡ row.id = sym (swapped-id new before.0) ∙ ap (λ (r : Inode). r.id) before.2 in
        let names = used_names-with_old space rises path now top was found in
        let both = used_bytes-with_old space rises path now top was found in
        let counted = counts_before top before.0 quota before.1 (ap (quota_of others) same ∙ q) in
        (counted.0 ∙ sym names, counted.1 ∙ sym (less (used_bytes (with_entry space path now) top) (used_bytes space top) (is_within top path) both))
      where
        less : (a b : ℕ) (w : Bool) → a + cond w (bytes_of was) 0 ≡ b + cond w (bytes_of now) 0 → a ≡ b
        less a b true e = omega arith
        less a b false e = omega arith

        counts_before : (top : Path) (row : Inode) (quota : QuotaRow) → row_of inodes top ≡ Some row → quota_of others row.id ≡ Some quota → (quota.used_names ≡ used_names space top) × (quota.used_bytes ≡ used_bytes space top)
        counts_before top row quota e q = elim (paths_tell top path) [
          | inl h ↦
              let one : Some row ≡ Some old = sym e ∙ ap (row_of inodes) h.1 ∙ here in
              let is : row ≡ old = cc in
              let counted = own quota (ap (λ (r : Inode). quota_of others r.id) (sym is) ∙ q) in
              (counted.0 ∙ ap (used_names space) (sym h.1), counted.1 ∙ ap (used_bytes space) (sym h.1))
          | inr h ↦ counts top row quota e (sym (requoted.same row.id (apart_from top row e h.1)) ∙ q)
        ]

-- with a quota row put for an id the others stay
pub requoted_put : (quotas : Quotas) (id : InodeId) (new : QuotaRow) → ((k : Key) (quota : QuotaRow) → map.get quotas k ≡ Some quota → (other : InodeId) × (k ≡ key.Quota other)) → IsRequoted quotas (map.insert quotas (key.Quota id) new) id
requoted_put quotas id new keys = record {
  keys = λ k quota e.
      let got : cond (same_key k (key.Quota id)) (Some new) (map.get quotas k) ≡ Some quota = sym (map.get-insert key_cmp_total quotas (key.Quota id) new k) ∙ e in
      elim (keys_tell k (key.Quota id)) [
        | inl h ↦ (id, h.1)
        | inr h ↦ let same = rw h.0 at got in keys k quota same
      ];
  same = λ other differ. map.get-insert key_cmp_total quotas (key.Quota id) new (key.Quota other) ∙ (elim (keys_tell (key.Quota other) (key.Quota id)) [
    | inl h ↦ absurd (differ (same_id other id (ap number_of h.1)))
    | inr h ↦ rw h.0 refl
  ]);
}

-- and with that of an id taken away
pub requoted_removed : (quotas : Quotas) (id : InodeId) → ((k : Key) (quota : QuotaRow) → map.get quotas k ≡ Some quota → (other : InodeId) × (k ≡ key.Quota other)) → IsRequoted quotas (map.remove quotas (key.Quota id)) id
requoted_removed quotas id keys = record {
  keys = λ k quota e.
      let got : cond (same_key k (key.Quota id)) None (map.get quotas k) ≡ Some quota = sym (map.get-remove key_cmp_total quotas (key.Quota id) k) ∙ e in
      elim (keys_tell k (key.Quota id)) [
        | inl h ↦ absurd (let bad = rw h.0 at got in cc)
        | inr h ↦ let same = rw h.0 at got in keys k quota same
      ];
  same = λ other differ. map.get-remove key_cmp_total quotas (key.Quota id) (key.Quota other) ∙ (elim (keys_tell (key.Quota other) (key.Quota id)) [
    | inl h ↦ absurd (differ (same_id other id (ap number_of h.1)))
    | inr h ↦ rw h.0 refl
  ]);
}
