-- Laws of rows that stand for a namespace, as rows come.
use Rattle.std.proofs.Common.{◌≡◌, ℕ, ◌≤◌, ◌<◌, false, List, ◌∷◌, reverse, Some, None, IsSome, is_some, option_map, inl, inr, arith, refl, sym, ap, subst, ◌∙◌}
use Rattle.std.specs.Option.{option_or}
use Rattle.std.specs.FinMap as map
use Rattle.std.specs.FinMap.Entries.{find-put}
use Rattle.std.proofs.lemmas.List.{reverse-reverse}
use Rattle.hops_base.specs.declared.ids.InodeId.{InodeId}
use Rattle.hops_base.specs.declared.key.Key.TheVariants as key
use Rattle.hops_base.specs.Path.{path_cmp, path_cmp_total}
use Rattle.hops_base.proofs.Tells.{paths_tell}
use Rattle.name_space.specs.Namespace.{Namespace, Path, entry_at, with_entry}
use Rattle.inode_table.specs.declared.inode.Inode.{Inode}
use Rattle.db_state.specs.Spelled.{Inodes, row_of, spelled, IsTree}
use Rattle.db_state.specs.Stands.{Quotas, quota_of, entry_of, Stands}
use Rattle.db_state.proofs.PathLaws.{inserted, stays, old_or_new}

-- where a row stands, nothing was removed
pub not_removed : (inodes : Inodes) (quotas : Quotas) (removed space : Namespace) → Stands inodes quotas removed space → (path : Path) (row : Inode) → row_of inodes path ≡ Some row → entry_at removed path ≡ None
not_removed inodes quotas removed space stands path row here =
    (elim (entry_at removed path) as (λ o. entry_at removed path ≡ o → o ≡ None) [
      | None ↦ λ e. refl
      | Some entry ↦ λ e. absurd (let gone = stands.once path (ap is_some e) in cc)
    ]) refl

module _ (inodes : Inodes) (next : ℕ) (tree : IsTree inodes next) (quotas : Quotas) (removed space : Namespace) (stands : Stands inodes quotas removed space) where
  -- an id that no row has has no quota row
  pub no_quota : (id : InodeId) → next ≤ id.0 → quota_of quotas id ≡ None
  no_quota id free =
      (elim (quota_of quotas id) as (λ o. quota_of quotas id ≡ o → o ≡ None) [
        | None ↦ λ e. refl
        | Some quota ↦ λ e. absurd (
            let of = stands.rows id quota e in
            let range = tree.range of.at of.row of.there in
            let high : of.row.id.0 < next = range.1 in
            let is : of.row.id.0 ≡ id.0 = ap (λ (i : InodeId). i.0) of.is in
            omega arith)
      ]) refl

  module _ (dir : List (List ℕ)) (parent : Inode) (name : List ℕ) (new : Inode)
      (at : spelled inodes dir ≡ Some parent) (none : map.get inodes (key.Inode parent.id name) ≡ None) (free : next ≤ new.id.0)
      (plain : new.has_quota ≡ false) (unremoved : entry_at removed (reverse (name ∷ dir)) ≡ None) where
    entries_grown : (path : Path) → entry_at (with_entry space (reverse (name ∷ dir)) (entry_of quotas new)) path ≡ option_or (entry_at removed path) (option_map (entry_of quotas) (row_of (map.insert inodes (key.Inode parent.id name) new) path))
    entries_grown path =
        let put = find-put path_cmp path_cmp_total path (reverse (name ∷ dir)) (entry_of quotas new) space in
        let row = inserted inodes next tree dir parent name new at none free (reverse path) in
        elim (paths_tell path (reverse (name ∷ dir))) [
          | inl h ↦ elim (paths_tell (reverse path) (name ∷ dir)) [
            | inl g ↦ put ∙ (rw (h.0, row, g.0, h.1, unremoved) refl)
            | inr g ↦ absurd (g.1 (ap reverse h.1 ∙ reverse-reverse (name ∷ dir)))
          ]
          | inr h ↦ elim (paths_tell (reverse path) (name ∷ dir)) [
            | inl g ↦ absurd (h.1 (sym (reverse-reverse path) ∙ ap reverse g.1))
            | inr g ↦ put ∙ (rw (h.0, row, g.0) (stands.entries path))
          ]
        ]

    -- rows with a new one that has no quota stand for the namespace with its entry
    pub stands_grown : Stands (map.insert inodes (key.Inode parent.id name) new) quotas removed (with_entry space (reverse (name ∷ dir)) (entry_of quotas new))
    stands_grown = record {
      entries = entries_grown;
      once = λ path some. inserted inodes next tree dir parent name new at none free (reverse path) ∙ (elim (paths_tell (reverse path) (name ∷ dir)) [
        | inl g ↦ absurd (
            let here : path ≡ reverse (name ∷ dir) = sym (reverse-reverse path) ∙ ap reverse g.1 in
            let there : IsSome (entry_at removed (reverse (name ∷ dir))) = subst (λ (p : Path). IsSome (entry_at removed p)) here some in
            let bad = rw unremoved at there in
            cc)
        | inr g ↦ rw g.0 (stands.once path some)
      ]);
      apart = stands.apart;
      keys = stands.keys;
      rows = λ id quota e. let of = stands.rows id quota e in record { at = of.at; row = of.row; there = stays inodes next tree dir parent name new at none free of.at of.row of.there; is = of.is; dir = of.dir; limit = of.limit };
      marks = λ k x e. elim (old_or_new inodes next tree dir parent name new at none free k x e) [
        | inl h ↦ ap (λ (r : Inode). r.has_quota) h.1 ∙ plain ∙ sym (ap is_some (ap (λ (r : Inode). quota_of quotas r.id) h.1 ∙ no_quota new.id free))
        | inr h ↦ stands.marks k x h.1
      ];
    }
