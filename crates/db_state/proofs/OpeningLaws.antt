-- The opening rows spell a tree, and stand for the opening namespace.
use Rattle.std.proofs.Common.{◌≡◌, ℕ, cond, List, [], ◌∷◌, reverse, Some, None, is_some, option_map, inl, inr, arith, refl, sym, ap, subst, ◌∙◌}
use Rattle.std.specs.FinMap as map
use Rattle.std.specs.List.{IsDistinct}
use Rattle.std.proofs.lemmas.List.{reverse-reverse}
use Rattle.hops_base.specs.declared.ids.InodeId.{InodeId}
use Rattle.hops_base.specs.declared.key.Key.{Key}
use Rattle.hops_base.specs.declared.key.Key.TheVariants as key
use Rattle.hops_base.specs.Key.{key_cmp, key_cmp_total, same_key, number_of, name_of}
use Rattle.hops_base.specs.Path.{same_path}
use Rattle.hops_base.proofs.Tells.{keys_tell, paths_tell}
use Rattle.name_space.specs.Namespace as space
use Rattle.name_space.specs.Namespace.{Path, entry_at}
use Rattle.inode_table.specs.declared.inode.Inode.{Inode}
use Rattle.quota_table.specs.declared.quota.QuotaRow.{QuotaRow}
use Rattle.db_state.specs.Stored.{root_key, root_row, opening_rows}
use Rattle.db_state.specs.Spelled.{spelled, child_of, FitsKind, IsTree}
use Rattle.db_state.specs.Stands.{quota_of, entry_of, Stands}

-- the only row is the root's
pub only_root : (k : Key) (row : Inode) → map.get opening_rows k ≡ Some row → (k ≡ root_key) × (row ≡ root_row)
only_root k row e =
    let got : cond (same_key k root_key) (Some root_row) (map.get (map.empty {X = Inode} {R = key_cmp}) k) ≡ Some row = sym (map.get-insert key_cmp_total map.empty root_key root_row k) ∙ e in
    elim (keys_tell k root_key) [
      | inl h ↦ (h.1, (let same = rw h.0 at got in cc))
      | inr h ↦ absurd (let bad : map.get (map.empty {X = Inode} {R = key_cmp}) k ≡ Some row = rw h.0 at got in let no = map.get-empty {X = Inode} key_cmp k in cc)
    ]

-- it is there
pub root_there : map.get opening_rows root_key ≡ Some root_row
root_there = map.get-insert key_cmp_total map.empty root_key root_row root_key ∙ (elim (keys_tell root_key root_key) [ inl h ↦ rw h.0 refl | inr h ↦ absurd (h.1 refl) ])

-- no other path has a row
pub no_other : (name : List ℕ) (up : List (List ℕ)) → spelled opening_rows (name ∷ up) ≡ None
no_other name [] =
    rw root_there (
    (elim (map.get opening_rows (key.Inode root_row.id name)) as (λ o. map.get opening_rows (key.Inode root_row.id name) ≡ o → o ≡ None) [
      | None ↦ λ e. refl
      | Some row ↦ λ e. absurd (let is = only_root (key.Inode root_row.id name) row e in let bad : 1 ≡ 0 = ap number_of is.0 in omega arith)
    ]) refl)
no_other name (m ∷ up) = ap (child_of opening_rows name) (no_other m up)

pub opening_tree : IsTree opening_rows 2
opening_tree = record {
  keys = λ k row e. let is = only_root k row e in (record { 0 = 0 }, Rattle.std.specs.Prelude.codes "root", is.0);
  apart = λ k l row twin e f same. let is = only_root k row e in let other = only_root l twin f in is.0 ∙ sym other.0;
  range = λ k row e. let is = only_root k row e in let one : row.id.0 ≡ 1 = ap (λ (r : Inode). r.id.0) is.1 in (omega arith, omega arith);
  dirs = λ k row e. subst FitsKind (sym (only_root k row e).1) (λ dir. (refl, refl));
  root = root_there;
  top = λ name row e. let is = only_root _ row e in ap name_of is.0;
  parents = λ parent name row e some. absurd (let is = only_root _ row e in some (ap number_of is.0));
  spelled = λ k row e. let is = only_root k row e in ([], root_there ∙ ap (λ (r : Inode). Some r) (sym is.1));
}

-- no quotas yet
no_quotas : (id : InodeId) → quota_of map.empty id ≡ None
no_quotas id = map.get-empty {X = QuotaRow} key_cmp (key.Quota id)

opening_entries : (up : List (List ℕ)) (path : Path) → reverse path ≡ up → entry_at space.opening path ≡ option_map (entry_of map.empty) (spelled opening_rows up)
opening_entries [] path e =
    let is : path ≡ [] = sym (reverse-reverse path) ∙ ap reverse e in
    rw (is, root_there, no_quotas root_row.id) refl
opening_entries (name ∷ up) path e =
    elim (paths_tell path []) [
      | inl h ↦ absurd (let bad : [] ≡ name ∷ up = ap reverse (sym h.1) ∙ e in cc)
      | inr h ↦ rw (no_other name up, h.0) refl
    ]

-- no paths are all different
none_apart : IsDistinct same_path []
unfolding IsDistinct
none_apart = tt

pub opening_stands : Stands opening_rows map.empty [] space.opening
opening_stands = record {
  entries = λ path. opening_entries (reverse path) path refl;
  once = λ path some. absurd (let bad = some in cc);
  apart = none_apart;
  keys = λ at quota e. absurd (let no = map.get-empty {X = QuotaRow} key_cmp at in cc);
  rows = λ id quota e. absurd (let no = no_quotas id in cc);
  marks = λ k row e. let is = only_root k row e in rw is.1 (sym (ap is_some (no_quotas root_row.id)));
}
