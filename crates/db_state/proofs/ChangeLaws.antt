-- Laws of rows of which one changes: another of the same id and kind takes its place under its key.
use Rattle.std.proofs.Common.{◌≡◌, ◌≢◌, ℕ, ◌≤◌, ◌<◌, true, false, ◌==◌, cond, List, [], ◌∷◌, reverse, Option, Some, None, is_some, option_map, option_and_then, ◌⊎◌, inl, inr, refl, sym, ap, subst, ◌∙◌, eqb-true, eq-eqb}
use Rattle.std.specs.FinMap as map
use Rattle.std.specs.FinMap.Entries.{find-put}
use Rattle.std.proofs.lemmas.List.{reverse-reverse}
use Rattle.hops_base.specs.declared.ids.InodeId.{InodeId}
use Rattle.hops_base.specs.declared.key.Key.{Key}
use Rattle.hops_base.specs.declared.key.Key.TheVariants as key
use Rattle.hops_base.specs.Key.{key_cmp_total, same_key}
use Rattle.hops_base.specs.Path.{path_cmp, path_cmp_total, same_path}
use Rattle.hops_base.proofs.Tells.{keys_tell, paths_tell}
use Rattle.name_space.specs.Namespace.{Namespace, Path, with_entry}
use Rattle.inode_table.specs.declared.inode.Inode.{Inode}
use Rattle.commit_log.specs.Ids.{Numbering}
use Rattle.db_state.specs.Stored.{root_key}
use Rattle.db_state.specs.Spelled.{Inodes, child_of, spelled, row_of, FitsKind, IsTree, AreGiven}
use Rattle.db_state.specs.Stands.{Quotas, quota_of, entry_of, Stands}
use Rattle.db_state.specs.Consistent.{flag_at}
use Rattle.db_state.proofs.FlagLaws.{flags_with}
use Rattle.db_state.proofs.PathLaws.{same_id, injective}
use Rattle.db_state.proofs.StandLaws.{not_removed}

-- the new row in place of that with its id
abbrev pub swapped : Inode → Inode → Inode
swapped new row = cond (row.id.0 == new.id.0) new row

-- a row of that id is replaced
pub swapped-same : (new row : Inode) → row.id ≡ new.id → swapped new row ≡ new
swapped-same new row same = ap (λ b. cond b new row) (eq-eqb row.id.0 new.id.0 (ap (λ (i : InodeId). i.0) same))

-- a row of another id stays
pub swapped-other : (new row : Inode) → row.id ≢ new.id → swapped new row ≡ row
swapped-other new row differ =
    (elim (row.id.0 == new.id.0) as (λ b. (row.id.0 == new.id.0) ≡ b → cond b new row ≡ row) [
      | true ↦ λ e. absurd (differ (same_id row.id new.id (eqb-true row.id.0 new.id.0 e)))
      | false ↦ λ e. refl
    ]) refl

-- the ids stay
pub swapped-id : (new row : Inode) → (swapped new row).id ≡ row.id
swapped-id new row =
    (elim (row.id.0 == new.id.0) as (λ b. (row.id.0 == new.id.0) ≡ b → (cond b new row).id ≡ row.id) [
      | true ↦ λ e. sym (same_id row.id new.id (eqb-true row.id.0 new.id.0 e))
      | false ↦ λ e. refl
    ]) refl

-- a path is one exactly where it is one from the other end
pub same_reversed : (a b : Path) → same_path (reverse a) (reverse b) ≡ same_path a b
same_reversed a b = elim (paths_tell a b) [
  | inl h ↦ elim (paths_tell (reverse a) (reverse b)) [ inl g ↦ g.0 ∙ sym h.0 | inr g ↦ absurd (g.1 (ap reverse h.1)) ]
  | inr h ↦ elim (paths_tell (reverse a) (reverse b)) [ inl g ↦ absurd (h.1 (sym (reverse-reverse a) ∙ ap reverse g.1 ∙ reverse-reverse b)) | inr g ↦ g.0 ∙ sym h.0 ]
]

-- what is found in an option once it was swapped
pub found_before : (new : Inode) (o : Option Inode) (x : Inode) → option_map (swapped new) o ≡ Some x → (row : Inode) × (o ≡ Some row) × (swapped new row ≡ x)
found_before new None x e = absurd (let bad = e in cc)
found_before new (Some row) x e = (row, refl, (let same = e in cc))

module _ (inodes : Inodes) (next : ℕ) (tree : IsTree inodes next) (at : Key) (old new : Inode) (there : map.get inodes at ≡ Some old) (ids : new.id ≡ old.id) where
  -- only the old row has its id
  pub only_old : (k : Key) (row : Inode) → map.get inodes k ≡ Some row → row.id ≡ old.id → (k ≡ at) × (row ≡ old)
  only_old k row e same =
      let keys : k ≡ at = tree.apart k at row old e there same in
      let here : map.get inodes at ≡ Some row = subst (λ (q : Key). map.get inodes q ≡ Some row) keys e in
      (keys, (let one : Some row ≡ Some old = sym here ∙ there in cc))

  -- what is at each key then: the new row, or as before
  pub changed_key : (k : Key) (x : Inode) → map.get (map.insert inodes at new) k ≡ Some x → ((k ≡ at) × (x ≡ new)) ⊎ ((k ≢ at) × (map.get inodes k ≡ Some x))
  changed_key k x e =
      let got : cond (same_key k at) (Some new) (map.get inodes k) ≡ Some x = sym (map.get-insert key_cmp_total inodes at new k) ∙ e in
      elim (keys_tell k at) [
        | inl h ↦ inl (h.1, (let same = rw h.0 at got in cc))
        | inr h ↦ inr (h.1, (let same = rw h.0 at got in cc))
      ]

  swapped_there : (k : Key) (o : Option Inode) → map.get inodes k ≡ o → k ≢ at → o ≡ option_map (swapped new) o
  swapped_there k None e differ = refl
  swapped_there k (Some row) e differ = ap (λ (r : Inode). Some r) (sym (swapped-other new row (λ same. differ (only_old k row e (same ∙ ids)).0)))

  -- the new row stands wherever the old one stood
  pub changed_at : (k : Key) → map.get (map.insert inodes at new) k ≡ option_map (swapped new) (map.get inodes k)
  changed_at k = map.get-insert key_cmp_total inodes at new k ∙ (elim (keys_tell k at) [
    | inl h ↦ rw (h.0, h.1, there) (ap (λ (r : Inode). Some r) (sym (swapped-same new old (sym ids))))
    | inr h ↦ rw h.0 (swapped_there k (map.get inodes k) refl h.1)
  ])

  child_changed : (name : List ℕ) (o : Option Inode) → child_of (map.insert inodes at new) name (option_map (swapped new) o) ≡ option_map (swapped new) (child_of inodes name o)
  child_changed name None = refl
  child_changed name (Some dir) = ap (λ (i : InodeId). map.get (map.insert inodes at new) (key.Inode i name)) (swapped-id new dir) ∙ changed_at (key.Inode dir.id name)

  -- each path spells the new row where it spelled the old one
  pub changed_spelled : (up : List (List ℕ)) → spelled (map.insert inodes at new) up ≡ option_map (swapped new) (spelled inodes up)
  changed_spelled [] = changed_at root_key
  changed_spelled (name ∷ up) = ap (child_of (map.insert inodes at new) name) (changed_spelled up) ∙ child_changed name (spelled inodes up)

  -- which row was at a key before
  before : (k : Key) (x : Inode) → map.get (map.insert inodes at new) k ≡ Some x → (row : Inode) × (map.get inodes k ≡ Some row) × (swapped new row ≡ x)
  before k x e = found_before new (map.get inodes k) x (sym (changed_at k) ∙ e)

  -- kinds stay
  swapped_kind : new.kind ≡ old.kind → (k : Key) (row : Inode) → map.get inodes k ≡ Some row → (swapped new row).kind ≡ row.kind
  swapped_kind kinds k row e =
      (elim (row.id.0 == new.id.0) as (λ b. (row.id.0 == new.id.0) ≡ b → (cond b new row).kind ≡ row.kind) [
        | true ↦ λ same. kinds ∙ sym (ap (λ (r : Inode). r.kind) (only_old k row e (same_id row.id new.id (eqb-true row.id.0 new.id.0 same) ∙ ids)).1)
        | false ↦ λ same. refl
      ]) refl

  module _ (path : Path) (here : row_of inodes path ≡ Some old) where
    other_path : (q : Path) (o : Option Inode) → row_of inodes q ≡ o → q ≢ path → option_map (swapped new) o ≡ o
    other_path q None e differ = refl
    other_path q (Some row) e differ = ap (λ (r : Inode). Some r) (swapped-other new row (λ same.
        let ups : reverse q ≡ reverse path = injective inodes next tree (reverse q) (reverse path) row old e here (same ∙ ids) in
        differ (sym (reverse-reverse q) ∙ ap reverse ups ∙ reverse-reverse path)))

    -- the path of the old row spells the new one, and every other what it spelled
    pub row_of_changed : (q : Path) → row_of (map.insert inodes at new) q ≡ cond (same_path q path) (Some new) (row_of inodes q)
    row_of_changed q = changed_spelled (reverse q) ∙ (elim (paths_tell q path) [
      | inl h ↦ rw (h.0, h.1, here) (ap (λ (r : Inode). Some r) (swapped-same new old (sym ids)))
      | inr h ↦ rw h.0 (other_path q (row_of inodes q) refl h.1)
    ])

    -- the rows then stand for the namespace with the new row's entry at its path
    pub stands_changed : (quotas : Quotas) (removed space : Namespace) → Stands inodes quotas removed space → new.kind ≡ old.kind → new.has_quota ≡ old.has_quota
        → Stands (map.insert inodes at new) quotas removed (with_entry space path (entry_of quotas new))
    stands_changed quotas removed space stands kinds quoted =
        let unremoved = not_removed inodes quotas removed space stands path old here in
        record {
          entries = λ q. find-put path_cmp path_cmp_total q path (entry_of quotas new) space ∙ (elim (paths_tell q path) [
            | inl h ↦ let row = row_of_changed q in rw (row, h.0, h.1, unremoved) refl
            | inr h ↦ let row = row_of_changed q in rw (row, h.0) (stands.entries q)
          ]);
          once = λ q some. changed_spelled (reverse q) ∙ ap (option_map (swapped new)) (stands.once q some);
          apart = stands.apart;
          keys = stands.keys;
          rows = λ id quota e. let of = stands.rows id quota e in record {
            at = of.at;
            row = swapped new of.row;
            there = changed_at of.at ∙ ap (option_map (swapped new)) of.there;
            is = swapped-id new of.row ∙ of.is;
            dir = swapped_kind kinds of.at of.row of.there ∙ of.dir;
            limit = of.limit;
          };
          marks = λ k x e. elim (changed_key k x e) [
            | inl h ↦ ap (λ (r : Inode). r.has_quota) h.1 ∙ quoted ∙ stands.marks at old there ∙ ap (λ (i : InodeId). is_some (quota_of quotas i)) (sym (ap (λ (r : Inode). r.id) h.1 ∙ ids))
            | inr h ↦ stands.marks k x h.1
          ];
        }

  -- where it isn't the root's, the rows spell a tree again
  pub tree_changed : at ≢ root_key → new.kind ≡ old.kind → FitsKind new → IsTree (map.insert inodes at new) next
  tree_changed below kinds fits = record {
    keys = λ k x e. let was = before k x e in tree.keys k was.0 was.1;
    apart = λ k l x y ex ey same. let wx = before k x ex in let wy = before l y ey in
        tree.apart k l wx.0 wy.0 wx.1 wy.1 (sym (ap (λ (r : Inode). r.id) (sym wx.2) ∙ swapped-id new wx.0) ∙ same ∙ (ap (λ (r : Inode). r.id) (sym wy.2) ∙ swapped-id new wy.0));
    range = λ k x e. let was = before k x e in
        subst (λ (i : InodeId). (1 ≤ i.0) × (i.0 < next)) (sym (ap (λ (r : Inode). r.id) (sym was.2) ∙ swapped-id new was.0)) (tree.range k was.0 was.1);
    dirs = λ k x e. elim (changed_key k x e) [ inl h ↦ subst FitsKind (sym h.1) fits | inr h ↦ tree.dirs k x h.1 ];
    root = map.get-insert key_cmp_total inodes at new root_key ∙ (elim (keys_tell root_key at) [ inl h ↦ absurd (below (sym h.1)) | inr h ↦ rw h.0 tree.root ]);
    top = λ name x e. let was = before _ x e in tree.top name was.0 was.1;
    parents = λ parent name x e some. let was = before _ x e in let dir = tree.parents parent name was.0 was.1 some in record {
      at = dir.at;
      row = swapped new dir.row;
      there = changed_at dir.at ∙ ap (option_map (swapped new)) dir.there;
      is = swapped-id new dir.row ∙ dir.is;
      dir = swapped_kind kinds dir.at dir.row dir.there ∙ dir.dir;
    };
    spelled = λ k x e. let was = before k x e in let way = tree.spelled k was.0 was.1 in
        (way.0, changed_spelled way.0 ∙ ap (option_map (swapped new)) way.1 ∙ ap (λ (r : Inode). Some r) was.2);
  }

  -- and have the ids that their paths are given
  pub given_changed : (numbering : Numbering) → AreGiven inodes numbering → AreGiven (map.insert inodes at new) numbering
  given_changed numbering given path x e =
      let was = found_before new (row_of inodes path) x (sym (changed_spelled (reverse path)) ∙ e) in
      given path was.0 was.1 ∙ ap (λ (i : InodeId). Some i.0) (sym (swapped-id new was.0) ∙ ap (λ (r : Inode). r.id) was.2)

  -- and bear the flags that they bore, where the new one bears the old one's
  pub flags_changed : new.flag ≡ old.flag → (k : Key) → flag_at (map.insert inodes at new) k ≡ flag_at inodes k
  flags_changed same = flags_with inodes at new (same ∙ sym (ap (option_and_then (λ (r : Inode). r.flag)) there))
