-- Laws of what paths spell over the rows, by induction from the end of a path.
use Rattle.std.proofs.Common.{◌≡◌, ◌≢◌, ℕ, ◌≤◌, ◌<◌, ◌+◌, suc, cond, List, [], ◌∷◌, Option, Some, None, ◌⊎◌, inl, inr, length, arith, refl, sym, ap, subst, ◌∙◌}
use Rattle.std.specs.FinMap as map
use Rattle.hops_base.specs.declared.ids.InodeId.{InodeId}
use Rattle.hops_base.specs.declared.key.Key.{Key}
use Rattle.hops_base.specs.declared.key.Key.TheVariants as key
use Rattle.hops_base.specs.Key.{key_cmp_total, same_key, number_of, name_of}
use Rattle.hops_base.specs.Path.{same_path}
use Rattle.hops_base.proofs.Tells.{keys_tell, paths_tell}
use Rattle.inode_table.specs.declared.inode.Inode.{Inode}
use Rattle.inode_table.specs.declared.inode.Kind.TheVariants.{Dir}
use Rattle.db_state.specs.Stored.{root_key, root_row}
use Rattle.db_state.specs.Spelled.{Inodes, child_of, spelled, FitsKind, IsTree, IsDirRow}

-- what a step found
pub found : (inodes : Inodes) (name : List ℕ) (o : Option Inode) (x : Inode) → child_of inodes name o ≡ Some x → (dir : Inode) × (o ≡ Some dir) × (map.get inodes (key.Inode dir.id name) ≡ Some x)
found inodes name None x e = absurd (let bad = e in cc)
found inodes name (Some dir) x e = (dir, refl, e)

-- a row that is spelled stands under some key
pub keyed : (inodes : Inodes) (up : List (List ℕ)) (x : Inode) → spelled inodes up ≡ Some x → (at : Key) × (map.get inodes at ≡ Some x)
keyed inodes [] x e = (root_key, e)
keyed inodes (name ∷ up) x e = let at = found inodes name (spelled inodes up) x e in (key.Inode at.0.id name, at.2)

-- ids that are one number are one
pub same_id : (a b : InodeId) → a.0 ≡ b.0 → a ≡ b
same_id a b e i = record { 0 = e i }

module _ (inodes : Inodes) (next : ℕ) (tree : IsTree inodes next) where
  -- no row that is spelled is that above the root
  some_id : (up : List (List ℕ)) (x : Inode) → spelled inodes up ≡ Some x → x.id.0 ≢ 0
  some_id up x e none =
      let at = keyed inodes up x e in
      let range = tree.range at.0 x at.1 in
      let low = range.0 in
      omega arith

  -- a row has one path
  pub injective : (a b : List (List ℕ)) (x y : Inode) → spelled inodes a ≡ Some x → spelled inodes b ≡ Some y → x.id ≡ y.id → a ≡ b
  injective [] [] x y ex ey same = refl
  injective [] (m ∷ b) x y ex ey same =
      let at = found inodes m (spelled inodes b) y ey in
      let keys : root_key ≡ key.Inode at.0.id m = tree.apart root_key (key.Inode at.0.id m) x y ex at.2 same in
      absurd (some_id b at.0 at.1 (sym (ap number_of keys)))
  injective (n ∷ a) [] x y ex ey same =
      let at = found inodes n (spelled inodes a) x ex in
      let keys : key.Inode at.0.id n ≡ root_key = tree.apart (key.Inode at.0.id n) root_key x y at.2 ey same in
      absurd (some_id a at.0 at.1 (ap number_of keys))
  injective (n ∷ a) (m ∷ b) x y ex ey same =
      let at = found inodes n (spelled inodes a) x ex in
      let bt = found inodes m (spelled inodes b) y ey in
      let keys : key.Inode at.0.id n ≡ key.Inode bt.0.id m = tree.apart (key.Inode at.0.id n) (key.Inode bt.0.id m) x y at.2 bt.2 same in
      let names : n ≡ m = ap name_of keys in
      let ups : a ≡ b = injective a b at.0 bt.0 at.1 bt.1 (same_id at.0.id bt.0.id (ap number_of keys)) in
      cc

  -- no row stands under an id that no row has
  pub childless : (id : InodeId) (name : List ℕ) → next ≤ id.0 → 1 ≤ id.0 → map.get inodes (key.Inode id name) ≡ None
  childless id name free some =
      (elim (map.get inodes (key.Inode id name)) as (λ o. map.get inodes (key.Inode id name) ≡ o → o ≡ None) [
        | None ↦ λ e. refl
        | Some row ↦ λ e. absurd (
            let dir = tree.parents id name row e (λ none. omega arith) in
            let range = tree.range dir.at dir.row dir.there in
            let high : dir.row.id.0 < next = range.1 in
            let is : dir.row.id.0 ≡ id.0 = ap (λ (i : InodeId). i.0) dir.is in
            omega arith)
      ]) refl

  module _ (dir : List (List ℕ)) (parent : Inode) (name : List ℕ) (new : Inode)
      (at : spelled inodes dir ≡ Some parent) (none : map.get inodes (key.Inode parent.id name) ≡ None) (free : next ≤ new.id.0) where
    -- the rows with the new one
    grown : Inodes
    grown = map.insert inodes (key.Inode parent.id name) new

    -- what they have at a key
    has : (k : Key) → map.get (map.insert inodes (key.Inode parent.id name) new) k ≡ cond (same_key k (key.Inode parent.id name)) (Some new) (map.get inodes k)
    has k = map.get-insert key_cmp_total inodes (key.Inode parent.id name) new k

    range_of : (up : List (List ℕ)) (x : Inode) → spelled inodes up ≡ Some x → (1 ≤ x.id.0) × (x.id.0 < next)
    range_of up x e = let k = keyed inodes up x e in tree.range k.0 x k.1

    -- nothing stands under the new row
    pub new_childless : (n : List ℕ) → map.get (map.insert inodes (key.Inode parent.id name) new) (key.Inode new.id n) ≡ None
    new_childless n =
        let range = range_of dir parent at in
        let low : 1 ≤ parent.id.0 = range.0 in
        let high : parent.id.0 < next = range.1 in
        has (key.Inode new.id n) ∙ (elim (keys_tell (key.Inode new.id n) (key.Inode parent.id name)) [
          | inl h ↦ absurd (let same_ids : new.id.0 ≡ parent.id.0 = ap number_of h.1 in omega arith)
          | inr h ↦ rw h.0 (childless new.id n free (omega arith))
        ])

    -- a child of the new row
    below_new : (n : List ℕ) (up : List (List ℕ)) → up ≡ name ∷ dir → child_of (map.insert inodes (key.Inode parent.id name) new) n (Some new) ≡ cond (same_path (n ∷ up) (name ∷ dir)) (Some new) (child_of inodes n (spelled inodes up))
    below_new n up same =
        let gone : spelled inodes up ≡ None = rw (same, at) none in
        elim (paths_tell (n ∷ up) (name ∷ dir)) [
          | inl h ↦ absurd (let ups : up ≡ dir = cc in let long : length up ≡ suc (length dir) = ap length same in let short = ap length ups in omega arith)
          | inr h ↦ rw (h.0, gone) (new_childless n)
        ]

    -- a child of an old row
    below_old : (n : List ℕ) (up : List (List ℕ)) (o : Option Inode) → spelled inodes up ≡ o → child_of (map.insert inodes (key.Inode parent.id name) new) n o ≡ cond (same_path (n ∷ up) (name ∷ dir)) (Some new) (child_of inodes n o)
    below_old n up None e = elim (paths_tell (n ∷ up) (name ∷ dir)) [
      | inl h ↦ absurd (let ups : up ≡ dir = cc in let there : spelled inodes up ≡ Some parent = rw ups at in cc)
      | inr h ↦ rw h.0 refl
    ]
    below_old n up (Some d) e = has (key.Inode d.id n) ∙ (elim (keys_tell (key.Inode d.id n) (key.Inode parent.id name)) [
      | inl h ↦ let ups : up ≡ dir = injective up dir d parent e at (same_id d.id parent.id (ap number_of h.1)) in let names : n ≡ name = ap name_of h.1 in let path : n ∷ up ≡ name ∷ dir = cc in
          elim (paths_tell (n ∷ up) (name ∷ dir)) [ inl p ↦ rw (h.0, p.0) refl | inr p ↦ absurd (p.1 path) ]
      | inr h ↦ elim (paths_tell (n ∷ up) (name ∷ dir)) [
        | inl p ↦ absurd (let ups : up ≡ dir = cc in let names : n ≡ name = cc in let there : spelled inodes up ≡ Some parent = rw ups at in let same : d ≡ parent = cc in h.1 (rw (same, names) refl))
        | inr p ↦ rw (h.0, p.0) refl
      ]
    ])

    -- the root's row stays
    root_stays : map.get (map.insert inodes (key.Inode parent.id name) new) root_key ≡ map.get inodes root_key
    root_stays = has root_key ∙ (elim (keys_tell root_key (key.Inode parent.id name)) [
      | inl h ↦ absurd (some_id dir parent at (sym (ap number_of h.1)))
      | inr h ↦ rw h.0 refl
    ])

    -- a new row adds its path, and no other
    pub inserted : (path : List (List ℕ)) → spelled (map.insert inodes (key.Inode parent.id name) new) path ≡ cond (same_path path (name ∷ dir)) (Some new) (spelled inodes path)
    inserted [] = root_stays
    inserted (n ∷ up) = ap (child_of (map.insert inodes (key.Inode parent.id name) new) n) (inserted up) ∙ (elim (paths_tell up (name ∷ dir)) [
      | inl h ↦ rw h.0 (below_new n up h.1)
      | inr h ↦ rw h.0 (below_old n up _ refl)
    ])

    -- what is there, or comes to be there, at a key
    pub old_or_new : (k : Key) (x : Inode) → map.get (map.insert inodes (key.Inode parent.id name) new) k ≡ Some x → ((k ≡ key.Inode parent.id name) × (x ≡ new)) ⊎ ((k ≢ key.Inode parent.id name) × (map.get inodes k ≡ Some x))
    old_or_new k x e = elim (keys_tell k (key.Inode parent.id name)) [
      | inl h ↦ inl (h.1, (let got : cond (same_key k (key.Inode parent.id name)) (Some new) (map.get inodes k) ≡ Some x = sym (has k) ∙ e in let same = rw h.0 at got in cc))
      | inr h ↦ inr (h.1, (let got : cond (same_key k (key.Inode parent.id name)) (Some new) (map.get inodes k) ≡ Some x = sym (has k) ∙ e in let same = rw h.0 at got in cc))
    ]

    -- an old row stays
    pub stays : (k : Key) (x : Inode) → map.get inodes k ≡ Some x → map.get (map.insert inodes (key.Inode parent.id name) new) k ≡ Some x
    stays k x e = has k ∙ (elim (keys_tell k (key.Inode parent.id name)) [
      | inl h ↦ absurd (let there : map.get inodes (key.Inode parent.id name) ≡ Some x = subst (λ (q : Key). map.get inodes q ≡ Some x) h.1 e in cc)
      | inr h ↦ rw h.0 e
    ])

    stays_dir : (id : InodeId) → IsDirRow inodes id → IsDirRow (map.insert inodes (key.Inode parent.id name) new) id
    stays_dir id d = record { at = d.at; row = d.row; there = stays d.at d.row d.there; is = d.is; dir = d.dir }

    -- a path that an old row spells is spelled by it still
    still : (up : List (List ℕ)) (x : Inode) → spelled inodes up ≡ Some x → spelled (map.insert inodes (key.Inode parent.id name) new) up ≡ Some x
    still up x e = inserted up ∙ (elim (paths_tell up (name ∷ dir)) [
      | inl h ↦ absurd (let there : child_of inodes name (spelled inodes dir) ≡ Some x = subst (λ (p : List (List ℕ)). spelled inodes p ≡ Some x) h.1 e in let gone = rw at at there in cc)
      | inr h ↦ rw h.0 e
    ])

    -- rows with a new one under a directory spell a tree again
    pub tree_grown : parent.kind ≡ Dir → FitsKind new → IsTree (map.insert inodes (key.Inode parent.id name) new) (new.id.0 + 1)
    tree_grown is_dir fits =
        let here = keyed inodes dir parent at in
        let rooted = tree.range root_key root_row tree.root in
        let low : 1 < next = rooted.1 in
        record {
          keys = λ k x e. elim (old_or_new k x e) [ inl h ↦ (parent.id, name, h.0) | inr h ↦ tree.keys k x h.1 ];
          apart = λ k l x y ex ey same. elim (old_or_new k x ex) [
            | inl h ↦ elim (old_or_new l y ey) [
              | inl g ↦ h.0 ∙ sym g.0
              | inr g ↦ absurd (let range = tree.range l y g.1 in let high : y.id.0 < next = range.1 in let is : new.id.0 ≡ y.id.0 = ap (λ (r : Inode). r.id.0) (sym h.1) ∙ ap (λ (i : InodeId). i.0) same in omega arith)
            ]
            | inr h ↦ elim (old_or_new l y ey) [
              | inl g ↦ absurd (let range = tree.range k x h.1 in let high : x.id.0 < next = range.1 in let is : x.id.0 ≡ new.id.0 = ap (λ (i : InodeId). i.0) same ∙ ap (λ (r : Inode). r.id.0) g.1 in omega arith)
              | inr g ↦ tree.apart k l x y h.1 g.1 same
            ]
          ];
          range = λ k x e. elim (old_or_new k x e) [
            | inl h ↦ let is : x.id.0 ≡ new.id.0 = ap (λ (r : Inode). r.id.0) h.1 in (omega arith, omega arith)
            | inr h ↦ let range = tree.range k x h.1 in let bottom : 1 ≤ x.id.0 = range.0 in let high : x.id.0 < next = range.1 in (bottom, omega arith)
          ];
          dirs = λ k x e. elim (old_or_new k x e) [ inl h ↦ subst FitsKind (sym h.1) fits | inr h ↦ tree.dirs k x h.1 ];
          root = root_stays ∙ tree.root;
          top = λ n x e. elim (old_or_new (key.Inode (record { 0 = 0 }) n) x e) [
            | inl h ↦ absurd (some_id dir parent at (sym (ap number_of h.0)))
            | inr h ↦ tree.top n x h.1
          ];
          parents = λ id n x e some. elim (old_or_new (key.Inode id n) x e) [
            | inl h ↦ stays_dir id (record { at = here.0; row = parent; there = here.1; is = same_id parent.id id (sym (ap number_of h.0)); dir = is_dir })
            | inr h ↦ stays_dir id (tree.parents id n x h.1 some)
          ];
          spelled = λ k x e. elim (old_or_new k x e) [
            | inl h ↦ (name ∷ dir, inserted (name ∷ dir) ∙ (elim (paths_tell (name ∷ dir) (name ∷ dir)) [ inl p ↦ rw (p.0, h.1) refl | inr p ↦ absurd (p.1 refl) ]))
            | inr h ↦ let old = tree.spelled k x h.1 in (old.0, still old.0 x old.1)
          ];
        }
