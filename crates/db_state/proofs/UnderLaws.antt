-- Laws of what is under a path: the rows under its row are its children in the namespace.
use Rattle.std.proofs.Common.{◌≡◌, ◌≢◌, ℕ, ◌<◌, ◌+◌, zero, suc, Bool, true, false, ◌&&◌, ◌==◌, nat_lt, cond, List, [], ◌∷◌, ◌++◌, length, drop, Option, Some, None, is_some, option_map, inl, inr, arith, refl, sym, ap, subst, ◌∙◌, eq-eqb, eqb-true}
use Rattle.std.specs.List.{sum_by}
use Rattle.std.specs.FinMap as map
use Rattle.std.proofs.lemmas.Bool.{true≢false, lt-ltb}
use Rattle.std.proofs.lemmas.List.{reverse-append, append_assoc, append-nil, length-append}
use Rattle.hops_base.specs.declared.ids.InodeId.{InodeId}
use Rattle.hops_base.specs.declared.key.Key.TheVariants as key
use Rattle.hops_base.specs.Path.{same_path}
use Rattle.hops_base.proofs.Tells.{paths_tell}
use Rattle.name_space.specs.declared.entry.Entry.{Entry}
use Rattle.name_space.specs.Namespace.{Namespace, Path, IsNamespace, entry_at, is_within, below, without, children, bytes_of, used_names, used_bytes}
use Rattle.name_space.proofs.NamespaceLaws.{same_spaces, Rises-filter, entry_at-filter, entry_at-below, entry_at-without, missing_within}
use Rattle.name_space.proofs.PathLaws.{same_path-self, is_within-append, is_within-self, is_within-rest}
use Rattle.inode_table.specs.declared.inode.Inode.{Inode}
use Rattle.row_store.specs.Children.{child_count}
use Rattle.row_store.proofs.ChildLaws.{child_count-zero, child_found}
use Rattle.db_state.specs.Spelled.{Inodes, child_of, spelled, row_of}
use Rattle.db_state.specs.Stands.{Quotas, entry_of, Stands}

-- a name under a path spells what stands under its row
pub row_of_child : (inodes : Inodes) (path : Path) (row : Inode) (name : List ℕ) → row_of inodes path ≡ Some row → row_of inodes (path ++ name ∷ []) ≡ map.get inodes (key.Inode row.id name)
row_of_child inodes path row name here = ap (spelled inodes) (reverse-append path (name ∷ [])) ∙ ap (child_of inodes name) here

no_inode : (o : Option Inode) → is_some o ≡ false → o ≡ None
no_inode None e = refl
no_inode (Some row) e = absurd (true≢false e)

-- a row that counts no child has none under it
pub none_under : (inodes : Inodes) (id : InodeId) → child_count inodes id ≡ 0 → (name : List ℕ) → map.get inodes (key.Inode id name) ≡ None
none_under inodes id empty name = no_inode (map.get inodes (key.Inode id name)) ((child_count-zero inodes id).0 empty name)

-- and one with none under it counts none
pub none_counted : (inodes : Inodes) (id : InodeId) → ((name : List ℕ) → map.get inodes (key.Inode id name) ≡ None) → child_count inodes id ≡ 0
none_counted inodes id none = (child_count-zero inodes id).1 (λ name. ap is_some (none name))

-- ---- in a namespace

-- a list of entries in which nothing stands anywhere is empty
none_anywhere : (es : Namespace) → ((q : Path) → entry_at es q ≡ None) → es ≡ []
none_anywhere [] none = refl
none_anywhere (e ∷ es) none = absurd (
    let first : Some e.1 ≡ None = sym (ap (λ b. cond b (Some e.1) (entry_at es e.0)) (same_path-self e.0)) ∙ none e.0 in
    cc)

-- the path is one name below the top
abbrev is_child : Path → Path → Bool
is_child top path = is_within top path && (length path == length top + 1)

-- what is within a path and one longer is the path and a name
last_of : (rest : List (List ℕ)) (n : ℕ) → n + length rest ≡ n + 1 → (name : List ℕ) × (rest ≡ name ∷ [])
last_of [] n e = absurd (omega arith)
last_of (name ∷ []) n e = (name, refl)
last_of (name ∷ other ∷ rest) n e = absurd (omega arith)

module _ (space : Namespace) (path : Path) where
  -- what stands among the children
  pub entry_at-children : (q : Path) → entry_at (children space path) q ≡ cond (is_child path q) (entry_at space q) None
  entry_at-children q = entry_at-filter (is_child path) space q

  child_at : (name : List ℕ) → entry_at (children space path) (path ++ name ∷ []) ≡ entry_at space (path ++ name ∷ [])
  child_at name =
      let long : length (path ++ name ∷ []) ≡ length path + 1 = length-append path (name ∷ []) in
      entry_at-children (path ++ name ∷ []) ∙ ap (λ b. cond b (entry_at space (path ++ name ∷ [])) None) (λ i. is_within-append path (name ∷ []) i && eq-eqb _ _ long i)

  -- where there are no children, nothing stands one name below
  pub none_next : children space path ≡ [] → (name : List ℕ) → entry_at space (path ++ name ∷ []) ≡ None
  none_next none name = sym (child_at name) ∙ ap (λ (es : Namespace). entry_at es (path ++ name ∷ [])) none

  child_or_none : (q : Path) (rest : List (List ℕ)) → path ++ rest ≡ q → length q ≡ length path + 1 → ((name : List ℕ) → entry_at space (path ++ name ∷ []) ≡ None) → entry_at space q ≡ None
  child_or_none q rest e long leaf =
      let lengths : length (path ++ rest) ≡ length path + length rest = length-append path rest in
      let same : length (path ++ rest) ≡ length q = ap (λ (p : Path). length p) e in
      let sum : length path + length rest ≡ length path + 1 = sym lengths ∙ same ∙ long in
      let one = last_of rest (length path) sum in
      ap (entry_at space) (sym e ∙ ap (λ (r : Path). path ++ r) one.1) ∙ leaf one.0

  -- where nothing stands one name below, there are no children
  pub no_children : ((name : List ℕ) → entry_at space (path ++ name ∷ []) ≡ None) → children space path ≡ []
  no_children leaf = none_anywhere (children space path) (λ q. entry_at-children q ∙ none_there q (is_within path q) refl (length q == length path + 1) refl)
    where
      none_there : (q : Path) (within : Bool) → is_within path q ≡ within → (long : Bool) → (length q == length path + 1) ≡ long → cond (within && long) (entry_at space q) None ≡ None
      none_there q true w true l = child_or_none q (drop (length path) q) (is_within-rest path q w) (eqb-true (length q) (length path + 1) l) leaf
      none_there q true w false l = refl
      none_there q false w long l = refl

  module _ (leaf : (name : List ℕ) → entry_at space (path ++ name ∷ []) ≡ None) where
    module _ (is : IsNamespace space) where
      beyond : (rest : List (List ℕ)) (q : Path) → path ++ rest ≡ q → q ≢ path → entry_at space q ≡ None
      beyond [] q e differ = absurd (differ (sym e ∙ append-nil path))
      beyond (name ∷ rest) q e differ =
          missing_within space is (path ++ name ∷ []) (leaf name) q
          (subst (λ (p : Path). is_within (path ++ name ∷ []) p ≡ true) (append_assoc path (name ∷ []) rest ∙ e) (is_within-append (path ++ name ∷ []) rest))

      -- where nothing stands one name below, nothing stands further down
      pub none_below : (q : Path) → is_within path q ≡ true → q ≢ path → entry_at space q ≡ None
      none_below q within differ = beyond (drop (length path) q) q (is_within-rest path q within) differ

      -- and without the path all is as before but for it
      pub entry_at-without_leaf : (q : Path) → entry_at (without space path) q ≡ cond (same_path q path) None (entry_at space q)
      entry_at-without_leaf q = entry_at-without space path q ∙ (elim (paths_tell q path) [
        | inl h ↦ let self : is_within path q ≡ true = ap (is_within path) h.1 ∙ is_within-self path in rw (h.0, self) refl
        | inr h ↦ rw h.0 (beside q (is_within path q) refl h.1)
      ])
        where
          beside : (q : Path) (b : Bool) → is_within path q ≡ b → q ≢ path → cond b None (entry_at space q) ≡ entry_at space q
          beside q true e differ = sym (none_below q e differ)
          beside q false e differ = refl

      -- so it uses one name, and its own bytes
      pub below_leaf : (entry : Entry) → entry_at space path ≡ Some entry → below space path ≡ (path, entry) ∷ []
      below_leaf entry here = same_spaces (below space path) ((path, entry) ∷ []) (Rises-filter (is_within path) space is.rises) refl (λ q. entry_at-below space path q ∙ (elim (paths_tell q path) [
        | inl h ↦ let self : is_within path q ≡ true = ap (is_within path) h.1 ∙ is_within-self path in rw (self, h.0, h.1) here
        | inr h ↦ rw h.0 (alone q (is_within path q) refl h.1)
      ]))
        where
          alone : (q : Path) (b : Bool) → is_within path q ≡ b → q ≢ path → cond b (entry_at space q) None ≡ None
          alone q true e differ = none_below q e differ
          alone q false e differ = refl

      pub used_names-leaf : (entry : Entry) → entry_at space path ≡ Some entry → used_names space path ≡ 1
      used_names-leaf entry here = ap (λ (es : Namespace). length es) (below_leaf entry here)

      pub used_bytes-leaf : (entry : Entry) → entry_at space path ≡ Some entry → used_bytes space path ≡ bytes_of entry
      used_bytes-leaf entry here = ap (sum_by (λ (e : Path × Entry). bytes_of e.1)) (below_leaf entry here) ∙ (let alone : 0 + bytes_of entry ≡ bytes_of entry = omega arith in alone)

-- ---- in rows that stand for one

module _ (inodes : Inodes) (quotas : Quotas) (space : Namespace) (stands : Stands inodes quotas [] space) (path : Path) (row : Inode) (here : row_of inodes path ≡ Some row) where
  -- what stands one name below a path is what the row under its row stands for
  pub entry_at-child : (name : List ℕ) → entry_at space (path ++ name ∷ []) ≡ option_map (entry_of quotas) (map.get inodes (key.Inode row.id name))
  entry_at-child name = stands.entries (path ++ name ∷ []) ∙ ap (option_map (entry_of quotas)) (row_of_child inodes path row name here)

  -- where the row counts no child, nothing stands one name below
  pub leaf_counted : child_count inodes row.id ≡ 0 → (name : List ℕ) → entry_at space (path ++ name ∷ []) ≡ None
  leaf_counted empty name = entry_at-child name ∙ ap (option_map (entry_of quotas)) (none_under inodes row.id empty name)

  -- and where nothing stands one name below, no row is under the row
  pub none_under_leaf : ((name : List ℕ) → entry_at space (path ++ name ∷ []) ≡ None) → (name : List ℕ) → map.get inodes (key.Inode row.id name) ≡ None
  none_under_leaf leaf name = none_mapped (map.get inodes (key.Inode row.id name)) (sym (entry_at-child name) ∙ leaf name)
    where
      none_mapped : (o : Option Inode) → option_map (entry_of quotas) o ≡ None → o ≡ None
      none_mapped None e = refl
      none_mapped (Some row) e = absurd (let bad = e in cc)

  -- the path has a child in the namespace exactly where its row counts one
  pub children_counted : nat_lt 0 (length (children space path)) ≡ nat_lt 0 (child_count inodes row.id)
  children_counted = counted (child_count inodes row.id) refl
    where
      some_child : (es : Namespace) → children space path ≡ es → 0 < child_count inodes row.id → nat_lt 0 (length es) ≡ true
      some_child [] e some = absurd (
          let child = child_found inodes row.id some in
          let none = none_under_leaf (none_next space path e) child.0 in
          let there = child.1 in
          true≢false (sym there ∙ ap is_some none))
      some_child (e ∷ es) same some = lt-ltb 0 (length (e ∷ es)) (omega arith)

      counted : (n : ℕ) → child_count inodes row.id ≡ n → nat_lt 0 (length (children space path)) ≡ nat_lt 0 n
      counted zero e = ap (λ (es : Namespace). nat_lt 0 (length es)) (no_children space path (leaf_counted e))
      counted (suc n) e = some_child (children space path) refl (omega arith) ∙ sym (lt-ltb 0 (suc n) (omega arith))
