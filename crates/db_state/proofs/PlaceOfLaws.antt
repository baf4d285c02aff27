-- The place that the rows have for a path is determined by the path and the rows.
use Rattle.std.proofs.Common.{◌≡◌, ℕ, ◌-◌, Bool, nat_lt, List, [], ◌∷◌, length, slice_get, Option, Some, None, IfSome, arith, refl, sym, ap, subst, ◌∙◌}
use Rattle.std.specs.FinMap as map
use Rattle.std.specs.List.{AllByRecursion}
use Rattle.hops_base.specs.declared.key.Key.{Key}
use Rattle.hops_base.specs.declared.key.Key.TheVariants as key
use Rattle.inode_table.specs.declared.inode.Inode.{Inode}
use Rattle.inode_table.specs.declared.inode.Kind.{Kind}
use Rattle.name_space.specs.Namespace.{Path}
use Rattle.row_store.specs.Children.{child_count}
use Rattle.db_state.specs.declared.view.Place.{Place}
use Rattle.db_state.specs.Stored.{Inodes}
use Rattle.db_state.specs.Plan.{last}
use Rattle.db_state.specs.Current.{stops_at, Leads, Spells, IsMissing, IsLastsChild}
use Rattle.db_state.specs.PlaceOf.{IsFound, IsPlaceOf}

-- a key has one row
one_row : (inodes : Inodes) (a b : Key × Inode) → a.0 ≡ b.0 → IsFound inodes a → IsFound inodes b → a ≡ b
one_row inodes a b keys x y =
    let rows : Some a.1 ≡ Some b.1 = sym x ∙ ap (map.get inodes) keys ∙ y in
    let row : a.1 ≡ b.1 = cc in
    λ i. (keys i, row i)

-- names don't both go on to a row and stop at its missing key
one_end : (inodes : Inodes) (row : Inode) (name : List ℕ) (missing : Option Key) (next : Key × Inode) → missing ≡ stops_at row.kind row.id name → IsMissing inodes missing → row.kind ≡ Rattle.inode_table.specs.declared.inode.Kind.TheVariants.Dir → next.0 ≡ key.Inode row.id name → IsFound inodes next → ⊥
one_end inodes row name missing next stops gone dir at here =
    let is : missing ≡ Some (key.Inode row.id name) = stops ∙ ap (λ (k : Kind). stops_at k row.id name) dir in
    let none : map.get inodes (key.Inode row.id name) ≡ None = subst (IsMissing inodes) is gone in
    let bad : Some next.1 ≡ None = sym here ∙ ap (map.get inodes) at ∙ none in
    cc

-- names lead from a row through the same rows to the same missing key
one_way : (inodes : Inodes) (row : Inode) (names : List (List ℕ)) (rows others : List (Key × Inode)) (missing other : Option Key) → Leads row names rows missing → Leads row names others other
    → AllByRecursion (IsFound inodes) rows → AllByRecursion (IsFound inodes) others → IsMissing inodes missing → IsMissing inodes other → (rows ≡ others) × (missing ≡ other)
one_way inodes row [] rows others missing other a b x y m n = (a.0 ∙ sym b.0, a.1 ∙ sym b.1)
one_way inodes row (name ∷ names) [] [] missing other a b x y m n = (refl, a ∙ sym b)
one_way inodes row (name ∷ names) [] (next ∷ others) missing other a b x y m n = absurd (one_end inodes row name missing next a m b.0 b.1 y.0)
one_way inodes row (name ∷ names) (next ∷ rows) [] missing other a b x y m n = absurd (one_end inodes row name other next b n a.0 a.1 x.0)
one_way inodes row (name ∷ names) (next ∷ rows) (twin ∷ others) missing other a b x y m n =
    let same : next ≡ twin = one_row inodes next twin (a.1 ∙ sym b.1) x.0 y.0 in
    let rest = one_way inodes twin.1 names rows others missing other (subst (λ (r : Key × Inode). Leads r.1 names rows missing) same a.2) b.2 x.1 y.1 m n in
    (λ i. same i ∷ rest.0 i, rest.1)

-- so from the root on, where the bits say whether the last of them has a child
one_spelling : (inodes : Inodes) (path : Path) (rows others : List (Key × Inode)) (missing other : Option Key) (bit twin : Bool) → Spells path rows missing → Spells path others other
    → AllByRecursion (IsFound inodes) rows → AllByRecursion (IsFound inodes) others → IsMissing inodes missing → IsMissing inodes other → IsLastsChild inodes rows bit → IsLastsChild inodes others twin
    → (rows ≡ others) × (missing ≡ other) × (bit ≡ twin)
one_spelling inodes path [] others missing other bit twin a b x y m n p q = absurd a
one_spelling inodes path (root ∷ rows) [] missing other bit twin a b x y m n p q = absurd b
one_spelling inodes path (root ∷ rows) (top ∷ others) missing other bit twin a b x y m n p q =
    let same : root ≡ top = one_row inodes root top (a.0 ∙ sym b.0) x.0 y.0 in
    let rest = one_way inodes top.1 path rows others missing other (subst (λ (r : Key × Inode). Leads r.1 path rows missing) same a.1) b.1 x.1 y.1 m n in
    let all : root ∷ rows ≡ top ∷ others = λ i. same i ∷ rest.0 i in
    let end = last_some top others in
    let first : bit ≡ nat_lt 0 (child_count inodes end.0.1.id) = subst (λ (o : Option (Key × Inode)). IfSome o (λ (r : Key × Inode). bit ≡ nat_lt 0 (child_count inodes r.1.id))) end.1 (subst (λ (rs : List (Key × Inode)). IsLastsChild inodes rs bit) all p) in
    let second : twin ≡ nat_lt 0 (child_count inodes end.0.1.id) = subst (λ (o : Option (Key × Inode)). IfSome o (λ (r : Key × Inode). twin ≡ nat_lt 0 (child_count inodes r.1.id))) end.1 q in
    (all, rest.1, first ∙ sym second)
  where
    at_end : (first : Key × Inode) (rows : List (Key × Inode)) → (found : Key × Inode) × (slice_get (first ∷ rows) (length rows) ≡ Some found)
    at_end first [] = (first, refl)
    at_end first (next ∷ rows) = at_end next rows

    last_some : (first : Key × Inode) (rows : List (Key × Inode)) → (found : Key × Inode) × (last (first ∷ rows) ≡ Some found)
    last_some first rows =
        let end = at_end first rows in
        let e : length (first ∷ rows) - 1 ≡ length rows = omega arith in
        (end.0, ap (slice_get (first ∷ rows)) e ∙ end.1)

-- two places that the rows have for a path are alike
pub one_place : (inodes : Inodes) (path : Path) (one other : Place) → IsPlaceOf inodes path one → IsPlaceOf inodes path other → (one.found.items ≡ other.found.items) × (one.missing ≡ other.missing) × (one.has_child ≡ other.has_child)
one_place inodes path one other a b =
    one_spelling inodes path one.found.items other.found.items one.missing other.missing one.has_child other.has_child
    (subst (λ (p : Path). Spells p one.found.items one.missing) a.of a.spells) (subst (λ (p : Path). Spells p other.found.items other.missing) b.of b.spells)
    a.there b.there a.gone b.gone a.child b.child
