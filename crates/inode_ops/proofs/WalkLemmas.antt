-- The rows found for a path, against those of the table: they are what the path's prefixes spell.
use Rattle.std.proofs.Common.{◌≡◌, ℕ, ◌+◌, ◌≤◌, true, false, ◌==◌, List, [], ◌∷◌, ◌++◌, length, drop, reverse, slice_get, Option, Some, None, arith, refl, sym, ap, subst, ◌∙◌, inl, inr, append_assoc}
use Rattle.std.proofs.lemmas.Bool.{true≢false, and_parts, or_left, or_right, or_cases}
use Rattle.std.proofs.lemmas.Bool.Decides.{nat_tests}
use Rattle.std.specs.FinMap as map
use Rattle.std.specs.List.{AllByRecursion}
use Rattle.std.specs.Cmp.Lexicographic.{bytes_decides}
use Rattle.std.specs.Prelude.{bytes_eq}
use Rattle.hops_base.specs.declared.ids.InodeId.{InodeId}
use Rattle.hops_base.specs.declared.ids.Mode.{Mode}
use Rattle.hops_base.specs.declared.key.Key.{Key}
use Rattle.hops_base.specs.declared.key.Key.TheVariants as key
use Rattle.name_space.specs.Namespace.{is_within}
use Rattle.name_space.proofs.PathLaws.{is_within-append}
use Rattle.inode_table.specs.declared.inode.Inode.{Inode}
use Rattle.inode_table.specs.declared.inode.Kind.{Kind}
use Rattle.inode_table.specs.declared.inode.Kind.TheVariants.{Dir, File}
use Rattle.db_state.specs.Stored.{root_key}
use Rattle.db_state.specs.Spelled.{Inodes, child_of, spelled, IsTree}
use Rattle.db_state.specs.Current.{stops_at, Leads, IsThere, IsMissing}
use Rattle.db_state.proofs.PathLaws.{injective, same_id}
use Rattle.db_state.proofs.ChainLaws.{reverse-push}
use Rattle.inode_ops.specs.QuotaSteps.{has_id}

-- the row found stands at the end of these names, the last of them first
pub record IsAt (inodes : Inodes) (locked : List (Key × Mode)) (up : List (List ℕ)) (found : Key × Inode) : Type 0 where
  pub there : IsThere inodes locked found
  pub spelt : spelled inodes up ≡ Some there.row

-- from a row found the names lead through further ones to the last, below which the others of the names are missing
pub record IsDeep (inodes : Inodes) (locked : List (Key × Mode)) (up names : List (List ℕ)) (first : Key × Inode) (rows : List (Key × Inode)) (missing : Option Key) : Type 0 where
  pub dir : List (List ℕ)
  pub rest : List (List ℕ)
  pub bottom : Key × Inode
  pub at : IsAt inodes locked dir bottom
  pub path : reverse dir ++ rest ≡ reverse up ++ names
  pub drops : drop (length rows) names ≡ rest
  pub stops : Leads bottom.1 rest [] missing
  pub few : length rows + length rest ≡ length names
  pub found : slice_get (first ∷ rows) (length rows) ≡ Some bottom

pub regroup : (up : List (List ℕ)) (name : List ℕ) (names : List (List ℕ)) → reverse (name ∷ up) ++ names ≡ reverse up ++ name ∷ names
regroup up name names = ap (λ (p : List (List ℕ)). p ++ names) (reverse-push name up) ∙ append_assoc (reverse up) (name ∷ []) names

-- below what isn't there nothing is
pub none_further : (inodes : Inodes) (low up : List (List ℕ)) → spelled inodes up ≡ None → spelled inodes (low ++ up) ≡ None
none_further inodes [] up none = none
none_further inodes (name ∷ low) up none = ap (child_of inodes name) (none_further inodes low up none)

module _ (inodes : Inodes) (locked : List (Key × Mode)) where
  -- the root's row stands at the end of no names
  pub at_root : (root : Key × Inode) → root.0 ≡ root_key → IsThere inodes locked root → IsAt inodes locked [] root
  at_root root is there = record { there = there; spelt = ap (map.get inodes) (sym is) ∙ there.there }

  -- the child of a row stands one name further
  pub at_next : (up : List (List ℕ)) (found next : Key × Inode) (name : List ℕ) → IsAt inodes locked up found → next.0 ≡ key.Inode found.1.id name → IsThere inodes locked next → IsAt inodes locked (name ∷ up) next
  at_next up found next name at is there = record {
    there = there;
    spelt = ap (child_of inodes name) at.spelt ∙ ap (λ (i : InodeId). map.get inodes (key.Inode i name)) at.there.id ∙ ap (map.get inodes) (sym is) ∙ there.there;
  }

  pub deep : (names up : List (List ℕ)) (first : Key × Inode) (rows : List (Key × Inode)) (missing : Option Key) → IsAt inodes locked up first → Leads first.1 names rows missing → AllByRecursion (IsThere inodes locked) rows → IsDeep inodes locked up names first rows missing
  deep [] up first [] missing at leads there = record { dir = up; rest = []; bottom = first; at = at; path = refl; drops = refl; stops = leads; few = omega arith; found = refl }
  deep [] up first (next ∷ rows) missing at leads there = absurd (let bad : next ∷ rows ≡ [] = leads.0 in cc)
  deep (name ∷ names) up first [] missing at leads there = record { dir = up; rest = name ∷ names; bottom = first; at = at; path = refl; drops = refl; stops = leads; few = omega arith; found = refl }
  deep (name ∷ names) up first (next ∷ rows) missing at leads there =
      let d = deep names (name ∷ up) next rows missing (at_next up first next name at leads.1 there.0) leads.2 there.1 in
      let few = d.few in
      record { dir = d.dir; rest = d.rest; bottom = d.bottom; at = d.at; path = d.path ∙ regroup up name names; drops = d.drops; stops = d.stops; few = omega arith; found = d.found }

  module _ (next : ℕ) (tree : IsTree inodes next) where
    -- nothing stands under a file
    under_file : (id : InodeId) (at : Key) (row : Inode) (name : List ℕ) → map.get inodes at ≡ Some row → row.kind ≡ File → map.get inodes (key.Inode row.id name) ≡ None
    under_file id at row name there file =
        (elim (map.get inodes (key.Inode row.id name)) as (λ o. map.get inodes (key.Inode row.id name) ≡ o → o ≡ None) [
          | None ↦ λ e. refl
          | Some child ↦ λ e. absurd (
              let range = tree.range at row there in
              let low : 1 ≤ row.id.0 = range.0 in
              let dir = tree.parents row.id name child e (λ zero. omega arith) in
              let same = tree.apart dir.at at dir.row row dir.there there dir.is in
              let found : map.get inodes at ≡ Some dir.row = subst (λ (k : Key). map.get inodes k ≡ Some dir.row) same dir.there in
              let is : dir.row ≡ row = cc in
              let kinds : Dir ≡ File = sym dir.dir ∙ ap (λ (r : Inode). r.kind) is ∙ file in
              cc)
        ]) refl

    -- where the rows found end, the next name has none
    pub stopped : (up : List (List ℕ)) (found : Key × Inode) (name : List ℕ) (missing : Option Key) (kind : Kind) → IsAt inodes locked up found → found.1.kind ≡ kind → missing ≡ stops_at kind found.1.id name → IsMissing inodes missing → spelled inodes (name ∷ up) ≡ None
    stopped up found name missing Dir at is stops none =
        ap (child_of inodes name) at.spelt ∙ ap (λ (i : InodeId). map.get inodes (key.Inode i name)) at.there.id ∙ subst (IsMissing inodes) stops none
    stopped up found name missing File at is stops none =
        ap (child_of inodes name) at.spelt ∙ under_file at.there.row.id found.0 at.there.row name at.there.there (at.there.kind ∙ is)

    -- what a prefix of the names spells has the id of a row found
    pub found_above : (more names up : List (List ℕ)) (first : Key × Inode) (rows : List (Key × Inode)) (missing : Option Key) (x : Inode) → IsAt inodes locked up first → Leads first.1 names rows missing → AllByRecursion (IsThere inodes locked) rows → IsMissing inodes missing
        → is_within more names ≡ true → spelled inodes (reverse more ++ up) ≡ Some x → has_id (first ∷ rows) x.id ≡ true
    found_above [] names up first rows missing x at leads there none within spelt =
        let same : Some at.there.row ≡ Some x = sym at.spelt ∙ spelt in
        let is : at.there.row ≡ x = cc in
        let ids : first.1.id.0 ≡ x.id.0 = ap (λ (i : InodeId). i.0) (sym at.there.id) ∙ ap (λ (r : Inode). r.id.0) is in
        or_left (first.1.id.0 == x.id.0) (has_id rows x.id) (equal first.1.id.0 x.id.0 ids)
      where
        equal : (m n : ℕ) → m ≡ n → (m == n) ≡ true
        equal m n e = grind (arith, nat_tests)
    found_above (name ∷ more) [] up first rows missing x at leads there none within spelt = absurd (true≢false (sym within))
    found_above (name ∷ more) (other ∷ names) up first [] missing x at leads there none within spelt =
        let parts = and_parts (bytes_eq name other) (is_within more names) within in
        let same : name ≡ other = (bytes_decides name other).0 parts.0 in
        let end : spelled inodes (name ∷ up) ≡ None = stopped up first name missing first.1.kind at refl (leads ∙ ap (stops_at first.1.kind first.1.id) (sym same)) none in
        let gone : spelled inodes (reverse (name ∷ more) ++ up) ≡ None = ap (spelled inodes) (flipped name more up) ∙ none_further inodes (reverse more) (name ∷ up) end in
        absurd (let bad : None ≡ Some x = sym gone ∙ spelt in cc)
      where
        flipped : (name : List ℕ) (more up : List (List ℕ)) → reverse (name ∷ more) ++ up ≡ reverse more ++ name ∷ up
        flipped name more up = ap (λ (p : List (List ℕ)). p ++ up) (reverse-push name more) ∙ append_assoc (reverse more) (name ∷ []) up
    found_above (name ∷ more) (other ∷ names) up first (next_row ∷ rows) missing x at leads there none within spelt =
        let parts = and_parts (bytes_eq name other) (is_within more names) within in
        let same : name ≡ other = (bytes_decides name other).0 parts.0 in
        let key_is : next_row.0 ≡ key.Inode first.1.id name = leads.1 ∙ ap (key.Inode first.1.id) (sym same) in
        let further : spelled inodes (reverse more ++ name ∷ up) ≡ Some x = ap (spelled inodes) (sym (regroup more name up)) ∙ spelt in
        or_right (first.1.id.0 == x.id.0) (has_id (next_row ∷ rows) x.id) (found_above more names (name ∷ up) next_row rows missing x (at_next up first next_row name at key_is there.0) leads.2 there.1 none parts.1 further)

    -- what has a row's id is spelled by the row's own path
    within_own : (names up : List (List ℕ)) (first : Key × Inode) (path : List (List ℕ)) (x : Inode) → IsAt inodes locked up first → spelled inodes path ≡ Some x → (first.1.id.0 == x.id.0) ≡ true → is_within (reverse path) (reverse up ++ names) ≡ true
    within_own names up first path x at spelt here =
        let ids : x.id ≡ at.there.row.id = same_id x.id at.there.row.id (sym (unequal first.1.id.0 x.id.0 here) ∙ ap (λ (i : InodeId). i.0) (sym at.there.id)) in
        let same : path ≡ up = injective inodes next tree path up x at.there.row spelt at.spelt ids in
        subst (λ (p : List (List ℕ)). is_within (reverse p) (reverse up ++ names) ≡ true) (sym same) (is_within-append (reverse up) names)
      where
        unequal : (m n : ℕ) → (m == n) ≡ true → m ≡ n
        unequal m n e = grind (arith, nat_tests)

    -- what has the id of a row found is spelled by a prefix
    pub found_within : (names up : List (List ℕ)) (first : Key × Inode) (rows : List (Key × Inode)) (missing : Option Key) (path : List (List ℕ)) (x : Inode) → IsAt inodes locked up first → Leads first.1 names rows missing → AllByRecursion (IsThere inodes locked) rows
        → spelled inodes path ≡ Some x → has_id (first ∷ rows) x.id ≡ true → is_within (reverse path) (reverse up ++ names) ≡ true
    found_within names up first [] missing path x at leads there spelt has =
        elim (or_cases (first.1.id.0 == x.id.0) false has) [
          | inl here ↦ within_own names up first path x at spelt here
          | inr bad ↦ absurd (true≢false (sym bad))
        ]
    found_within [] up first (next_row ∷ rows) missing path x at leads there spelt has = absurd (let bad : next_row ∷ rows ≡ [] = leads.0 in cc)
    found_within (name ∷ names) up first (next_row ∷ rows) missing path x at leads there spelt has =
        elim (or_cases (first.1.id.0 == x.id.0) (has_id (next_row ∷ rows) x.id) has) [
          | inl here ↦ within_own (name ∷ names) up first path x at spelt here
          | inr further ↦
              subst (λ (p : List (List ℕ)). is_within (reverse path) p ≡ true) (regroup up name names)
              (found_within names (name ∷ up) next_row rows missing path x (at_next up first next_row name at leads.1 there.0) leads.2 there.1 spelt further)
        ]
