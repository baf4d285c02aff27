-- What is counted of reads, where a row is left to read again.
use Rattle.std.proofs.Common.{◌≡◌, ℕ, ◌≤◌, ◌==◌, zero, suc, Bool, true, false, not, cond, if◌then◌else◌, List, [], ◌∷◌, ◌++◌, length, slice_get, Option, Some, arith, refl, sym, ap, subst, ◌∙◌, eqb-true, length-append}
use Rattle.std.specs.List.{filter, flat_map, AllByRecursion, count_by}
use Rattle.std.proofs.lemmas.List.{append-nil}
use Rattle.std.proofs.lemmas.List.Elements.{filter-append}
use Rattle.std.proofs.lemmas.List.Sums.{length-filter}
use Rattle.hops_base.specs.Key.{key_cmp, same_key}
use Rattle.hops_base.specs.declared.ids.Mode.{Mode}
use Rattle.hops_base.specs.declared.ids.OpId.{OpId}
use Rattle.hops_base.specs.declared.key.Key.{Key}
use Rattle.hops_base.specs.declared.key.Key.TheVariants as key
use Rattle.inode_table.specs.declared.inode.Inode.{Inode}
use Rattle.db_state.specs.declared.session.Stage.TheVariants.{Reread}
use Rattle.db_state.specs.declared.view.Place.{Place}
use Rattle.db_state.specs.Stored.{root_key, root_row}
use Rattle.db_state.specs.Current.{Spells}
use Rattle.db_state.specs.Moves.{read_in, since_after}
use Rattle.db_state.specs.Reads.{Reads, IsChain}

-- ---- lists

pub all_at : {A : Type 0} (P : A → Type 0) (xs : List A) (i : ℕ) (x : A) → AllByRecursion P xs → slice_get xs i ≡ Some x → P x
all_at P [] i x all is = absurd (let bad = is in cc)
all_at P (y ∷ xs) zero x all is = let same : y ≡ x = cc in subst P same all.0
all_at P (y ∷ xs) (suc i) x all is = all_at P xs i x all.1 is

-- one that passes a test counts
passes_at : {A : Type 0} (test : A → Bool) (xs : List A) (i : ℕ) (x : A) → slice_get xs i ≡ Some x → test x ≡ true → 1 ≤ length (filter test xs)
passes_at test [] i x is pass = absurd (let bad = is in cc)
passes_at test (y ∷ xs) zero x is pass =
    let same : y ≡ x = cc in
    let passed : true ≡ test y = sym (ap test same ∙ pass) in
    subst (λ (b : Bool). 1 ≤ length (cond b (y ∷ filter test xs) (filter test xs))) passed (omega arith)
passes_at test (y ∷ xs) (suc i) x is pass =
    let rest : 1 ≤ length (filter test xs) = passes_at test xs i x is pass in
    elim (test y) as (λ b. 1 ≤ length (cond b (y ∷ filter test xs) (filter test xs))) [ true ↦ omega arith | false ↦ rest ]

passes_in : (test : Key × Inode → Bool) (places : List Place) (n : ℕ) (place : Place) → slice_get places n ≡ Some place → 1 ≤ length (filter test place.found.items)
    → 1 ≤ length (filter test (flat_map (λ (place : Place). place.found.items) places))
passes_in test [] n place is some = absurd (let bad = is in cc)
passes_in test (p ∷ places) zero place is some =
    let same : p ≡ place = cc in
    let here : 1 ≤ length (filter test p.found.items) = subst (λ (q : Place). 1 ≤ length (filter test q.found.items)) (sym same) some in
    rw (filter-append test p.found.items (flat_map (λ (place : Place). place.found.items) places)) (omega (arith, length-append (filter test p.found.items) (filter test (flat_map (λ (place : Place). place.found.items) places))))
passes_in test (p ∷ places) (suc n) place is some =
    let rest : 1 ≤ length (filter test (flat_map (λ (place : Place). place.found.items) places)) = passes_in test places n place is some in
    rw (filter-append test p.found.items (flat_map (λ (place : Place). place.found.items) places)) (omega (arith, length-append (filter test p.found.items) (filter test (flat_map (λ (place : Place). place.found.items) places))))

-- ---- rows below the root's

-- the key of a row below the root's isn't the root's
below_root : (name : List ℕ) → same_key (key.Inode (record { 0 = 1 }) name) root_key ≡ false
unfolding key_cmp
below_root name = refl

-- the second row of a path is below the root's
pub second_below : (locked : List (Key × Mode)) (own : Option OpId) (place : Place) → IsChain locked own place → (r : Key × Inode) → slice_get place.found.items 1 ≡ Some r → same_key r.0 root_key ≡ false
second_below locked own place chain r is = go place.path place.found.items place.missing chain.root chain.spells is
  where
    go : (path : List (List ℕ)) (rows : List (Key × Inode)) (missing : Option Key) → slice_get rows 0 ≡ Some (root_key, root_row) → Spells path rows missing → slice_get rows 1 ≡ Some r → same_key r.0 root_key ≡ false
    go path [] missing root spells at = absurd spells
    go path (first ∷ []) missing root spells at = absurd (let bad = at in cc)
    go [] (first ∷ next ∷ rows) missing root spells at = absurd (let bad : next ∷ rows ≡ [] = spells.1.0 in cc)
    go (name ∷ path) (first ∷ next ∷ rows) missing root spells at =
        let same : next ≡ r = cc in
        let rooted : first ≡ (root_key, root_row) = cc in
        let at_key : r.0 ≡ key.Inode (record { 0 = 1 }) name = sym (ap (λ (x : Key × Inode). x.0) same) ∙ spells.1.1 ∙ ap (λ (x : Key × Inode). key.Inode x.1.id name) rooted in
        ap (λ (k : Key). same_key k root_key) at_key ∙ below_root name

-- ---- what a session has read

-- where a path has a row below the root's, something was read
pub has_read : (reads : Reads) (keys locked : List (Key × Mode)) (own : Option OpId) (n : ℕ) (place : Place) → slice_get reads.places n ≡ Some place → IsChain locked own place
    → (r : Key × Inode) → slice_get place.found.items 1 ≡ Some r → 1 ≤ read_in (Reread reads keys)
has_read reads keys locked own n place is chain r at =
    let test = λ (r : Key × Inode). not (same_key r.0 root_key) in
    let pass : not (same_key r.0 root_key) ≡ true = ap not (second_below locked own place chain r at) in
    let found = flat_map (λ (place : Place). place.found.items) reads.places in
    let some : 1 ≤ length (filter (λ (r : Key × Inode). not (same_key r.0 root_key)) (flat_map (λ (place : Place). place.found.items) reads.places)) =
    passes_in (λ (r : Key × Inode). not (same_key r.0 root_key)) reads.places n place is (passes_at (λ (r : Key × Inode). not (same_key r.0 root_key)) place.found.items 1 r at pass) in
    let count : 1 ≤ count_by (λ (r : Key × Inode). not (same_key r.0 root_key)) (flat_map (λ (place : Place). place.found.items) reads.places) =
    subst (λ (n : ℕ). 1 ≤ n) (length-filter (λ (r : Key × Inode). not (same_key r.0 root_key)) (flat_map (λ (place : Place). place.found.items) reads.places)) some in
    let all : 1 ≤ count_by (λ (r : Key × Inode). not (same_key r.0 root_key)) (flat_map (λ (place : Place). place.found.items) reads.places ++ []) =
    subst (λ (rows : List (Key × Inode)). 1 ≤ count_by (λ (r : Key × Inode). not (same_key r.0 root_key)) rows) (sym (append-nil (flat_map (λ (place : Place). place.found.items) reads.places))) count in
    omega arith

-- and then it stays when the first read was
pub since_stays : (reads : Reads) (keys : List (Key × Mode)) (since long : ℕ) → 1 ≤ read_in (Reread reads keys) → since_after (Reread reads keys) since long ≡ since
since_stays reads keys since long some = go (read_in (Reread reads keys)) some
  where
    go : (n : ℕ) → 1 ≤ n → (if n == 0 then long else since) ≡ since
    go n some = elim (n == 0) as (λ b. (n == 0) ≡ b → (if b then long else since) ≡ since) [
      | true ↦ λ e. (let none : n ≡ 0 = eqb-true n 0 e in absurd (omega arith))
      | false ↦ λ e. refl
    ] refl
