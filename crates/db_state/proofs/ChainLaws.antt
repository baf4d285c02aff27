-- Laws of rows that grow by a chain of new directories.
use Rattle.std.proofs.Common.{◌≡◌, ℕ, ◌+◌, ◌≤◌, max, List, [], ◌∷◌, ◌++◌, length, reverse, Some, None, option_and_then, arith, add-zero, suc, refl, sym, ap, subst, ◌∙◌, inl, inr}
use Rattle.std.specs.FinMap as map
use Rattle.std.proofs.lemmas.List.{reverse-append}
use Rattle.hops_base.specs.declared.key.Key.{Key}
use Rattle.hops_base.specs.declared.key.Key.TheVariants as key
use Rattle.hops_base.proofs.Tells.{paths_tell}
use Rattle.name_space.specs.Namespace as spaces
use Rattle.name_space.specs.declared.entry.Entry.{Entry}
use Rattle.name_space.specs.Namespace.{Namespace, Path, entry_at, with_entry}
use Rattle.name_space.specs.Plain.{with_dirs}
use Rattle.inode_table.specs.declared.inode.Inode.{Inode}
use Rattle.inode_table.specs.declared.inode.Kind.TheVariants.{Dir}
use Rattle.db_state.specs.Stored.{Tables, dir_row}
use Rattle.db_state.specs.Spelled.{Inodes, spelled, IsTree}
use Rattle.db_state.specs.Stands.{Quotas, quota_of, entry_of, Stands}
use Rattle.db_state.specs.Written.{written, next_after}
use Rattle.db_state.specs.Consistent.{flag_at}
use Rattle.db_state.proofs.FlagLaws.{flags_with}
use Rattle.db_state.specs.NewDirs.{new_dirs, paths_below, FirstMissing, Unremoved}
use Rattle.db_state.proofs.PathLaws.{tree_grown, inserted, new_childless}
use Rattle.db_state.proofs.StandLaws.{stands_grown, no_quota}

-- the last of reversed names stands at the end
pub reverse-push : (name : List ℕ) (dir : List (List ℕ)) → reverse (name ∷ dir) ≡ reverse dir ++ name ∷ []
reverse-push name dir = reverse-append (name ∷ []) dir

-- the new row's path spells it
pub new_spelled : (inodes : Inodes) (next : ℕ) (tree : IsTree inodes next) (dir : List (List ℕ)) (parent : Inode) (name : List ℕ) (new : Inode) (at : spelled inodes dir ≡ Some parent) (none : map.get inodes (key.Inode parent.id name) ≡ None) (free : next ≤ new.id.0)
    → spelled (map.insert inodes (key.Inode parent.id name) new) (name ∷ dir) ≡ Some new
new_spelled inodes next tree dir parent name new at none free =
    inserted inodes next tree dir parent name new at none free (name ∷ dir) ∙ (elim (paths_tell (name ∷ dir) (name ∷ dir)) [ inl p ↦ rw p.0 refl | inr p ↦ absurd (p.1 refl) ])

-- nor has it under a new row
pub under_new : (names : List (List ℕ)) (inodes : Inodes) (next : ℕ) (tree : IsTree inodes next) (dir : List (List ℕ)) (parent : Inode) (name : List ℕ) (new : Inode) (at : spelled inodes dir ≡ Some parent) (none : map.get inodes (key.Inode parent.id name) ≡ None) (free : next ≤ new.id.0)
    → FirstMissing (map.insert inodes (key.Inode parent.id name) new) new.id names
under_new [] inodes next tree dir parent name new at none free = tt
under_new (n ∷ names) inodes next tree dir parent name new at none free = new_childless inodes next tree dir parent name new at none free n

-- what is known once the first of the names is made as a new directory
pub record IsFirstMade (inodes : Inodes) (next : ℕ) (dir : List (List ℕ)) (parent : Inode) (name : List ℕ) (names : List (List ℕ)) (new : Inode) : Type 0 where
  pub free : next ≤ new.id.0
  pub tree : IsTree (map.insert inodes (key.Inode parent.id name) new) (next + 1)
  pub there : spelled (map.insert inodes (key.Inode parent.id name) new) (name ∷ dir) ≡ Some new
  pub below : FirstMissing (map.insert inodes (key.Inode parent.id name) new) new.id names

pub first_made : (names : List (List ℕ)) (inodes : Inodes) (next : ℕ) (tree : IsTree inodes next) (dir : List (List ℕ)) (parent : Inode) (name owner : List ℕ) → spelled inodes dir ≡ Some parent → map.get inodes (key.Inode parent.id name) ≡ None → parent.kind ≡ Dir
    → IsFirstMade inodes next dir parent name names (dir_row next owner)
first_made names inodes next tree dir parent name owner at none is_dir =
    let new : Inode = dir_row next owner in
    let free : next ≤ new.id.0 = omega arith in
    record {
      free = free;
      tree = tree_grown inodes next tree dir parent name new at none free is_dir (λ dir. (refl, refl));
      there = new_spelled inodes next tree dir parent name new at none free;
      below = under_new names inodes next tree dir parent name new at none free;
    }

-- the tables with one inode row more
abbrev pub with_inode : Tables → Inode → List ℕ → Inode → Tables
with_inode tables parent name new = record { inodes = map.insert tables.inodes (key.Inode parent.id name) new; quotas = tables.quotas }

-- a chain of new directories leaves the quota rows
pub quotas_chained : (names : List (List ℕ)) (tables : Tables) (parent next : ℕ) (owner : List ℕ) → (written tables (new_dirs parent next owner names)).quotas ≡ tables.quotas
quotas_chained [] tables parent next owner = refl
quotas_chained (name ∷ names) tables parent next owner = quotas_chained names (record { inodes = map.insert tables.inodes (key.Inode (record { 0 = parent }) name) (dir_row next owner); quotas = tables.quotas }) next (next + 1) owner

-- rows with a chain of new directories below a directory spell a tree again
pub tree_chained : (names : List (List ℕ)) (tables : Tables) (next : ℕ) (tree : IsTree tables.inodes next) (dir : List (List ℕ)) (parent : Inode) (owner : List ℕ) → spelled tables.inodes dir ≡ Some parent → parent.kind ≡ Dir → FirstMissing tables.inodes parent.id names
    → IsTree (written tables (new_dirs parent.id.0 next owner names)).inodes (next + length names)
tree_chained [] tables next tree dir parent owner at is_dir none = subst (IsTree tables.inodes) (sym (add-zero next)) tree
tree_chained (name ∷ names) tables next tree dir parent owner at is_dir none =
    let inodes : Inodes = tables.inodes in
    let new : Inode = dir_row next owner in
    let after : Tables = with_inode tables parent name new in
    let made = first_made names inodes next tree dir parent name owner at none is_dir in
    let rest = tree_chained names after (next + 1) made.tree (name ∷ dir) new owner made.there refl made.below in
    let sum : next + 1 + length names ≡ next + suc (length names) = omega arith in
    subst (IsTree (written after (new_dirs next (next + 1) owner names)).inodes) sum rest

-- and they stand for the namespace with the new directories
pub stands_chained : (names : List (List ℕ)) (tables : Tables) (next : ℕ) (tree : IsTree tables.inodes next) (quotas : Quotas) (removed space : Namespace) → Stands tables.inodes quotas removed space → (dir : List (List ℕ)) (parent : Inode) (owner : List ℕ) → spelled tables.inodes dir ≡ Some parent → parent.kind ≡ Dir → FirstMissing tables.inodes parent.id names → Unremoved removed (paths_below (reverse dir) names)
    → Stands (written tables (new_dirs parent.id.0 next owner names)).inodes quotas removed (with_dirs space owner (paths_below (reverse dir) names))
stands_chained [] tables next tree quotas removed space stands dir parent owner at is_dir none unremoved = stands
stands_chained (name ∷ names) tables next tree quotas removed space stands dir parent owner at is_dir none unremoved =
    let inodes : Inodes = tables.inodes in
    let new : Inode = dir_row next owner in
    let after : Tables = with_inode tables parent name new in
    let path : reverse (name ∷ dir) ≡ reverse dir ++ name ∷ [] = reverse-push name dir in
    let made = first_made names inodes next tree dir parent name owner at none is_dir in
    let unquoted : quota_of quotas new.id ≡ None = no_quota inodes next tree quotas removed space stands new.id made.free in
    let entry : entry_of quotas new ≡ spaces.new_dir owner = rw unquoted refl in
    let first : Stands (map.insert inodes (key.Inode parent.id name) new) quotas removed (with_entry space (reverse (name ∷ dir)) (entry_of quotas new)) =
    stands_grown inodes next tree quotas removed space stands dir parent name new at none made.free refl (ap (entry_at removed) path ∙ unremoved.0) in
    let here : Stands (map.insert inodes (key.Inode parent.id name) new) quotas removed (with_entry space (reverse dir ++ name ∷ []) (spaces.new_dir owner)) =
    subst (λ (e : Entry). Stands (map.insert inodes (key.Inode parent.id name) new) quotas removed (with_entry space (reverse dir ++ name ∷ []) e)) entry
    (subst (λ (p : Path). Stands (map.insert inodes (key.Inode parent.id name) new) quotas removed (with_entry space p (entry_of quotas new))) path first) in
    let rest = stands_chained names after (next + 1) made.tree quotas removed (with_entry space (reverse dir ++ name ∷ []) (spaces.new_dir owner)) here (name ∷ dir) new owner made.there refl made.below
    (subst (λ (p : Path). Unremoved removed (paths_below p names)) (sym path) unremoved.1) in
    subst (λ (p : Path). Stands (written after (new_dirs next (next + 1) owner names)).inodes quotas removed (with_dirs (with_entry space (reverse dir ++ name ∷ []) (spaces.new_dir owner)) owner (paths_below p names))) path rest

-- and they leave all flags
pub flags_chained : (names : List (List ℕ)) (tables : Tables) (next : ℕ) (tree : IsTree tables.inodes next) (dir : List (List ℕ)) (parent : Inode) (owner : List ℕ) → spelled tables.inodes dir ≡ Some parent → parent.kind ≡ Dir → FirstMissing tables.inodes parent.id names
    → (k : Key) → flag_at (written tables (new_dirs parent.id.0 next owner names)).inodes k ≡ flag_at tables.inodes k
flags_chained [] tables next tree dir parent owner at is_dir none k = refl
flags_chained (name ∷ names) tables next tree dir parent owner at is_dir none k =
    let inodes : Inodes = tables.inodes in
    let new : Inode = dir_row next owner in
    let after : Tables = with_inode tables parent name new in
    let made = first_made names inodes next tree dir parent name owner at none is_dir in
    let absent : new.flag ≡ flag_at inodes (key.Inode parent.id name) = sym (ap (option_and_then (λ (r : Inode). r.flag)) none) in
    flags_chained names after (next + 1) made.tree (name ∷ dir) new owner made.there refl made.below k
    ∙ flags_with inodes (key.Inode parent.id name) new absent k

-- ---- counted

-- new directories take as many ids as there are names
pub next_chained : (names : List (List ℕ)) (parent next : ℕ) (owner : List ℕ) → next_after next (new_dirs parent next owner names) ≡ next + length names
next_chained [] parent next owner = sym (add-zero next)
next_chained (name ∷ names) parent next owner =
    let here : max next (next + 1) ≡ next + 1 = omega arith in
    let rest = next_chained names next (next + 1) owner in
    let sum : next + 1 + length names ≡ next + suc (length names) = omega arith in
    ap (λ n. next_after n (new_dirs next (next + 1) owner names)) here ∙ rest ∙ sum

-- there are as many paths below a directory as names
pub paths_below-length : (names : List (List ℕ)) (top : Path) → length (paths_below top names) ≡ length names
paths_below-length [] top = refl
paths_below-length (name ∷ names) top = ap suc (paths_below-length names (top ++ name ∷ []))
