-- Laws of the ids of rows that grow: they are those that the history gives their paths.
use Rattle.std.proofs.Common.{◌≡◌, ℕ, ◌+◌, ◌≤◌, List, [], ◌∷◌, ◌++◌, length, reverse, Some, None, arith, add-zero, suc, refl, sym, ap, subst, ◌∙◌, inl, inr, cond}
use Rattle.std.specs.FinMap as map
use Rattle.std.specs.FinMap.Entries.{find-put}
use Rattle.std.proofs.lemmas.List.{reverse-reverse}
use Rattle.hops_base.specs.declared.key.Key.TheVariants as key
use Rattle.hops_base.specs.Path.{path_cmp, path_cmp_total}
use Rattle.hops_base.proofs.Tells.{paths_tell}
use Rattle.name_space.specs.Namespace.{Path, paths_below}
use Rattle.inode_table.specs.declared.inode.Inode.{Inode}
use Rattle.inode_table.specs.declared.inode.Kind.TheVariants.{Dir}
use Rattle.commit_log.specs.Ids.{Numbering, with_new}
use Rattle.db_state.specs.Stored.{Tables, dir_row}
use Rattle.db_state.specs.Spelled.{Inodes, spelled, IsTree, AreGiven}
use Rattle.db_state.specs.Written.{written}
use Rattle.db_state.specs.NewDirs.{new_dirs, FirstMissing}
use Rattle.db_state.proofs.PathLaws.{inserted}
use Rattle.db_state.proofs.ChainLaws.{with_inode, reverse-push, first_made}

-- a new row has the id that its path is given
pub given_grown : (inodes : Inodes) (next : ℕ) (tree : IsTree inodes next) (dir : List (List ℕ)) (parent : Inode) (name : List ℕ) (new : Inode) (at : spelled inodes dir ≡ Some parent) (none : map.get inodes (key.Inode parent.id name) ≡ None) (free : next ≤ new.id.0) (numbering : Numbering)
    → AreGiven inodes numbering → AreGiven (map.insert inodes (key.Inode parent.id name) new) (record { ids = map.Entries.put path_cmp (reverse (name ∷ dir)) new.id.0 numbering.ids; next = numbering.next + 1 })
given_grown inodes next tree dir parent name new at none free numbering given path row e =
    let put = find-put path_cmp path_cmp_total path (reverse (name ∷ dir)) new.id.0 numbering.ids in
    let spelt = inserted inodes next tree dir parent name new at none free (reverse path) in
    put ∙ (elim (paths_tell path (reverse (name ∷ dir))) [
      | inl h ↦ elim (paths_tell (reverse path) (name ∷ dir)) [
        | inl g ↦ (let got : cond (Rattle.hops_base.specs.Path.same_path (reverse path) (name ∷ dir)) (Some new) (spelled inodes (reverse path)) ≡ Some row = sym spelt ∙ e in let same : Some new ≡ Some row = rw g.0 at got in rw h.0 (let is : new ≡ row = cc in ap (λ (r : Inode). Some r.id.0) is))
        | inr g ↦ absurd (g.1 (ap reverse h.1 ∙ reverse-reverse (name ∷ dir)))
      ]
      | inr h ↦ elim (paths_tell (reverse path) (name ∷ dir)) [
        | inl g ↦ absurd (h.1 (sym (reverse-reverse path) ∙ ap reverse g.1))
        | inr g ↦ (let got : cond (Rattle.hops_base.specs.Path.same_path (reverse path) (name ∷ dir)) (Some new) (spelled inodes (reverse path)) ≡ Some row = sym spelt ∙ e in let old : spelled inodes (reverse path) ≡ Some row = rw g.0 at got in rw h.0 (given path row old))
      ]
    ])

-- so have those of a chain of new directories
pub given_chained : (names : List (List ℕ)) (tables : Tables) (next : ℕ) (tree : IsTree tables.inodes next) (dir : List (List ℕ)) (parent : Inode) (owner : List ℕ) → spelled tables.inodes dir ≡ Some parent → parent.kind ≡ Dir → FirstMissing tables.inodes parent.id names → (numbering : Numbering) → numbering.next ≡ next
    → AreGiven tables.inodes numbering → AreGiven (written tables (new_dirs parent.id.0 next owner names)).inodes (with_new numbering (paths_below (reverse dir) names))
given_chained [] tables next tree dir parent owner at is_dir none numbering same given = given
given_chained (name ∷ names) tables next tree dir parent owner at is_dir none numbering same given =
    let inodes : Inodes = tables.inodes in
    let new : Inode = dir_row next owner in
    let wider : Tables = with_inode tables parent name new in
    let path : reverse (name ∷ dir) ≡ reverse dir ++ name ∷ [] = reverse-push name dir in
    let made = first_made names inodes next tree dir parent name owner at none is_dir in
    let after : Numbering = record { ids = map.Entries.put path_cmp (reverse (name ∷ dir)) next numbering.ids; next = numbering.next + 1 } in
    let here : AreGiven (map.insert inodes (key.Inode parent.id name) new) after = given_grown inodes next tree dir parent name new at none made.free numbering given in
    let rest = given_chained names wider (next + 1) made.tree (name ∷ dir) new owner made.there refl made.below after (ap (λ n. n + 1) same) here in
    let as_put : with_new after (paths_below (reverse (name ∷ dir)) names) ≡ with_new numbering (paths_below (reverse dir) (name ∷ names)) =
    ap (λ (p : Path). with_new (record { ids = map.Entries.put path_cmp p next numbering.ids; next = numbering.next + 1 }) (paths_below p names)) path
    ∙ ap (λ n. with_new (record { ids = map.Entries.put path_cmp (reverse dir ++ name ∷ []) n numbering.ids; next = numbering.next + 1 }) (paths_below (reverse dir ++ name ∷ []) names)) (sym same) in
    subst (AreGiven (written wider (new_dirs next (next + 1) owner names)).inodes) as_put rest

-- a numbering that is given new paths goes on by as many
pub next_with_new : (paths : List Path) (numbering : Numbering) → (with_new numbering paths).next ≡ numbering.next + length paths
next_with_new [] numbering = sym (add-zero numbering.next)
next_with_new (path ∷ paths) numbering =
    let rest = next_with_new paths (record { ids = map.Entries.put path_cmp path numbering.next numbering.ids; next = numbering.next + 1 }) in
    let sum : numbering.next + 1 + length paths ≡ numbering.next + suc (length paths) = omega arith in
    rest ∙ sum
