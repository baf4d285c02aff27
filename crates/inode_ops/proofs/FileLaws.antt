-- Laws of rows that grow by a chain of new directories and a new file below them.
use Rattle.std.proofs.Common.{◌≡◌, ℕ, ◌+◌, max, List, [], ◌∷◌, ◌++◌, length, reverse, Bool, true, false, cond, Option, Some, None, option_and_then, arith, add-zero, suc, refl, sym, ap, subst, ◌∙◌}
use Rattle.std.specs.FinMap as map
use Rattle.std.proofs.lemmas.List.{reverse-reverse, append_assoc, append-nil}
use Rattle.hops_base.specs.declared.ids.ClientNo.{ClientNo}
use Rattle.hops_base.specs.declared.ids.InodeId.{InodeId}
use Rattle.hops_base.specs.declared.key.Key.{Key}
use Rattle.hops_base.specs.declared.key.Key.TheVariants as key
use Rattle.hops_base.specs.Path.{path_cmp, same_path}
use Rattle.name_space.specs.Namespace as spaces
use Rattle.name_space.specs.declared.entry.Entry.{Entry}
use Rattle.name_space.specs.Namespace.{Namespace, Path, entry_at, with_entry}
use Rattle.name_space.specs.Plain as plain
use Rattle.name_space.specs.Plain.{with_dirs}
use Rattle.name_space.proofs.NamespaceLaws.{entry_at-with_entry}
use Rattle.inode_table.specs.declared.inode.Inode.{Inode}
use Rattle.inode_table.specs.declared.inode.Kind.TheVariants.{Dir}
use Rattle.commit_log.specs.Ids.{Numbering, with_new}
use Rattle.db_state.specs.Stored.{Tables, dir_row}
use Rattle.db_state.specs.Spelled.{Inodes, spelled, IsTree, AreGiven}
use Rattle.db_state.specs.Stands.{Quotas, entry_of, Stands}
use Rattle.db_state.specs.Consistent.{flag_at}
use Rattle.db_state.proofs.FlagLaws.{flags_with}
use Rattle.db_state.specs.Written.{written, next_after}
use Rattle.db_state.specs.declared.writes.Row.{Row}
use Rattle.db_state.specs.declared.writes.Row.TheVariants as row
use Rattle.db_state.specs.NewDirs.{new_dirs, paths_below, FirstMissing, Unremoved}
use Rattle.inode_ops.specs.NewFile.{file_row, new_file_rows, last_dir}
use Rattle.db_state.proofs.PathLaws.{same_id, tree_grown}
use Rattle.db_state.proofs.StandLaws.{stands_grown}
use Rattle.db_state.proofs.WrittenLaws.{written-append, next_after-append}
use Rattle.db_state.proofs.ChainLaws.{with_inode, reverse-push, first_made, next_chained, paths_below-length, tree_chained, stands_chained, quotas_chained, flags_chained}
use Rattle.db_state.proofs.NumberLaws.{given_grown, given_chained, next_with_new}

-- ---- the writes

-- the rows of the directories come first, and then the file's
pub new_file_rows-last : (names : List (List ℕ)) (parent next : ℕ) (owner last : List ℕ) (client : ClientNo)
    → new_file_rows parent next owner names last client ≡ new_dirs parent next owner names ++ (key.Inode (record { 0 = last_dir parent next names }) last, Some (row.Inode (file_row (next + length names) client owner))) ∷ []
new_file_rows-last [] parent next owner last client = ap (λ (n : ℕ). (key.Inode (record { 0 = parent }) last, Some (row.Inode (file_row n client owner))) ∷ []) (sym (add-zero next))
new_file_rows-last (name ∷ names) parent next owner last client =
    let sum : next + 1 + length names ≡ next + suc (length names) = omega arith in
    ap (λ (ws : List (Key × Option Row)). (key.Inode (record { 0 = parent }) name, Some (row.Inode (dir_row next owner))) ∷ ws)
    (new_file_rows-last names next (next + 1) owner last client
    ∙ ap (λ (n : ℕ). new_dirs next (next + 1) owner names ++ (key.Inode (record { 0 = last_dir next (next + 1) names }) last, Some (row.Inode (file_row n client owner))) ∷ []) sum)

-- the tables once the directories are there have the file's row added
pub written_file : (names : List (List ℕ)) (tables : Tables) (parent next : ℕ) (owner last : List ℕ) (client : ClientNo)
    → written tables (new_file_rows parent next owner names last client) ≡ record { inodes = map.insert (written tables (new_dirs parent next owner names)).inodes (key.Inode (record { 0 = last_dir parent next names }) last) (file_row (next + length names) client owner); quotas = (written tables (new_dirs parent next owner names)).quotas }
written_file names tables parent next owner last client =
    ap (written tables) (new_file_rows-last names parent next owner last client)
    ∙ written-append (new_dirs parent next owner names) ((key.Inode (record { 0 = last_dir parent next names }) last, Some (row.Inode (file_row (next + length names) client owner))) ∷ []) tables

-- the quota rows stay
pub quotas_filed : (names : List (List ℕ)) (tables : Tables) (parent next : ℕ) (owner last : List ℕ) (client : ClientNo) → (written tables (new_file_rows parent next owner names last client)).quotas ≡ tables.quotas
quotas_filed names tables parent next owner last client = ap (λ (t : Tables). t.quotas) (written_file names tables parent next owner last client) ∙ quotas_chained names tables parent next owner

-- new directories and a file below them take an id for each of their names
pub next_filed : (names : List (List ℕ)) (parent next : ℕ) (owner last : List ℕ) (client : ClientNo) → next_after next (new_file_rows parent next owner names last client) ≡ next + length names + 1
next_filed names parent next owner last client =
    let file : List (Key × Option Row) = (key.Inode (record { 0 = last_dir parent next names }) last, Some (row.Inode (file_row (next + length names) client owner))) ∷ [] in
    let here : max (next + length names) (next + length names + 1) ≡ next + length names + 1 = omega arith in
    ap (next_after next) (new_file_rows-last names parent next owner last client)
    ∙ next_after-append (new_dirs parent next owner names) file next
    ∙ ap (λ n. next_after n file) (next_chained names parent next owner)
    ∙ here

-- ---- the last of the directories

-- what is known of the row under which the file comes to stand
pub record IsEnd (inodes : Inodes) (dir : List (List ℕ)) (id : ℕ) (name : List ℕ) (lowest : Inode) : Type 0 where
  pub there : spelled inodes dir ≡ Some lowest
  pub folder : lowest.kind ≡ Dir
  pub numbered : lowest.id.0 ≡ id
  pub free : map.get inodes (key.Inode lowest.id name) ≡ None

-- a chain of new directories ends in a directory under which the next name is free
pub chain_end : (names : List (List ℕ)) (tables : Tables) (next : ℕ) (tree : IsTree tables.inodes next) (dir : List (List ℕ)) (parent : Inode) (owner last : List ℕ) → spelled tables.inodes dir ≡ Some parent → parent.kind ≡ Dir → FirstMissing tables.inodes parent.id (names ++ last ∷ [])
    → (lowest : Inode) × IsEnd (written tables (new_dirs parent.id.0 next owner names)).inodes (reverse (reverse dir ++ names)) (last_dir parent.id.0 next names) last lowest
chain_end [] tables next tree dir parent owner last at is_dir none =
    let path : reverse (reverse dir ++ []) ≡ dir = ap reverse (append-nil (reverse dir)) ∙ reverse-reverse dir in
    (parent, record { there = ap (spelled tables.inodes) path ∙ at; folder = is_dir; numbered = refl; free = none })
chain_end (name ∷ names) tables next tree dir parent owner last at is_dir none =
    let inodes : Inodes = tables.inodes in
    let new : Inode = dir_row next owner in
    let after : Tables = with_inode tables parent name new in
    let made = first_made (names ++ last ∷ []) inodes next tree dir parent name owner at none is_dir in
    let rest = chain_end names after (next + 1) made.tree (name ∷ dir) new owner last made.there refl made.below in
    let path : reverse (name ∷ dir) ++ names ≡ reverse dir ++ name ∷ names = ap (λ (p : Path). p ++ names) (reverse-push name dir) ∙ append_assoc (reverse dir) (name ∷ []) names in
    (rest.0, subst (λ (p : Path). IsEnd (written after (new_dirs next (next + 1) owner names)).inodes (reverse p) (last_dir next (next + 1) names) last rest.0) path rest.1)

-- the first of more names is missing where the first of some is
pub first_missing : (names : List (List ℕ)) (inodes : Inodes) (parent : InodeId) (last : List ℕ) → FirstMissing inodes parent (names ++ last ∷ []) → FirstMissing inodes parent names
first_missing [] inodes parent last none = tt
first_missing (name ∷ names) inodes parent last none = none

-- ---- paths

-- the paths of names and one more
pub paths_below-last : (names : List (List ℕ)) (top : Path) (last : List ℕ) → paths_below top (names ++ last ∷ []) ≡ paths_below top names ++ (top ++ (names ++ last ∷ [])) ∷ []
paths_below-last [] top last = refl
paths_below-last (name ∷ names) top last =
    ap (λ (ps : List Path). (top ++ name ∷ []) ∷ ps) (paths_below-last names (top ++ name ∷ []) last
    ∙ ap (λ (p : Path). paths_below (top ++ name ∷ []) names ++ p ∷ []) (append_assoc top (name ∷ []) (names ++ last ∷ [])))

-- where none of more paths was removed, none of some was, nor the last
unremoved_both : (paths : List Path) (removed : Namespace) (path : Path) → Unremoved removed (paths ++ path ∷ []) → Unremoved removed paths × (entry_at removed path ≡ None)
unremoved_both [] removed path all = (tt, all.0)
unremoved_both (p ∷ paths) removed path all = let rest = unremoved_both paths removed path all.1 in ((all.0, rest.0), rest.1)

-- a numbering that is given one path more
with_new-last : (paths : List Path) (numbering : Numbering) (path : Path) → with_new numbering (paths ++ path ∷ []) ≡ record { ids = map.Entries.put path_cmp path (with_new numbering paths).next (with_new numbering paths).ids; next = (with_new numbering paths).next + 1 }
with_new-last [] numbering path = refl
with_new-last (p ∷ paths) numbering path = with_new-last paths (record { ids = map.Entries.put path_cmp p numbering.next numbering.ids; next = numbering.next + 1 }) path

-- rows stand for each namespace in which the same stands everywhere
pub stands_same : (inodes : Inodes) (quotas : Quotas) (removed space after : Namespace) → Stands inodes quotas removed space → ((path : Path) → entry_at after path ≡ entry_at space path) → Stands inodes quotas removed after
stands_same inodes quotas removed space after stands same = record {
  entries = λ path. same path ∙ stands.entries path;
  once = stands.once;
  apart = stands.apart;
  keys = stands.keys;
  rows = stands.rows;
  marks = stands.marks;
}

-- a directory at the path of the file changes nothing once the file is there
dirs_last : (paths : List Path) (space : Namespace) (owner : List ℕ) (path : Path) (entry : Entry) (q : Path)
    → entry_at (with_entry (with_dirs space owner (paths ++ path ∷ [])) path entry) q ≡ entry_at (with_entry (with_dirs space owner paths) path entry) q
dirs_last [] space owner path entry q =
    entry_at-with_entry (with_entry space path (spaces.new_dir owner)) path entry q
    ∙ ap (cond (same_path q path) (Some entry)) (entry_at-with_entry space path (spaces.new_dir owner) q)
    ∙ twice (same_path q path) (Some entry) (Some (spaces.new_dir owner)) (entry_at space q)
    ∙ sym (entry_at-with_entry space path entry q)
  where
    twice : (b : Bool) (x y z : Option Entry) → cond b x (cond b y z) ≡ cond b x z
    twice true x y z = refl
    twice false x y z = refl
dirs_last (p ∷ paths) space owner path entry q = dirs_last paths (with_entry space p (spaces.new_dir owner)) owner path entry q

-- ---- the rows with the file

module _ (names : List (List ℕ)) (tables : Tables) (next : ℕ) (tree : IsTree tables.inodes next) (dir : List (List ℕ)) (parent : Inode) (owner last : List ℕ) (client : ClientNo)
    (at : spelled tables.inodes dir ≡ Some parent) (is_dir : parent.kind ≡ Dir) (none : FirstMissing tables.inodes parent.id (names ++ last ∷ [])) where
  -- the rows once the directories are there
  abbrev made : Inodes
  made = (written tables (new_dirs parent.id.0 next owner names)).inodes

  -- they spell a tree
  pub made_tree : IsTree (written tables (new_dirs parent.id.0 next owner names)).inodes (next + length names)
  made_tree = tree_chained names tables next tree dir parent owner at is_dir (first_missing names tables.inodes parent.id last none)

  -- a row under the last directory's id is one under it
  pub filed_rows : (lowest : Inode) → lowest.id.0 ≡ last_dir parent.id.0 next names
      → map.insert (written tables (new_dirs parent.id.0 next owner names)).inodes (key.Inode lowest.id last) (file_row (next + length names) client owner) ≡ (written tables (new_file_rows parent.id.0 next owner names last client)).inodes
  filed_rows lowest same =
      let ids : lowest.id ≡ record { 0 = last_dir parent.id.0 next names } = same_id lowest.id (record { 0 = last_dir parent.id.0 next names }) same in
      ap (λ (i : InodeId). map.insert (written tables (new_dirs parent.id.0 next owner names)).inodes (key.Inode i last) (file_row (next + length names) client owner)) ids
      ∙ sym (ap (λ (t : Tables). t.inodes) (written_file names tables parent.id.0 next owner last client))

  -- the rows spell a tree
  pub tree_filed : IsTree (written tables (new_file_rows parent.id.0 next owner names last client)).inodes (next + length names + 1)
  tree_filed =
      let low = chain_end names tables next tree dir parent owner last at is_dir none in
      subst (λ (inodes : Inodes). IsTree inodes (next + length names + 1)) (filed_rows low.0 low.1.numbered)
      (tree_grown (written tables (new_dirs parent.id.0 next owner names)).inodes (next + length names) made_tree (reverse (reverse dir ++ names)) low.0 last (file_row (next + length names) client owner) low.1.there low.1.free (omega arith) low.1.folder (λ dir. absurd (let bad = dir in cc)))

  -- they bear the flags that they bore
  pub flags_filed : (k : Key) → flag_at (written tables (new_file_rows parent.id.0 next owner names last client)).inodes k ≡ flag_at tables.inodes k
  flags_filed k =
      let low = chain_end names tables next tree dir parent owner last at is_dir none in
      let absent : None ≡ flag_at made (key.Inode low.0.id last) = sym (ap (option_and_then (λ (r : Inode). r.flag)) low.1.free) in
      ap (λ (inodes : Inodes). flag_at inodes k) (sym (filed_rows low.0 low.1.numbered))
      ∙ flags_with made (key.Inode low.0.id last) (file_row (next + length names) client owner) absent k
      ∙ flags_chained names tables next tree dir parent owner at is_dir (first_missing names tables.inodes parent.id last none) k

  -- the file's path
  pub path_is : reverse (last ∷ reverse (reverse dir ++ names)) ≡ reverse dir ++ (names ++ last ∷ [])
  path_is = reverse-push last (reverse (reverse dir ++ names)) ∙ ap (λ (p : Path). p ++ last ∷ []) (reverse-reverse (reverse dir ++ names)) ∙ append_assoc (reverse dir) names (last ∷ [])

  -- they have the ids that the paths are given in turn
  pub given_filed : (numbering : Numbering) → numbering.next ≡ next → AreGiven tables.inodes numbering → AreGiven (written tables (new_file_rows parent.id.0 next owner names last client)).inodes (with_new numbering (paths_below (reverse dir) (names ++ last ∷ [])))
  given_filed numbering same given =
      let low = chain_end names tables next tree dir parent owner last at is_dir none in
      let ups : List Path = paths_below (reverse dir) names in
      let before : Numbering = with_new numbering ups in
      let chained = given_chained names tables next tree dir parent owner at is_dir (first_missing names tables.inodes parent.id last none) numbering same given in
      let grown = given_grown (written tables (new_dirs parent.id.0 next owner names)).inodes (next + length names) made_tree (reverse (reverse dir ++ names)) low.0 last (file_row (next + length names) client owner) low.1.there low.1.free (omega arith) before chained in
      let number : next + length names ≡ before.next = sym (next_with_new ups numbering ∙ (λ i. same i + paths_below-length names (reverse dir) i)) in
      let as_put : record { ids = map.Entries.put path_cmp (reverse (last ∷ reverse (reverse dir ++ names))) (next + length names) before.ids; next = before.next + 1 } ≡ with_new numbering (paths_below (reverse dir) (names ++ last ∷ [])) =
      ap (λ (p : Path). record { ids = map.Entries.put path_cmp p (next + length names) before.ids; next = before.next + 1 }) path_is
      ∙ ap (λ (n : ℕ). record { ids = map.Entries.put path_cmp (reverse dir ++ (names ++ last ∷ [])) n before.ids; next = before.next + 1 }) number
      ∙ sym (with_new-last ups numbering (reverse dir ++ (names ++ last ∷ [])))
      ∙ ap (with_new numbering) (sym (paths_below-last names (reverse dir) last)) in
      subst (λ (n : Numbering). AreGiven (written tables (new_file_rows parent.id.0 next owner names last client)).inodes n) as_put
      (subst (λ (inodes : Inodes). AreGiven inodes (record { ids = map.Entries.put path_cmp (reverse (last ∷ reverse (reverse dir ++ names))) (next + length names) before.ids; next = before.next + 1 })) (filed_rows low.0 low.1.numbered) grown)

  -- and they stand for the namespace with the new directories and the file
  pub stands_filed : (quotas : Quotas) (removed space : Namespace) → Stands tables.inodes quotas removed space → Unremoved removed (paths_below (reverse dir) (names ++ last ∷ []))
      → Stands (written tables (new_file_rows parent.id.0 next owner names last client)).inodes quotas removed (with_entry (with_dirs space owner (paths_below (reverse dir) (names ++ last ∷ []))) (reverse dir ++ (names ++ last ∷ [])) (plain.new_file client owner))
  stands_filed quotas removed space stands unremoved =
      let low = chain_end names tables next tree dir parent owner last at is_dir none in
      let ups : List Path = paths_below (reverse dir) names in
      let path : Path = reverse dir ++ (names ++ last ∷ []) in
      let new : Inode = file_row (next + length names) client owner in
      let split : paths_below (reverse dir) (names ++ last ∷ []) ≡ ups ++ path ∷ [] = paths_below-last names (reverse dir) last in
      let apart = unremoved_both ups removed path (subst (Unremoved removed) split unremoved) in
      let chained = stands_chained names tables next tree quotas removed space stands dir parent owner at is_dir (first_missing names tables.inodes parent.id last none) apart.0 in
      let entry : entry_of quotas new ≡ plain.new_file client owner = refl in
      let grown : Stands (map.insert made (key.Inode low.0.id last) new) quotas removed (with_entry (with_dirs space owner ups) (reverse (last ∷ reverse (reverse dir ++ names))) (entry_of quotas new)) =
      stands_grown made (next + length names) made_tree quotas removed (with_dirs space owner ups) chained (reverse (reverse dir ++ names)) low.0 last new low.1.there low.1.free (omega arith) refl (ap (entry_at removed) path_is ∙ apart.1) in
      let here : Stands (map.insert made (key.Inode low.0.id last) new) quotas removed (with_entry (with_dirs space owner ups) path (plain.new_file client owner)) =
      subst (λ (e : Entry). Stands (map.insert made (key.Inode low.0.id last) new) quotas removed (with_entry (with_dirs space owner ups) path e)) entry
      (subst (λ (p : Path). Stands (map.insert made (key.Inode low.0.id last) new) quotas removed (with_entry (with_dirs space owner ups) p (entry_of quotas new))) path_is grown) in
      stands_same _ quotas removed (with_entry (with_dirs space owner ups) path (plain.new_file client owner)) _ (subst (λ (inodes : Inodes). Stands inodes quotas removed (with_entry (with_dirs space owner ups) path (plain.new_file client owner))) (filed_rows low.0 low.1.numbered) here)
      (λ q. ap (λ (ps : List Path). entry_at (with_entry (with_dirs space owner ps) path (plain.new_file client owner)) q) split ∙ dirs_last ups space owner path (plain.new_file client owner) q)
