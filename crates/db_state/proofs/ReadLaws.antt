-- Laws of how many rows a path leads through: in each directory above it one, under its next name, there or missing.
use Rattle.std.proofs.Common.{◌≡◌, ℕ, ◌+◌, ◌≤◌, suc, Bool, true, false, cond, List, [], ◌∷◌, ◌++◌, map as list_map, length, reverse, Option, Some, None, option_map, option_to_list, arith, refl, sym, ap, subst, ◌∙◌}
use Rattle.std.specs.List.{filter, AllByRecursion}
use Rattle.std.specs.FinMap as map
use Rattle.std.proofs.lemmas.List.{reverse-reverse, append_assoc, append-nil}
use Rattle.hops_base.specs.declared.key.Key.{Key}
use Rattle.hops_base.specs.declared.key.Key.TheVariants as key
use Rattle.name_space.specs.Namespace.{Namespace, Path, entry_at, is_dir, above}
use Rattle.inode_table.specs.declared.inode.Inode.{Inode}
use Rattle.inode_table.specs.declared.inode.Kind.{Kind}
use Rattle.inode_table.specs.declared.inode.Kind.TheVariants.{Dir, File}
use Rattle.db_state.specs.declared.view.Place.{Place}
use Rattle.db_state.specs.Spelled.{Inodes, child_of, spelled, IsTree}
use Rattle.db_state.specs.Stands.{Quotas, quota_of, entry_of, entry_of_kind, Stands}
use Rattle.db_state.specs.Current.{stops_at, Leads, Spells, SpellsPlace, IsMissing}
use Rattle.db_state.proofs.PathLaws.{keyed}
use Rattle.db_state.proofs.ChainLaws.{reverse-push}

-- ---- what passes a test

passing_first : (test : Path → Bool) (path : Path) (paths : List Path) → length (filter test (path ∷ paths)) ≡ cond (test path) (suc (length (filter test paths))) (length (filter test paths))
passing_first test path paths = elim (test path) as (λ b. length (cond b (path ∷ filter test paths) (filter test paths)) ≡ cond b (suc (length (filter test paths))) (length (filter test paths))) [
  | true ↦ refl
  | false ↦ refl
]

-- as many of the paths pass as without a first name that all have
passing_under : (test other : Path → Bool) (name : List ℕ) → ((path : Path) → test (name ∷ path) ≡ other path) → (paths : List Path) → length (filter test (list_map (λ (up : Path). name ∷ up) paths)) ≡ length (filter other paths)
passing_under test other name same [] = refl
passing_under test other name same (path ∷ paths) =
    let rest = passing_under test other name same paths in
    passing_first test (name ∷ path) (list_map (λ (up : Path). name ∷ up) paths)
    ∙ ap (λ (n : ℕ). cond (test (name ∷ path)) (suc n) n) rest
    ∙ ap (λ (b : Bool). cond b (suc (length (filter other paths))) (length (filter other paths))) (same path)
    ∙ sym (passing_first other path paths)

-- ---- in rows that stand for a namespace

module _ (inodes : Inodes) (next : ℕ) (tree : IsTree inodes next) (quotas : Quotas) (space : Namespace) (stands : Stands inodes quotas [] space) where
  -- nothing stands under a file
  pub none_under_file : (up : List (List ℕ)) (row : Inode) (name : List ℕ) → spelled inodes up ≡ Some row → row.kind ≡ File → map.get inodes (key.Inode row.id name) ≡ None
  none_under_file up row name here file =
      (elim (map.get inodes (key.Inode row.id name)) as (λ o. map.get inodes (key.Inode row.id name) ≡ o → o ≡ None) [
        | None ↦ λ e. refl
        | Some child ↦ λ e. absurd (
            let own = keyed inodes up row here in
            let range = tree.range own.0 row own.1 in
            let low : 1 ≤ row.id.0 = range.0 in
            let dir = tree.parents row.id name child e (λ zero. omega arith) in
            let same = tree.apart dir.at own.0 dir.row row dir.there own.1 dir.is in
            let found : map.get inodes own.0 ≡ Some dir.row = subst (λ (k : Key). map.get inodes k ≡ Some dir.row) same dir.there in
            let rows : Some dir.row ≡ Some row = sym found ∙ own.1 in
            let is : dir.row ≡ row = cc in
            let kinds : Dir ≡ File = sym dir.dir ∙ ap (λ (r : Inode). r.kind) is ∙ file in
            cc)
      ]) refl

  -- the directories among the paths above these names, where they stand below a path whose last name comes first
  abbrev dirs_above : List (List ℕ) → List (List ℕ) → ℕ
  dirs_above up names = length (filter (λ (path : Path). is_dir (entry_at space (reverse up ++ path))) (above names))

  entry_here : (up : List (List ℕ)) → entry_at space (reverse up ++ []) ≡ option_map (entry_of quotas) (spelled inodes up)
  entry_here up =
      ap (entry_at space) (append-nil (reverse up))
      ∙ stands.entries (reverse up)
      ∙ ap (λ (p : List (List ℕ)). option_map (entry_of quotas) (spelled inodes p)) (reverse-reverse up)

  dirs_step : (up : List (List ℕ)) (name : List ℕ) (names : List (List ℕ))
      → dirs_above up (name ∷ names) ≡ cond (is_dir (option_map (entry_of quotas) (spelled inodes up))) (suc (dirs_above (name ∷ up) names)) (dirs_above (name ∷ up) names)
  dirs_step up name names =
      passing_first (λ (path : Path). is_dir (entry_at space (reverse up ++ path))) [] (list_map (λ (path : Path). name ∷ path) (above names))
      ∙ ap (λ (n : ℕ). cond (is_dir (entry_at space (reverse up ++ []))) (suc n) n)
      (passing_under (λ (path : Path). is_dir (entry_at space (reverse up ++ path))) (λ (path : Path). is_dir (entry_at space (reverse (name ∷ up) ++ path))) name
      (λ path. ap (λ (p : Path). is_dir (entry_at space p)) (sym (append_assoc (reverse up) (name ∷ []) path) ∙ sym (ap (λ (p : Path). p ++ path) (reverse-push name up)))) (above names))
      ∙ ap (λ (e : Option _). cond (is_dir e) (suc (dirs_above (name ∷ up) names)) (dirs_above (name ∷ up) names)) (entry_here up)

  -- below what isn't there nothing is a directory
  none_above : (names up : List (List ℕ)) → spelled inodes up ≡ None → dirs_above up names ≡ 0
  none_above [] up none = refl
  none_above (name ∷ names) up none =
      dirs_step up name names
      ∙ ap (λ (o : Option Inode). cond (is_dir (option_map (entry_of quotas) o)) (suc (dirs_above (name ∷ up) names)) (dirs_above (name ∷ up) names)) none
      ∙ none_above names (name ∷ up) (ap (child_of inodes name) none)

  -- a row's kind says whether its path is one
  dirs_kind : (up : List (List ℕ)) (name : List ℕ) (names : List (List ℕ)) (row : Inode) (kind : Kind) → spelled inodes up ≡ Some row → row.kind ≡ kind
      → dirs_above up (name ∷ names) ≡ cond (is_dir (Some (entry_of_kind kind row (quota_of quotas row.id)))) (suc (dirs_above (name ∷ up) names)) (dirs_above (name ∷ up) names)
  dirs_kind up name names row kind here is =
      dirs_step up name names
      ∙ ap (λ (o : Option Inode). cond (is_dir (option_map (entry_of quotas) o)) (suc (dirs_above (name ∷ up) names)) (dirs_above (name ∷ up) names)) here
      ∙ ap (λ (k : Kind). cond (is_dir (Some (entry_of_kind k row (quota_of quotas row.id)))) (suc (dirs_above (name ∷ up) names)) (dirs_above (name ∷ up) names)) is

  -- where the rows end, the next name was read in a directory, and below a file none was
  stopped : (up : List (List ℕ)) (name : List ℕ) (names : List (List ℕ)) (row : Inode) (missing : Option Key) (kind : Kind) → spelled inodes up ≡ Some row → row.kind ≡ kind → missing ≡ stops_at kind row.id name → IsMissing inodes missing
      → length (option_to_list missing) ≡ dirs_above up (name ∷ names)
  stopped up name names row missing Dir here is stops gone =
      let none : spelled inodes (name ∷ up) ≡ None = ap (child_of inodes name) here ∙ subst (IsMissing inodes) stops gone in
      ap (λ (o : Option Key). length (option_to_list o)) stops ∙ sym (dirs_kind up name names row Dir here is ∙ ap suc (none_above names (name ∷ up) none))
  stopped up name names row missing File here is stops gone =
      let none : spelled inodes (name ∷ up) ≡ None = ap (child_of inodes name) here ∙ none_under_file up row name here is in
      ap (λ (o : Option Key). length (option_to_list o)) stops ∙ sym (dirs_kind up name names row File here is ∙ none_above names (name ∷ up) none)

  -- the rows that the names lead through below a row, and the missing one, are as many as the directories above them
  led : (names up : List (List ℕ)) (row : Inode) (rows : List (Key × Inode)) (missing : Option Key) → spelled inodes up ≡ Some row → Leads row names rows missing
      → AllByRecursion (λ (found : Key × Inode). map.get inodes found.0 ≡ Some found.1) rows → IsMissing inodes missing → length rows + length (option_to_list missing) ≡ dirs_above up names
  led [] up row [] missing here leads there gone = ap (λ (o : Option Key). 0 + length (option_to_list o)) leads.1
  led [] up row (found ∷ rows) missing here leads there gone = absurd (let bad : found ∷ rows ≡ [] = leads.0 in cc)
  led (name ∷ names) up row [] missing here leads there gone = let rest = stopped up name names row missing row.kind here refl leads gone in omega arith
  led (name ∷ names) up row (found ∷ rows) missing here leads there gone =
      let below : spelled inodes (name ∷ up) ≡ Some found.1 = ap (child_of inodes name) here ∙ ap (map.get inodes) (sym leads.1) ∙ there.0 in
      let rest = led names (name ∷ up) found.1 rows missing below leads.2 there.1 gone in
      let here_too : dirs_above up (name ∷ names) ≡ suc (dirs_above (name ∷ up) names) = dirs_kind up name names row Dir here leads.0 in
      omega arith

  -- the rows that were found for a path below the root's, and the missing one, are as many as the directories above the
  -- path
  pub rows_of_place : (place : Place) → SpellsPlace place → AllByRecursion (λ (found : Key × Inode). map.get inodes found.0 ≡ Some found.1) place.found.items → IsMissing inodes place.missing
      → length place.found.items + length (option_to_list place.missing) ≡ length (filter (λ (path : Path). is_dir (entry_at space path)) (above place.path)) + 1
  rows_of_place place spells there gone = go place.found.items spells there
    where
      go : (items : List (Key × Inode)) → Spells place.path items place.missing → AllByRecursion (λ (found : Key × Inode). map.get inodes found.0 ≡ Some found.1) items
          → length items + length (option_to_list place.missing) ≡ length (filter (λ (path : Path). is_dir (entry_at space path)) (above place.path)) + 1
      go [] spells there = absurd spells
      go (root ∷ rows) spells there =
          let here : spelled inodes [] ≡ Some root.1 = ap (map.get inodes) (sym spells.0) ∙ there.0 in
          let rest : length rows + length (option_to_list place.missing) ≡ length (filter (λ (path : Path). is_dir (entry_at space path)) (above place.path)) = led place.path [] root.1 rows place.missing here spells.1 there.1 gone in
          omega arith
