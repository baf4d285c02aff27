-- What the place of a path tells of the rows and the namespace.
use Rattle.std.proofs.Common.{◌≡◌, ℕ, ◌+◌, ◌-◌, ◌<◌, ◌≤◌, true, false, nat_lt, List, [], ◌∷◌, ◌++◌, map as list_map, zip, length, drop, reverse, slice_get, Option, Some, None, IfSome, option_map, arith, refl, sym, ap, subst, ◌∙◌}
use Rattle.std.proofs.lemmas.Bool.Decides.{nat_tests}
use Rattle.std.proofs.lemmas.List.{reverse-reverse}
use Rattle.std.specs.List.{AllByRecursion}
use Rattle.hops_base.specs.declared.ids.InodeId.{InodeId}
use Rattle.hops_base.specs.declared.ids.Mode.{Mode}
use Rattle.hops_base.specs.declared.key.Key.{Key}
use Rattle.name_space.specs.Namespace.{Namespace, Path, IsNamespace, entry_at, above, paths_below, missing}
use Rattle.name_space.specs.Quota.{first_some, over_quota}
use Rattle.name_space.proofs.ChainLaws.{missing-below}
use Rattle.inode_table.specs.declared.inode.Inode.{Inode}
use Rattle.inode_table.specs.declared.inode.Kind.TheVariants.{Dir}
use Rattle.quota_table.specs.declared.quota.QuotaRow.{QuotaRow}
use Rattle.db_state.specs.Stored.{Tables}
use Rattle.db_state.specs.Spelled.{Inodes, child_of, spelled, IsTree}
use Rattle.db_state.specs.Stands.{entry_of, Stands}
use Rattle.db_state.specs.Counts.{Counts}
use Rattle.db_state.specs.declared.view.Place.{Place}
use Rattle.db_state.specs.Plan.{deepest, is_whole, last_found}
use Rattle.db_state.specs.Current.{Leads, Spells, SpellsPlace, IsThere, IsMissing, SeesQuotas}
use Rattle.db_state.specs.NewDirs.{FirstMissing}
use Rattle.inode_ops.specs.QuotaSteps.{quota_in, full_at, first_full}
use Rattle.inode_ops.specs.Steps.{missing_names}
use Rattle.inode_ops.proofs.WalkLemmas.{IsAt, IsDeep, at_root, deep, stopped}
use Rattle.inode_ops.proofs.QuotaLemmas.{LocksQuota, rule_is, map-same}

-- the rows of a place as a walk from the root
pub record IsWalk (inodes : Inodes) (locked : List (Key × Mode)) (place : Place) : Type 0 where
  pub first : Key × Inode
  pub rows : List (Key × Inode)
  pub items : place.found.items ≡ first ∷ rows
  pub at : IsAt inodes locked [] first
  pub leads : Leads first.1 place.path rows place.missing
  pub there : AllByRecursion (IsThere inodes locked) (first ∷ rows)
  pub down : IsDeep inodes locked [] place.path first rows place.missing

pub walk_of : (inodes : Inodes) (locked : List (Key × Mode)) (place : Place) → SpellsPlace place → AllByRecursion (IsThere inodes locked) place.found.items → IsWalk inodes locked place
walk_of inodes locked place spells there = go place.found.items refl spells there
  where
    go : (items : List (Key × Inode)) → place.found.items ≡ items → Spells place.path items place.missing → AllByRecursion (IsThere inodes locked) items → IsWalk inodes locked place
    go [] is spells there = absurd spells
    go (first ∷ rows) is spells there =
        let root = at_root inodes locked first spells.0 there.0 in
        record { first = first; rows = rows; items = is; at = root; leads = spells.1; there = there; down = deep inodes locked place.path [] first rows place.missing root spells.1 there.1 }

-- ---- of the place alone

last_some : (first : Key × Inode) (rows : List (Key × Inode)) → (last : Key × Inode) × (slice_get (first ∷ rows) (length rows) ≡ Some last)
last_some first [] = (first, refl)
last_some first (next ∷ rows) = last_some next rows

pub last_from : (place : Place) (first last : Key × Inode) (rows : List (Key × Inode)) → place.found.items ≡ first ∷ rows → slice_get (first ∷ rows) (length rows) ≡ Some last → last_found place ≡ Some last
last_from place first last rows items is =
    let e : length (first ∷ rows) - 1 ≡ length rows = omega arith in
    ap (λ (rs : List (Key × Inode)). slice_get rs (length rs - 1)) items ∙ ap (slice_get (first ∷ rows)) e ∙ is

pub deepest_from : (place : Place) (first last : Key × Inode) (rows : List (Key × Inode)) → place.found.items ≡ first ∷ rows → slice_get (first ∷ rows) (length rows) ≡ Some last → deepest place ≡ Some last.1
deepest_from place first last rows items is = ap (option_map (λ (r : Key × Inode). r.1)) (last_from place first last rows items is)

-- the names that were not found are those behind the rows
pub rest_from : (place : Place) (first : Key × Inode) (rows : List (Key × Inode)) (rest : List (List ℕ)) → place.found.items ≡ first ∷ rows → drop (length rows) place.path ≡ rest → missing_names place ≡ rest
rest_from place first rows rest items drops =
    let e : length (first ∷ rows) - 1 ≡ length rows = omega arith in
    ap (λ (rs : List (Key × Inode)). drop (length rs - 1) place.path) items ∙ ap (λ (n : ℕ). drop n place.path) e ∙ drops

-- a place has a last row
pub some_deepest : (place : Place) → SpellsPlace place → (last : Inode) × (deepest place ≡ Some last)
some_deepest place spells = go place.found.items refl spells
  where
    go : (items : List (Key × Inode)) → place.found.items ≡ items → Spells place.path items place.missing → (last : Inode) × (deepest place ≡ Some last)
    go [] is spells = absurd spells
    go (first ∷ rows) is spells = let last = last_some first rows in (last.0.1, deepest_from place first last.0 rows is last.1)

few_rows : (row : Inode) (names : List (List ℕ)) (rows : List (Key × Inode)) (missing : Option Key) → Leads row names rows missing → length rows ≤ length names
few_rows row [] [] missing leads = omega arith
few_rows row [] (next ∷ rows) missing leads = absurd (let bad : next ∷ rows ≡ [] = leads.0 in cc)
few_rows row (name ∷ names) [] missing leads = omega arith
few_rows row (name ∷ names) (next ∷ rows) missing leads = let rest = few_rows next.1 names rows missing leads.2 in omega arith

-- it has one row at least, and not more than the path has names to them
pub counted_rows : (place : Place) → SpellsPlace place → (1 ≤ length place.found.items) × (length place.found.items ≤ length place.path + 1)
counted_rows place spells = go place.found.items refl spells
  where
    go : (items : List (Key × Inode)) → place.found.items ≡ items → Spells place.path items place.missing → (1 ≤ length place.found.items) × (length place.found.items ≤ length place.path + 1)
    go [] is spells = absurd spells
    go (first ∷ rows) is spells =
        let few = few_rows first.1 place.path rows place.missing spells.1 in
        let long : length place.found.items ≡ length (first ∷ rows) = ap length is in
        (omega arith, omega arith)

-- ---- against the rows

-- a view's place that is current, and rows that stand for the namespace
pub record IsSet (tables : Tables) (next : ℕ) (space : Namespace) (locked : List (Key × Mode)) (seen : List (InodeId × QuotaRow)) (place : Place) : Type 0 where
  pub tree : IsTree tables.inodes next
  pub names : IsNamespace space
  pub stands : Stands tables.inodes tables.quotas [] space
  pub counts : Counts tables.inodes tables.quotas space
  pub sees : SeesQuotas tables.quotas locked seen
  pub none : IsMissing tables.inodes place.missing
  pub walk : IsWalk tables.inodes locked place

module _ (tables : Tables) (next : ℕ) (space : Namespace) (locked : List (Key × Mode)) (seen : List (InodeId × QuotaRow)) (place : Place) (set : IsSet tables next space locked seen place) where
  pub path_is : reverse set.walk.down.dir ++ set.walk.down.rest ≡ place.path
  path_is = set.walk.down.path

  pub last_is : last_found place ≡ Some set.walk.down.bottom
  last_is = last_from place set.walk.first set.walk.down.bottom set.walk.rows set.walk.items set.walk.down.found

  pub deepest_is : deepest place ≡ Some set.walk.down.bottom.1
  deepest_is = deepest_from place set.walk.first set.walk.down.bottom set.walk.rows set.walk.items set.walk.down.found

  pub rest_is : missing_names place ≡ set.walk.down.rest
  rest_is = rest_from place set.walk.first set.walk.rows set.walk.down.rest set.walk.items set.walk.down.drops

  -- a path that is found whole has no further names
  pub whole_rest : is_whole place ≡ true → set.walk.down.rest ≡ []
  whole_rest whole = none set.walk.down.rest (let few = set.walk.down.few in let long = ap length set.walk.items in let lt = less (length place.path) (length place.found.items) whole in omega arith)
    where
      less : (m n : ℕ) → nat_lt m n ≡ true → m < n
      less m n e = grind (arith, nat_tests)

      none : (xs : List (List ℕ)) → length xs ≡ 0 → xs ≡ []
      none [] e = refl
      none (x ∷ xs) e = absurd (omega arith)

  -- any other has
  pub partial_rest : is_whole place ≡ false → (name : List ℕ) × (more : List (List ℕ)) × (set.walk.down.rest ≡ name ∷ more)
  partial_rest part = some set.walk.down.rest refl
    where
      more : (m n : ℕ) → nat_lt m n ≡ false → n ≤ m
      more m n e = grind (arith, nat_tests)

      some : (xs : List (List ℕ)) → set.walk.down.rest ≡ xs → (name : List ℕ) × (more : List (List ℕ)) × (xs ≡ name ∷ more)
      some [] e = absurd (let few = set.walk.down.few in let long = ap length set.walk.items in let le = more (length place.path) (length place.found.items) part in let zero = ap length e in omega arith)
      some (name ∷ rest) e = (name, rest, refl)

  -- the row at the end of those found
  pub bottom_row : Inode
  bottom_row = set.walk.down.at.there.row

  pub bottom_spelt : spelled tables.inodes set.walk.down.dir ≡ Some set.walk.down.at.there.row
  bottom_spelt = set.walk.down.at.spelt

  -- what stands at a path that the rows spell
  pub entry_at_row : (up : List (List ℕ)) → entry_at space (reverse up) ≡ option_map (entry_of tables.quotas) (spelled tables.inodes up)
  entry_at_row up = set.stands.entries (reverse up) ∙ ap (λ (p : List (List ℕ)). option_map (entry_of tables.quotas) (spelled tables.inodes p)) (reverse-reverse up)

  pub entry_bottom : entry_at space (reverse set.walk.down.dir) ≡ Some (entry_of tables.quotas set.walk.down.at.there.row)
  entry_bottom = entry_at_row set.walk.down.dir ∙ ap (option_map (entry_of tables.quotas)) set.walk.down.at.spelt

  -- the first missing name spells no row
  missing_spelt : (name : List ℕ) (more : List (List ℕ)) → set.walk.down.rest ≡ name ∷ more → spelled tables.inodes (name ∷ set.walk.down.dir) ≡ None
  missing_spelt name more is =
      stopped tables.inodes locked next set.tree set.walk.down.dir set.walk.down.bottom name place.missing set.walk.down.bottom.1.kind set.walk.down.at refl
      (subst (λ (names : List (List ℕ)). Leads set.walk.down.bottom.1 names [] place.missing) is set.walk.down.stops) set.none

  pub missing_row : FirstMissing tables.inodes set.walk.down.at.there.row.id set.walk.down.rest
  missing_row = go set.walk.down.rest refl
    where
      go : (names : List (List ℕ)) → set.walk.down.rest ≡ names → FirstMissing tables.inodes set.walk.down.at.there.row.id names
      go [] is = tt
      go (name ∷ names) is = sym (ap (child_of tables.inodes name) set.walk.down.at.spelt) ∙ missing_spelt name names is

  -- nothing stands at it
  pub missing_entry : IfSome (slice_get set.walk.down.rest 0) (λ (name : List ℕ). entry_at space (reverse set.walk.down.dir ++ name ∷ []) ≡ None)
  missing_entry = go set.walk.down.rest refl
    where
      go : (names : List (List ℕ)) → set.walk.down.rest ≡ names → IfSome (slice_get names 0) (λ (name : List ℕ). entry_at space (reverse set.walk.down.dir ++ name ∷ []) ≡ None)
      go [] is = tt
      go (name ∷ names) is =
          ap (entry_at space) (sym (Rattle.db_state.proofs.ChainLaws.reverse-push name set.walk.down.dir)) ∙ entry_at_row (name ∷ set.walk.down.dir) ∙ ap (option_map (entry_of tables.quotas)) (missing_spelt name names is)

  -- the missing prefixes are those of the missing names
  pub missing_is : missing space place.path ≡ paths_below (reverse set.walk.down.dir) set.walk.down.rest
  missing_is = ap (missing space) (sym path_is) ∙ missing-below space set.names (reverse set.walk.down.dir) set.walk.down.rest (ap Rattle.std.proofs.Common.is_some entry_bottom) missing_entry

  -- the rule on the quotas above the path says what those found do
  pub over_is : (names : ℕ) → AllByRecursion (LocksQuota locked) place.found.items → set.walk.down.bottom.1.kind ≡ Dir → is_whole place ≡ false → over_quota space names 0 (above place.path) ≡ first_full place.path place.found.items seen names
  over_is names locks dir part =
      let rest = partial_rest part in
      let few = set.walk.down.few in
      let long : length set.walk.down.rest ≡ length (rest.0 ∷ rest.1) = ap length rest.2 in
      let rule = rule_is tables.inodes tables.quotas space set.stands locked seen set.sees next set.tree set.names set.counts names place.path [] set.walk.first set.walk.rows place.missing set.walk.down.bottom set.walk.at set.walk.leads set.walk.there.1 (subst (AllByRecursion (LocksQuota locked)) set.walk.items locks) set.none set.walk.down.found dir (omega arith) in
      ap (over_quota space names 0) (sym (map-same (above place.path))) ∙ rule
      ∙ ap (λ (ps : List Path). first_some (list_map (λ (d : Path × (Key × Inode)). full_at d.0 names (quota_in seen d.1.1.id)) (zip ps (set.walk.first ∷ set.walk.rows)))) (map-same (above place.path))
      ∙ ap (λ (rs : List (Key × Inode)). first_full place.path rs seen names) (sym set.walk.items)
