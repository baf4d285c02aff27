-- The quota rows of the directories found, against the rule on the namespace.
use Rattle.std.proofs.Common.{◌≡◌, ℕ, ◌+◌, ◌≤◌, ◌<◌, Bool, true, false, cond, ◌==◌, List, [], ◌∷◌, ◌++◌, map as list_map, zip, length, take, drop, reverse, slice_get, Option, Some, None, is_some, option_map, arith, zero, suc, refl, sym, ap, subst, ◌∙◌, inl, inr, append-nil}
use Rattle.std.proofs.lemmas.Bool.{true≢false, or_left, or_right, or_cases}
use Rattle.std.proofs.lemmas.Bool.Decides.{nat_tests}
use Rattle.std.proofs.lemmas.List.{reverse-reverse}
use Rattle.std.proofs.lemmas.List.Folds.{list_any-append}
use Rattle.std.specs.List.{AllByRecursion, list_any, flat_map}
use Rattle.std.specs.Option.{option_or}
use Rattle.hops_base.specs.declared.ids.InodeId.{InodeId}
use Rattle.hops_base.specs.declared.ids.Mode.{Mode}
use Rattle.hops_base.specs.declared.key.Key.{Key}
use Rattle.hops_base.specs.declared.key.Key.TheVariants as key
use Rattle.hops_base.specs.Key.{same_key}
use Rattle.name_space.specs.declared.entry.Entry.{Entry}
use Rattle.name_space.specs.declared.reply.Exception.{Exception}
use Rattle.name_space.specs.Namespace.{Namespace, Path, IsNamespace, entry_at, above}
use Rattle.name_space.proofs.NamespaceLaws.{missing_within}
use Rattle.name_space.proofs.PathLaws.{is_within-append}
use Rattle.name_space.specs.Quota.{first_some, refused_by, over_quota}
use Rattle.inode_table.specs.declared.inode.Inode.{Inode}
use Rattle.inode_table.specs.declared.inode.Kind.{Kind}
use Rattle.inode_table.specs.declared.inode.Kind.TheVariants.{Dir}
use Rattle.quota_table.specs.declared.quota.QuotaRow.{QuotaRow}
use Rattle.db_state.specs.Spelled.{Inodes, row_of, spelled, IsTree}
use Rattle.db_state.specs.Stands.{Quotas, quota_of, entry_of, entry_of_kind, Stands}
use Rattle.db_state.specs.Counts.{Counts}
use Rattle.db_state.specs.Plan.{where_so}
use Rattle.db_state.specs.Current.{Leads, IsThere, IsMissing, SeesQuotas, is_locked}
use Rattle.inode_ops.specs.QuotaSteps.{quota_in, full_at, has_id}
use Rattle.inode_ops.proofs.OwnLemmas.{itself}
use Rattle.inode_ops.proofs.WalkLemmas.{IsAt, at_next, stopped, regroup}

-- ---- lists of paths

pub map-map : {A B C : Type 0} (f : B → C) (g : A → B) (xs : List A) → list_map f (list_map g xs) ≡ list_map (λ (x : A). f (g x)) xs
map-map f g [] = refl
map-map f g (x ∷ xs) = ap (λ ys. f (g x) ∷ ys) (map-map f g xs)

zip-none : (xs : List Path) → zip {X = Key × Inode} xs [] ≡ []
zip-none [] = refl
zip-none (x ∷ xs) = refl

-- the pair at a place of the paths above a path and the rows
abbrev pub HasPair : List Path → List (Key × Inode) → Path → ℕ → Type 0
HasPair ups rows up i = (found : Key × Inode) × (slice_get rows i ≡ Some found) × (drop i (zip ups rows) ≡ (up, found) ∷ drop (suc i) (zip ups rows))

next_pair : (f : Path → Path) (path : Path) (rows : List (Key × Inode)) (i : ℕ) → i < length rows → length rows ≤ length path → HasPair (list_map f (above path)) rows (f (take i path)) i
next_pair f path [] i low few = absurd (omega arith)
next_pair f [] (r ∷ rows) i low few = absurd (omega arith)
next_pair f (name ∷ path) (r ∷ rows) zero low few = (r, refl, refl)
next_pair f (name ∷ path) (r ∷ rows) (suc i) low few =
    let same = map-map f (λ (up : Path). name ∷ up) (above path) in
    let later = next_pair (λ (up : Path). f (name ∷ up)) path rows i (omega arith) (omega arith) in (
      later.0,
      later.1,
      ap (λ (ps : List Path). drop i (zip ps rows)) same
          ∙ later.2
          ∙ ap (λ (ps : List Path). (f (name ∷ take i path), later.0) ∷ drop (suc i) (zip ps rows)) (sym same),
    )

pub map-same : (ps : List Path) → list_map (λ (p : Path). p) ps ≡ ps
map-same [] = refl
map-same (p ∷ ps) = ap (λ (qs : List Path). p ∷ qs) (map-same ps)

pub pairs_end : (ps : List Path) (rows : List (Key × Inode)) (i : ℕ) → length rows ≤ i → drop i (zip ps rows) ≡ []
pairs_end [] rows zero low = refl
pairs_end [] rows (suc i) low = refl
pairs_end (p ∷ ps) [] zero low = refl
pairs_end (p ∷ ps) [] (suc i) low = refl
pairs_end (p ∷ ps) (r ∷ rows) zero low = absurd (omega arith)
pairs_end (p ∷ ps) (r ∷ rows) (suc i) low = pairs_end ps rows i (omega arith)

-- what the directories found say from a place on, by what that at the place does
pub full_next : (path : Path) (rows : List (Key × Inode)) (seen : List (InodeId × QuotaRow)) (names i : ℕ) (total told : Option Exception) → i < length rows → length rows ≤ length path
    → first_some (list_map (λ (d : Path × (Key × Inode)). full_at d.0 names (quota_in seen d.1.1.id)) (drop i (zip (above path) rows))) ≡ total
    → ((found : Key × Inode) → slice_get rows i ≡ Some found → told ≡ full_at (take i path) names (quota_in seen found.1.id))
    → option_or told (first_some (list_map (λ (d : Path × (Key × Inode)). full_at d.0 names (quota_in seen d.1.1.id)) (drop (i + 1) (zip (above path) rows)))) ≡ total
full_next path rows seen names i total told low few is says =
    let e : i + 1 ≡ suc i = omega arith in
    let pair = next_pair (λ (p : Path). p) path rows i low few in
    let here : drop i (zip (above path) rows) ≡ (take i path, pair.0) ∷ drop (suc i) (zip (above path) rows) =
    subst (λ (ps : List Path). drop i (zip ps rows) ≡ (take i path, pair.0) ∷ drop (suc i) (zip ps rows)) (map-same (above path)) pair.2 in
    ap (λ (n : ℕ). option_or told (first_some (list_map (λ (d : Path × (Key × Inode)). full_at d.0 names (quota_in seen d.1.1.id)) (drop n (zip (above path) rows))))) e
    ∙ ap (λ (o : Option Exception). option_or o (first_some (list_map (λ (d : Path × (Key × Inode)). full_at d.0 names (quota_in seen d.1.1.id)) (drop (suc i) (zip (above path) rows))))) (says pair.0 pair.1)
    ∙ ap (λ (ds : List (Path × (Key × Inode))). first_some (list_map (λ (d : Path × (Key × Inode)). full_at d.0 names (quota_in seen d.1.1.id)) ds)) (sym here) ∙ is

pub full_end : (path : Path) (rows : List (Key × Inode)) (seen : List (InodeId × QuotaRow)) (names i : ℕ) (total : Option Exception) → length rows ≤ i
    → first_some (list_map (λ (d : Path × (Key × Inode)). full_at d.0 names (quota_in seen d.1.1.id)) (drop i (zip (above path) rows))) ≡ total → None ≡ total
full_end path rows seen names i total low is =
    ap (λ (ds : List (Path × (Key × Inode))). first_some (list_map (λ (d : Path × (Key × Inode)). full_at d.0 names (quota_in seen d.1.1.id)) ds)) (sym (pairs_end (above path) rows i low)) ∙ is

-- ---- what was read of quotas

-- the quota key of a row that has a quota is locked
abbrev pub LocksQuota : List (Key × Mode) → Key × Inode → Type 0
LocksQuota locked found = found.1.has_quota ≡ true → is_locked locked (key.Quota found.1.id) ≡ true

-- the quota keys of these rows
abbrev pub quota_keys : List (Key × Inode) → List Key
quota_keys rows = flat_map (λ (r : Key × Inode). where_so r.1.has_quota (key.Quota r.1.id ∷ [])) rows

-- where all of them are locked, each is
pub locks_each : (locked : List (Key × Mode)) (rows : List (Key × Inode)) → ((k : Key) → list_any (same_key k) (quota_keys rows) ≡ true → is_locked locked k ≡ true) → AllByRecursion (LocksQuota locked) rows
locks_each locked [] all = tt
locks_each locked (r ∷ rows) all = (
  λ has. all (key.Quota r.1.id) (list_any-append (same_key (key.Quota r.1.id)) (where_so r.1.has_quota (key.Quota r.1.id ∷ [])) (quota_keys rows)
      ∙ or_left (list_any (same_key (key.Quota r.1.id)) (where_so r.1.has_quota (key.Quota r.1.id ∷ []))) (list_any (same_key (key.Quota r.1.id)) (quota_keys rows)) (ap (λ (b : Bool). list_any (same_key (key.Quota r.1.id)) (where_so b (key.Quota r.1.id ∷ []))) has ∙ itself (key.Quota r.1.id))),
  locks_each locked rows (λ k among. all k (list_any-append (same_key k) (where_so r.1.has_quota (key.Quota r.1.id ∷ [])) (quota_keys rows)
      ∙ or_right (list_any (same_key k) (where_so r.1.has_quota (key.Quota r.1.id ∷ []))) (list_any (same_key k) (quota_keys rows)) among)),
)

module _ (inodes : Inodes) (quotas : Quotas) (space : Namespace) (stands : Stands inodes quotas [] space) (locked : List (Key × Mode)) (seen : List (InodeId × QuotaRow)) (sees : SeesQuotas quotas locked seen) where
  -- the quota row that was read of a row found is there
  pub seen_is : (found : Key × Inode) → IsThere inodes locked found → LocksQuota locked found → quota_in seen found.1.id ≡ quota_of quotas found.1.id
  seen_is found there locks =
      let rows : quota_in seen found.1.id ≡ cond (is_locked locked (key.Quota found.1.id)) (quota_of quotas found.1.id) None = sees.rows found.1.id in
      elim (is_locked locked (key.Quota found.1.id)) as (λ b. is_locked locked (key.Quota found.1.id) ≡ b → quota_in seen found.1.id ≡ quota_of quotas found.1.id) [
        | true ↦ λ e. rows ∙ ap (λ (b : Bool). cond b (quota_of quotas found.1.id) None) e
        | false ↦ λ e. rows ∙ ap (λ (b : Bool). cond b (quota_of quotas found.1.id) None) e ∙ sym (unmarked e)
      ] refl
    where
      unmarked : is_locked locked (key.Quota found.1.id) ≡ false → quota_of quotas found.1.id ≡ None
      unmarked e =
          let marks : there.row.has_quota ≡ is_some (quota_of quotas found.1.id) = stands.marks found.0 there.row there.there ∙ ap (λ (i : InodeId). is_some (quota_of quotas i)) there.id in
          elim (quota_of quotas found.1.id) as (λ o. there.row.has_quota ≡ is_some o → o ≡ None) [
            | None ↦ λ m. refl
            | Some quota ↦ λ m. absurd (true≢false (sym (locks (there.quota m)) ∙ e))
          ] marks

  -- so for each id that a row found has
  pub seen_of : (rows : List (Key × Inode)) → AllByRecursion (IsThere inodes locked) rows → AllByRecursion (LocksQuota locked) rows → (id : InodeId) → has_id rows id ≡ true → quota_in seen id ≡ quota_of quotas id
  seen_of [] there locks id has = absurd (true≢false (sym has))
  seen_of (r ∷ rows) there locks id has = elim (or_cases (r.1.id.0 == id.0) (has_id rows id) has) [
    | inl here ↦
        let same : r.1.id ≡ id = λ i. record { 0 = equal r.1.id.0 id.0 here i } in
        subst (λ (i : InodeId). quota_in seen i ≡ quota_of quotas i) same (seen_is r there.0 locks.0)
    | inr further ↦ seen_of rows there.1 locks.1 id further
  ]
    where
      equal : (m n : ℕ) → (m == n) ≡ true → m ≡ n
      equal m n e = grind (arith, nat_tests)

  module _ (next : ℕ) (tree : IsTree inodes next) (is : IsNamespace space) (counts : Counts inodes quotas space) (names : ℕ) where
    -- what the rule says of a path, by the quota row there
    rule_at : (at : Path) (row : Inode) → row_of inodes at ≡ Some row → row.kind ≡ Dir → (quota : Option QuotaRow) → quota_of quotas row.id ≡ quota → refused_by space names 0 at (entry_at space at) ≡ full_at at names quota
    rule_at at row here dir quota q =
        let entry : entry_at space at ≡ Some (entry_of_kind Dir row quota) = stands.entries at ∙ ap (option_map (entry_of quotas)) here ∙ ap (λ (k : Kind). Some (entry_of_kind k row (quota_of quotas row.id))) dir ∙ ap (λ (o : Option QuotaRow). Some (entry_of_kind Dir row o)) q in
        ap (refused_by space names 0 at) entry ∙ counted quota q
      where
        counted : (quota : Option QuotaRow) → quota_of quotas row.id ≡ quota → refused_by space names 0 at (Some (entry_of_kind Dir row quota)) ≡ full_at at names quota
        counted None q = refl
        counted (Some quota) q =
            let count = counts at row quota here q in
            rw (sym count.0, sym count.1) refl

    -- where nothing stands the rule says nothing
    none_below : (front : Path) → entry_at space front ≡ None → (ps : List Path) → first_some (list_map (λ (at : Path). refused_by space names 0 at (entry_at space at)) (list_map (λ (p : Path). front ++ p) ps)) ≡ None
    none_below front none [] = refl
    none_below front none (p ∷ ps) =
        let gone : entry_at space (front ++ p) ≡ None = missing_within space is front none (front ++ p) (is_within-append front p) in
        ap (λ (o : Option Entry). option_or (refused_by space names 0 (front ++ p) o) (first_some (list_map (λ (at : Path). refused_by space names 0 at (entry_at space at)) (list_map (λ (q : Path). front ++ q) ps)))) gone ∙ none_below front none ps

    fronts : (up : List (List ℕ)) (name : List ℕ) (ps : List Path) → list_map (λ (p : Path). reverse up ++ p) (list_map (λ (p : Path). name ∷ p) ps) ≡ list_map (λ (p : Path). reverse (name ∷ up) ++ p) ps
    fronts up name [] = refl
    fronts up name (p ∷ ps) = λ i. sym (regroup up name p) i ∷ fronts up name ps i

    -- so of the path of a row found
    rule_here : (up : List (List ℕ)) (first : Key × Inode) → IsAt inodes locked up first → LocksQuota locked first → first.1.kind ≡ Dir → refused_by space names 0 (reverse up ++ []) (entry_at space (reverse up ++ [])) ≡ full_at (reverse up ++ []) names (quota_in seen first.1.id)
    rule_here up first at locks is_dir =
        let row : row_of inodes (reverse up ++ []) ≡ Some at.there.row = ap (λ (p : Path). spelled inodes (reverse p)) (append-nil (reverse up)) ∙ ap (spelled inodes) (reverse-reverse up) ∙ at.spelt in
        let read : quota_of quotas at.there.row.id ≡ quota_in seen first.1.id = ap (quota_of quotas) at.there.id ∙ sym (seen_is first at.there locks) in
        rule_at (reverse up ++ []) at.there.row row (at.there.kind ∙ is_dir) (quota_in seen first.1.id) read

    -- the rule on the paths above a path says what the quota rows found do
    pub rule_is : (path up : List (List ℕ)) (first : Key × Inode) (rows : List (Key × Inode)) (missing : Option Key) (bottom : Key × Inode) → IsAt inodes locked up first → Leads first.1 path rows missing → AllByRecursion (IsThere inodes locked) rows → AllByRecursion (LocksQuota locked) (first ∷ rows) → IsMissing inodes missing
        → slice_get (first ∷ rows) (length rows) ≡ Some bottom → bottom.1.kind ≡ Dir → length rows < length path
        → first_some (list_map (λ (at : Path). refused_by space names 0 at (entry_at space at)) (list_map (λ (p : Path). reverse up ++ p) (above path)))
        ≡ first_some (list_map (λ (d : Path × (Key × Inode)). full_at d.0 names (quota_in seen d.1.1.id)) (zip (list_map (λ (p : Path). reverse up ++ p) (above path)) (first ∷ rows)))
    rule_is [] up first rows missing bottom at leads there locks none last dir few = absurd (omega arith)
    rule_is (name ∷ path) up first [] missing bottom at leads there locks none last dir few =
        let same : first ≡ bottom = cc in
        let is_dir : first.1.kind ≡ Dir = ap (λ (f : Key × Inode). f.1.kind) same ∙ dir in
        let end : spelled inodes (name ∷ up) ≡ None = stopped inodes locked next tree up first name missing first.1.kind at refl leads none in
        let bare : entry_at space (reverse (name ∷ up)) ≡ None = stands.entries (reverse (name ∷ up)) ∙ ap (λ (p : List (List ℕ)). option_map (entry_of quotas) (spelled inodes p)) (reverse-reverse (name ∷ up)) ∙ ap (option_map (entry_of quotas)) end in
        let further = ap (λ (ps : List Path). first_some (list_map (λ (at : Path). refused_by space names 0 at (entry_at space at)) ps)) (fronts up name (above path)) ∙ none_below (reverse (name ∷ up)) bare (above path) in
        let alone : first_some (list_map (λ (d : Path × (Key × Inode)). full_at d.0 names (quota_in seen d.1.1.id)) (zip {X = Key × Inode} (list_map (λ (p : Path). reverse up ++ p) (list_map (λ (p : Path). name ∷ p) (above path))) [])) ≡ None =
        ap (λ (ds : List (Path × (Key × Inode))). first_some (list_map (λ (d : Path × (Key × Inode)). full_at d.0 names (quota_in seen d.1.1.id)) ds)) (zip-none (list_map (λ (p : Path). reverse up ++ p) (list_map (λ (p : Path). name ∷ p) (above path)))) in
        λ i. option_or (rule_here up first at locks.0 is_dir i) ((further ∙ sym alone) i)
    rule_is (name ∷ path) up first (next_row ∷ rows) missing bottom at leads there locks none last dir few =
        let rest = rule_is path (name ∷ up) next_row rows missing bottom (at_next inodes locked up first next_row name at leads.1 there.0) leads.2 there.1 locks.1 none last dir (omega arith) in
        let left = ap (λ (ps : List Path). first_some (list_map (λ (at : Path). refused_by space names 0 at (entry_at space at)) ps)) (fronts up name (above path)) in
        let right = ap (λ (ps : List Path). first_some (list_map (λ (d : Path × (Key × Inode)). full_at d.0 names (quota_in seen d.1.1.id)) (zip ps (next_row ∷ rows)))) (fronts up name (above path)) in
        λ i. option_or (rule_here up first at locks.0 leads.0 i) ((left ∙ rest ∙ sym right) i)

-- nothing more is never refused
pub none_more : (space : Namespace) (dirs : List Path) → over_quota space 0 0 dirs ≡ None
none_more space [] = refl
none_more space (at ∷ dirs) = λ i. option_or (fits (entry_at space at) i) (none_more space dirs i)
  where
    fits : (o : Option Entry) → refused_by space 0 0 at o ≡ None
    fits None = refl
    fits (Some (Rattle.name_space.specs.declared.entry.Entry.TheVariants.File len writer mode owner)) = refl
    fits (Some (Rattle.name_space.specs.declared.entry.Entry.TheVariants.Dir mode owner None None)) = refl
    fits (Some (Rattle.name_space.specs.declared.entry.Entry.TheVariants.Dir mode owner None (Some n))) = refl
    fits (Some (Rattle.name_space.specs.declared.entry.Entry.TheVariants.Dir mode owner (Some m) None)) = refl
    fits (Some (Rattle.name_space.specs.declared.entry.Entry.TheVariants.Dir mode owner (Some m) (Some n))) = refl
