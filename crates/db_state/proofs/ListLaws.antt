-- Laws of listings: the children of a directory are told as the rows under its row.
use Rattle.std.proofs.Common.{◌≡◌, ◌≢◌, ℕ, ◌+◌, ◌-◌, suc, slice_get, Bool, true, false, ◌&&◌, ◌||◌, ◌==◌, cond, List, [], ◌∷◌, ◌++◌, map as list_map, length, drop, Option, Some, None, is_some, option_map, unwrap_or, inl, inr, arith, refl, sym, ap, subst, ◌∙◌, eqb-true, eq-eqb, length-append}
use Rattle.std.proofs.lemmas.Bool.{true≢false}
use Rattle.std.specs.FinMap as map
use Rattle.std.specs.FinMap.Entries as entries
use Rattle.std.specs.List.{filter_map, cons_option, list_any, last_or, AllByRecursion}
use Rattle.std.specs.List.Sorted.{IsStrictlySortedBy}
use Rattle.std.specs.Ordering.{nat_cmp, ordering_then, is_lt}
use Rattle.std.specs.declared.cmp.Ordering.{Ordering}
use Rattle.std.specs.declared.cmp.Ordering.TheVariants.{Less}
use Rattle.std.specs.Cmp.{tied_itself}
use Rattle.std.specs.Cmp.Lexicographic.{slice_cmp, bytes_decides, nat_list_cmp_total}
use Rattle.hops_base.specs.declared.ids.InodeId.{InodeId}
use Rattle.hops_base.specs.declared.key.Key.TheVariants as key
use Rattle.std.specs.Prelude.{bytes_eq}
use Rattle.hops_base.specs.Path.{path_cmp, same_path}
use Rattle.hops_base.proofs.Tells.{paths_tell}
use Rattle.name_space.specs.declared.entry.Entry.{Entry}
use Rattle.name_space.specs.declared.entry.Listed.{Listed}
use Rattle.name_space.specs.Namespace.{Namespace, Path, IsNamespace, entry_at, is_within, children}
use Rattle.name_space.specs.Namespace.{Rises}
use Rattle.name_space.proofs.NamespaceLaws.{same_spaces, Rises-filter}
use Rattle.name_space.proofs.PathLaws.{is_within-append, is_within-rest}
use Rattle.name_space.specs.Plain.{last_name, listed}
use Rattle.name_space.specs.Plain as plain_words
use Rattle.inode_table.specs.declared.inode.Inode.{Inode}
use Rattle.inode_table.specs.declared.inode.Kind.{Kind}
use Rattle.inode_table.specs.declared.inode.Kind.TheVariants.{Dir, File}
use Rattle.quota_table.specs.declared.quota.QuotaRow.{QuotaRow}
use Rattle.row_store.specs.Children.{child_names}
use Rattle.row_store.proofs.ChildLaws.{IsChildren-child_names}
use Rattle.db_state.specs.Spelled.{Inodes, row_of}
use Rattle.db_state.specs.Stands.{Quotas, quota_of, entry_of, entry_of_kind, Stands}
use Rattle.db_state.specs.Current.{status_of_kind, listed_row, listed_under}
use Rattle.db_state.proofs.UnderLaws.{entry_at-children, entry_at-child}

-- ---- one entry

last_pushed : (o : Option (List ℕ)) (path : Path) (name : List ℕ) → last_or o (path ++ name ∷ []) ≡ Some name
last_pushed o [] name = refl
last_pushed o (first ∷ path) name = last_pushed (Some first) path name

last_got : (o : Option (List ℕ)) (path : Path) (name : List ℕ) → slice_get path (length path - 1) ≡ Some name → last_or o path ≡ Some name
last_got o [] name e = absurd (let bad : None ≡ Some name = e in cc)
last_got o (first ∷ []) name e = e
last_got o (first ∷ second ∷ path) name e =
    let n : length (first ∷ second ∷ path) - 1 ≡ suc (length (second ∷ path) - 1) = omega arith in
    last_got (Some first) (second ∷ path) name (sym (ap (slice_get (first ∷ second ∷ path)) n) ∙ e)

status_is : (kind : Kind) (row : Inode) (quota : Option QuotaRow) → plain_words.status_of (entry_of_kind kind row quota) ≡ status_of_kind kind row
status_is Dir row quota = refl
status_is File row quota = refl

-- what a row stands for is told as the row
pub told_as_row : (quotas : Quotas) (row : Inode) → plain_words.status_of (entry_of quotas row) ≡ status_of_kind row.kind row
told_as_row quotas row = status_is row.kind row (quota_of quotas row.id)

less_child : (top : Path) (a b : List ℕ) → slice_cmp nat_cmp a b ≡ Less → path_cmp (top ++ a ∷ []) (top ++ b ∷ []) ≡ Less
less_child [] a b less = ap (λ (o : Ordering). ordering_then o (path_cmp [] [])) less
less_child (n ∷ top) a b less = ap (λ (o : Ordering). ordering_then o (path_cmp (top ++ a ∷ []) (top ++ b ∷ []))) (tied_itself nat_list_cmp_total n) ∙ less_child top a b less

-- ---- the entries of the rows under a row

module _ (inodes : Inodes) (quotas : Quotas) (path : Path) (id : InodeId) where
  -- the entry of the row under it of this name
  abbrev child_entry : List ℕ → Option Inode → Option (Path × Entry)
  child_entry name found = option_map (λ (row : Inode). (path ++ name ∷ [], entry_of quotas row)) found

  -- those of these names
  abbrev child_entries : List (List ℕ) → Namespace
  child_entries names = filter_map (λ (name : List ℕ). child_entry name (map.get inodes (key.Inode id name))) names

  listed_one : (name : List ℕ) (row : Inode) → listed (path ++ name ∷ [], entry_of quotas row) ≡ listed_row name row
  listed_one name row = λ i. record { name = unwrap_or (last_pushed None path name i) []; status = told_as_row quotas row i }

  listed_first : (name : List ℕ) (rest : Namespace) (o : Option Inode) → list_map listed (cons_option (child_entry name o) rest) ≡ cons_option (option_map (listed_row name) o) (list_map listed rest)
  listed_first name rest None = refl
  listed_first name rest (Some row) = ap (λ (l : Listed). l ∷ list_map listed rest) (listed_one name row)

  -- they are told as the rows
  listed_all : (names : List (List ℕ)) → list_map listed (child_entries names) ≡ filter_map (λ (name : List ℕ). option_map (listed_row name) (map.get inodes (key.Inode id name))) names
  listed_all [] = refl
  listed_all (name ∷ names) =
      listed_first name (child_entries names) (map.get inodes (key.Inode id name))
      ∙ ap (cons_option (option_map (listed_row name) (map.get inodes (key.Inode id name)))) (listed_all names)

  below_first : (a b : List ℕ) (rest : Namespace) (o : Option Inode) → slice_cmp nat_cmp a b ≡ Less → entries.below_all path_cmp (path ++ a ∷ []) rest ≡ true → entries.below_all path_cmp (path ++ a ∷ []) (cons_option (child_entry b o) rest) ≡ true
  below_first a b rest None less later = later
  below_first a b rest (Some row) less later = λ i. is_lt (less_child path a b less i) && later i

  below_names : (a : List ℕ) (names : List (List ℕ)) → AllByRecursion (λ (b : List ℕ). slice_cmp nat_cmp a b ≡ Less) names → entries.below_all path_cmp (path ++ a ∷ []) (child_entries names) ≡ true
  below_names a [] less = refl
  below_names a (b ∷ names) less = below_first a b (child_entries names) (map.get inodes (key.Inode id b)) less.0 (below_names a names less.1)

  rises_first : (a : List ℕ) (rest : Namespace) (o : Option Inode) → entries.below_all path_cmp (path ++ a ∷ []) rest ≡ true → Rises rest → Rises (cons_option (child_entry a o) rest)
  rises_first a rest None below rises = rises
  rises_first a rest (Some row) below rises = λ i. below i && rises i

  -- they rise as the names do
  rises_names : (names : List (List ℕ)) → IsStrictlySortedBy (slice_cmp nat_cmp) names → Rises (child_entries names)
  unfolding IsStrictlySortedBy
  rises_names [] up = refl
  rises_names (a ∷ names) up = rises_first a (child_entries names) (map.get inodes (key.Inode id a)) (below_names a names up.0) (rises_names names up.1)

  same_end : (top : Path) (a b : List ℕ) → top ++ a ∷ [] ≡ top ++ b ∷ [] → a ≡ b
  same_end [] a b e = (let heads : a ∷ [] ≡ b ∷ [] = e in cc)
  same_end (n ∷ top) a b e = same_end top a b (let tails : n ∷ (top ++ a ∷ []) ≡ n ∷ (top ++ b ∷ []) = e in cc)

  -- what is found among those of these names
  found_first : (name b : List ℕ) (rest : Namespace) (names : List (List ℕ)) (o : Option Inode) → map.get inodes (key.Inode id b) ≡ o
      → entry_at rest (path ++ name ∷ []) ≡ cond (list_any (bytes_eq name) names) (option_map (entry_of quotas) (map.get inodes (key.Inode id name))) None
      → entry_at (cons_option (child_entry b o) rest) (path ++ name ∷ []) ≡ cond (bytes_eq name b || list_any (bytes_eq name) names) (option_map (entry_of quotas) (map.get inodes (key.Inode id name))) None
  found_first name b rest names o e later =
      elim (paths_tell (path ++ name ∷ []) (path ++ b ∷ [])) [
        | inl h ↦
            let same : name ≡ b = same_end path name b h.1 in
            let ties : bytes_eq name b ≡ true = (bytes_decides name b).1 same in
            let got : map.get inodes (key.Inode id name) ≡ o = ap (λ (n : List ℕ). map.get inodes (key.Inode id n)) same ∙ e in
            here o h.0 got ∙ sym (ap (λ (t : Bool). cond (t || list_any (bytes_eq name) names) (option_map (entry_of quotas) (map.get inodes (key.Inode id name))) None) ties)
        | inr h ↦
            let differ : bytes_eq name b ≡ false = Rattle.std.proofs.lemmas.Bool.false_from_ne_true (bytes_eq name b) (λ t. h.1 (ap (λ (n : List ℕ). path ++ n ∷ []) ((bytes_decides name b).0 t))) in
            passed o h.0 ∙ later ∙ sym (ap (λ (t : Bool). cond (t || list_any (bytes_eq name) names) (option_map (entry_of quotas) (map.get inodes (key.Inode id name))) None) differ)
      ]
    where
      none_either : (t : Bool) (found : Option Entry) → found ≡ None → cond t found None ≡ None
      none_either true found none = none
      none_either false found none = refl

      here : (o : Option Inode) → same_path (path ++ name ∷ []) (path ++ b ∷ []) ≡ true → map.get inodes (key.Inode id name) ≡ o → entry_at (cons_option (child_entry b o) rest) (path ++ name ∷ []) ≡ option_map (entry_of quotas) (map.get inodes (key.Inode id name))
      here None ties got = later ∙ none_either (list_any (bytes_eq name) names) (option_map (entry_of quotas) (map.get inodes (key.Inode id name))) (ap (option_map (entry_of quotas)) got) ∙ sym (ap (option_map (entry_of quotas)) got)
      here (Some row) ties got = ap (λ (t : Bool). cond t (Some (entry_of quotas row)) (entry_at rest (path ++ name ∷ []))) ties ∙ sym (ap (option_map (entry_of quotas)) got)

      passed : (o : Option Inode) → same_path (path ++ name ∷ []) (path ++ b ∷ []) ≡ false → entry_at (cons_option (child_entry b o) rest) (path ++ name ∷ []) ≡ entry_at rest (path ++ name ∷ [])
      passed None differ = refl
      passed (Some row) differ = ap (λ (t : Bool). cond t (Some (entry_of quotas row)) (entry_at rest (path ++ name ∷ []))) differ

  found_child : (name : List ℕ) (names : List (List ℕ)) → entry_at (child_entries names) (path ++ name ∷ []) ≡ cond (list_any (bytes_eq name) names) (option_map (entry_of quotas) (map.get inodes (key.Inode id name))) None
  found_child name [] = refl
  found_child name (b ∷ names) = found_first name b (child_entries names) names (map.get inodes (key.Inode id b)) refl (found_child name names)

  other_first : (q : Path) (b : List ℕ) (rest : Namespace) (o : Option Inode) → same_path q (path ++ b ∷ []) ≡ false → entry_at rest q ≡ None → entry_at (cons_option (child_entry b o) rest) q ≡ None
  other_first q b rest None differ later = later
  other_first q b rest (Some row) differ later = ap (λ (t : Bool). cond t (Some (entry_of quotas row)) (entry_at rest q)) differ ∙ later

  -- nothing else is
  found_other : (q : Path) → ((name : List ℕ) → q ≢ path ++ name ∷ []) → (names : List (List ℕ)) → entry_at (child_entries names) q ≡ None
  found_other q other [] = refl
  found_other q other (b ∷ names) = elim (paths_tell q (path ++ b ∷ [])) [
    | inl h ↦ absurd (other b h.1)
    | inr h ↦ other_first q b (child_entries names) (map.get inodes (key.Inode id b)) h.0 (found_other q other names)
  ]

-- ---- in rows that stand for a namespace

only_rows : (f : Inode → Entry) (o : Option Inode) → cond (is_some o) (option_map f o) None ≡ option_map f o
only_rows f None = refl
only_rows f (Some row) = refl

one_name : (rest : Path) (n : ℕ) → n + length rest ≡ n + 1 → (name : List ℕ) × (rest ≡ name ∷ [])
one_name [] n e = absurd (omega arith)
one_name (name ∷ []) n e = (name, refl)
one_name (name ∷ other ∷ rest) n e = absurd (omega arith)

module _ (inodes : Inodes) (quotas : Quotas) (space : Namespace) (is : IsNamespace space) (stands : Stands inodes quotas [] space) (path : Path) (row : Inode) (here : row_of inodes path ≡ Some row) where
  same_child : (name : List ℕ) → entry_at space (path ++ name ∷ []) ≡ entry_at (child_entries inodes quotas path row.id (child_names inodes row.id)) (path ++ name ∷ [])
  same_child name =
      entry_at-child inodes quotas space stands path row here name
      ∙ sym (found_child inodes quotas path row.id name (child_names inodes row.id)
      ∙ ap (λ (b : Bool). cond b (option_map (entry_of quotas) (map.get inodes (key.Inode row.id name))) None) ((IsChildren-child_names inodes row.id).members name)
      ∙ only_rows (entry_of quotas) (map.get inodes (key.Inode row.id name)))

  same_at : (q : Path) (within long : Bool) → is_within path q ≡ within → (length q == length path + 1) ≡ long
      → cond (within && long) (entry_at space q) None ≡ entry_at (child_entries inodes quotas path row.id (child_names inodes row.id)) q
  same_at q true true w l =
      let rest : path ++ drop (length path) q ≡ q = is_within-rest path q w in
      let lengths : length (path ++ drop (length path) q) ≡ length path + length (drop (length path) q) = length-append path (drop (length path) q) in
      let same : length (path ++ drop (length path) q) ≡ length q = ap (λ (p : Path). length p) rest in
      let long : length q ≡ length path + 1 = eqb-true (length q) (length path + 1) l in
      let one = one_name (drop (length path) q) (length path) (sym lengths ∙ same ∙ long) in
      let at : path ++ one.0 ∷ [] ≡ q = sym (ap (λ (r : Path). path ++ r) one.1) ∙ rest in
      subst (λ (p : Path). entry_at space p ≡ entry_at (child_entries inodes quotas path row.id (child_names inodes row.id)) p) at (same_child one.0)
  same_at q true false w l = sym (found_other inodes quotas path row.id q (λ name e.
      let long : length q ≡ length path + 1 = ap (λ (p : Path). length p) e ∙ length-append path (name ∷ []) in
      true≢false (sym (eq-eqb (length q) (length path + 1) long) ∙ l)) (child_names inodes row.id))
  same_at q false long w l = sym (found_other inodes quotas path row.id q (λ name e.
      true≢false (sym (subst (λ (p : Path). is_within path p ≡ true) (sym e) (is_within-append path (name ∷ []))) ∙ w)) (child_names inodes row.id))

  -- what is told of a directory's children is what is told of the rows under its row, in the same order
  pub children_told_as_rows : list_map listed (children space path) ≡ listed_under inodes row.id
  children_told_as_rows =
      ap (list_map listed) (same_spaces (children space path) (child_entries inodes quotas path row.id (child_names inodes row.id))
      (Rises-filter (λ (q : Path). is_within path q && (length q == length path + 1)) space is.rises)
      (rises_names inodes quotas path row.id (child_names inodes row.id) (IsChildren-child_names inodes row.id).rising)
      (λ q. entry_at-children space path q ∙ same_at q (is_within path q) (length q == length path + 1) refl refl))
      ∙ listed_all inodes quotas path row.id (child_names inodes row.id)

-- the last name of a path
pub last_name_is : (path : Path) (name : List ℕ) → slice_get path (length path - 1) ≡ Some name → last_name path ≡ name
last_name_is path name e = ap (λ (o : Option (List ℕ)). unwrap_or o []) (last_got None path name e)
