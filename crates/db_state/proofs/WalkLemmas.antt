-- The walk over the rows goes through the namespace that they stand for, in path order.
use Rattle.std.proofs.Common.{◌≡◌, ◌≢◌, ℕ, ◌<◌, Bool, true, false, ◌&&◌, ◌||◌, cond, List, [], ◌∷◌, ◌++◌, map as list_map, length, drop, reverse, Option, Some, None, is_some, option_map, inl, inr, arith, refl, sym, ap, subst, ◌∙◌}
use Rattle.std.specs.Option.{option_or}
use Rattle.std.specs.FinMap as rows
use Rattle.std.specs.FinMap.Entries as entries
use Rattle.std.specs.List.{list_any, AllByRecursion}
use Rattle.std.specs.List.Sorted.{IsStrictlySortedBy}
use Rattle.std.specs.Ordering.{nat_cmp, ordering_then, is_lt}
use Rattle.std.specs.declared.cmp.Ordering.{Ordering}
use Rattle.std.specs.declared.cmp.Ordering.TheVariants.{Less}
use Rattle.std.specs.Cmp.{tied_itself}
use Rattle.std.specs.Cmp.Lexicographic.{slice_cmp, bytes_decides, nat_list_cmp_total}
use Rattle.std.proofs.lemmas.Bool.{true≢false, and_parts, and_from, or_left, or_right, false_from_ne_true}
use Rattle.std.proofs.lemmas.List.{append_assoc, append-nil, reverse-append}
use Rattle.hops_base.specs.declared.ids.InodeId.{InodeId}
use Rattle.hops_base.specs.declared.key.Key.{Key}
use Rattle.hops_base.specs.declared.key.Key.TheVariants as key
use Rattle.std.specs.Prelude.{bytes_eq}
use Rattle.hops_base.specs.Path.{path_cmp, same_path}
use Rattle.hops_base.proofs.Tells.{paths_tell}
use Rattle.name_space.specs.declared.entry.Entry.{Entry}
use Rattle.name_space.specs.Namespace.{Namespace, Path, IsNamespace, entry_at, is_within, below}
use Rattle.name_space.specs.Namespace.{Rises}
use Rattle.name_space.proofs.NamespaceLaws.{same_spaces, Rises-filter, entry_at-below, none_from, missing_within}
use Rattle.name_space.proofs.PathLaws.{is_within-self, is_within-append, is_within-rest, is_within-trans}
use Rattle.inode_table.specs.declared.inode.Inode.{Inode}
use Rattle.row_store.specs.Children.{child_names}
use Rattle.row_store.proofs.ChildLaws.{IsChildren-child_names}
use Rattle.db_state.specs.Spelled.{Inodes, child_of, spelled, row_of}
use Rattle.db_state.specs.Stands.{Quotas, entry_of, Stands}
use Rattle.db_state.specs.Walk.{step_to}
use Rattle.db_state.proofs.Unfinished.{parts, unfinished}

-- ---- what holds of each

module _ {A : Type 0} where
  all_append : (P : A → Type 0) (xs ys : List A) → AllByRecursion P xs → AllByRecursion P ys → AllByRecursion P (xs ++ ys)
  all_append P [] ys all rest = rest
  all_append P (x ∷ xs) ys all rest = (all.0, all_append P xs ys all.1 rest)

  all_map : (P Q : A → Type 0) → ((x : A) → P x → Q x) → (xs : List A) → AllByRecursion P xs → AllByRecursion Q xs
  all_map P Q gives [] all = tt
  all_map P Q gives (x ∷ xs) all = (gives x all.0, all_map P Q gives xs all.1)

  all_front : (P : A → Type 0) (xs : List A) (x : A) → AllByRecursion P (xs ++ x ∷ []) → AllByRecursion P xs
  all_front P [] x all = tt
  all_front P (y ∷ xs) x all = (all.0, all_front P xs x all.1)

  all_last : (P : A → Type 0) (xs : List A) (x : A) → AllByRecursion P (xs ++ x ∷ []) → P x
  all_last P [] x all = all.0
  all_last P (y ∷ xs) x all = all_last P xs x all.1

-- ---- the order of what stands below a path

less_under : (top : Path) (a b : List ℕ) (r s : Path) → slice_cmp nat_cmp a b ≡ Less → path_cmp ((top ++ a ∷ []) ++ r) ((top ++ b ∷ []) ++ s) ≡ Less
less_under [] a b r s less = ap (λ (o : Ordering). ordering_then o (path_cmp r s)) less
less_under (n ∷ top) a b r s less = ap (λ (o : Ordering). ordering_then o (path_cmp ((top ++ a ∷ []) ++ r) ((top ++ b ∷ []) ++ s))) (tied_itself nat_list_cmp_total n) ∙ less_under top a b r s less

less_top : (top : Path) (a : List ℕ) (r : Path) → path_cmp top ((top ++ a ∷ []) ++ r) ≡ Less
less_top [] a r = refl
less_top (n ∷ top) a r = ap (λ (o : Ordering). ordering_then o (path_cmp top ((top ++ a ∷ []) ++ r))) (tied_itself nat_list_cmp_total n) ∙ less_top top a r

-- what lies within one child comes before what lies within a later one
in_order : (top : Path) (a b : List ℕ) (x y : Path) → is_within (top ++ a ∷ []) x ≡ true → is_within (top ++ b ∷ []) y ≡ true → slice_cmp nat_cmp a b ≡ Less → path_cmp x y ≡ Less
in_order top a b x y in_a in_b less =
    let xs = is_within-rest (top ++ a ∷ []) x in_a in
    let ys = is_within-rest (top ++ b ∷ []) y in_b in
    (λ i. path_cmp (sym xs i) (sym ys i)) ∙ less_under top a b (drop (length (top ++ a ∷ [])) x) (drop (length (top ++ b ∷ [])) y) less

-- and after the path itself
top_first : (top : Path) (a : List ℕ) (x : Path) → is_within (top ++ a ∷ []) x ≡ true → path_cmp top x ≡ Less
top_first top a x in_a =
    let xs = is_within-rest (top ++ a ∷ []) x in_a in
    (λ i. path_cmp top (sym xs i)) ∙ less_top top a (drop (length (top ++ a ∷ [])) x)

all_within : (space : Namespace) (top : Path) → AllByRecursion (λ (e : Path × Entry). is_within top e.0 ≡ true) (below space top)
all_within [] top = tt
all_within (e ∷ es) top =
    (elim (is_within top e.0) as (λ b. is_within top e.0 ≡ b → AllByRecursion (λ (f : Path × Entry). is_within top f.0 ≡ true) (cond b (e ∷ below es top) (below es top))) [
      | true ↦ λ is. (is, all_within es top)
      | false ↦ λ is. all_within es top
    ]) refl

below_from : (k : Path) (es : Namespace) → AllByRecursion (λ (e : Path × Entry). path_cmp k e.0 ≡ Less) es → entries.below_all path_cmp k es ≡ true
below_from k [] all = refl
below_from k (e ∷ es) all = λ i. is_lt (all.0 i) && below_from k es all.1 i

below_append : (k : Path) (es fs : Namespace) → entries.below_all path_cmp k es ≡ true → entries.below_all path_cmp k fs ≡ true → entries.below_all path_cmp k (es ++ fs) ≡ true
below_append k [] fs low high = high
below_append k (e ∷ es) fs low high =
    let both = and_parts (is_lt (path_cmp k e.0)) (entries.below_all path_cmp k es) low in
    and_from (is_lt (path_cmp k e.0)) (entries.below_all path_cmp k (es ++ fs)) both.0 (below_append k es fs both.1 high)

rises_append : (es fs : Namespace) → Rises es → Rises fs → AllByRecursion (λ (e : Path × Entry). entries.below_all path_cmp e.0 fs ≡ true) es → Rises (es ++ fs)
rises_append [] fs rise later low = later
rises_append (e ∷ es) fs rise later low =
    let both = and_parts (entries.below_all path_cmp e.0 es) (entries.is_sorted path_cmp es) rise in
    and_from (entries.below_all path_cmp e.0 (es ++ fs)) (entries.is_sorted path_cmp (es ++ fs)) (below_append e.0 es fs both.0 low.0) (rises_append es fs both.1 later low.1)

-- ---- what stands at a path and below it is what stands there, and what stands at and below its children

module _ (space : Namespace) (top : Path) where
  after_top : (names : List (List ℕ)) → AllByRecursion (λ (f : Path × Entry). path_cmp top f.0 ≡ Less) (parts space top names)
  after_top [] = tt
  after_top (a ∷ names) =
      all_append (λ (f : Path × Entry). path_cmp top f.0 ≡ Less) (below space (top ++ a ∷ [])) (parts space top names)
      (all_map (λ (f : Path × Entry). is_within (top ++ a ∷ []) f.0 ≡ true) (λ (f : Path × Entry). path_cmp top f.0 ≡ Less) (λ f in_a. top_first top a f.0 in_a) (below space (top ++ a ∷ [])) (all_within space (top ++ a ∷ [])))
      (after_top names)

  after_name : (x : Path) (a : List ℕ) (names : List (List ℕ)) → is_within (top ++ a ∷ []) x ≡ true → AllByRecursion (λ (b : List ℕ). slice_cmp nat_cmp a b ≡ Less) names → AllByRecursion (λ (f : Path × Entry). path_cmp x f.0 ≡ Less) (parts space top names)
  after_name x a [] in_a higher = tt
  after_name x a (b ∷ names) in_a higher =
      all_append (λ (f : Path × Entry). path_cmp x f.0 ≡ Less) (below space (top ++ b ∷ [])) (parts space top names)
      (all_map (λ (f : Path × Entry). is_within (top ++ b ∷ []) f.0 ≡ true) (λ (f : Path × Entry). path_cmp x f.0 ≡ Less) (λ f in_b. in_order top a b x f.0 in_a in_b higher.0) (below space (top ++ b ∷ [])) (all_within space (top ++ b ∷ [])))
      (after_name x a names in_a higher.1)

  parts_rise : Rises space → (names : List (List ℕ)) → IsStrictlySortedBy (slice_cmp nat_cmp) names → Rises (parts space top names)
  unfolding IsStrictlySortedBy
  parts_rise rises [] up = refl
  parts_rise rises (a ∷ names) up =
      rises_append (below space (top ++ a ∷ [])) (parts space top names) (Rises-filter (is_within (top ++ a ∷ [])) space rises) (parts_rise rises names up.1)
      (all_map (λ (e : Path × Entry). is_within (top ++ a ∷ []) e.0 ≡ true) (λ (e : Path × Entry). entries.below_all path_cmp e.0 (parts space top names) ≡ true)
      (λ e in_a. below_from e.0 (parts space top names) (after_name e.0 a names in_a up.0)) (below space (top ++ a ∷ [])) (all_within space (top ++ a ∷ [])))

entry_at_append : (es fs : Namespace) (q : Path) → entry_at (es ++ fs) q ≡ option_or (entry_at es q) (entry_at fs q)
entry_at_append [] fs q = refl
entry_at_append (e ∷ es) fs q =
    elim (same_path q e.0) as (λ b. cond b (Some e.1) (entry_at (es ++ fs) q) ≡ option_or (cond b (Some e.1) (entry_at es q)) (entry_at fs q)) [
      | true ↦ refl
      | false ↦ entry_at_append es fs q
    ]

found_parts : (space : Namespace) (top q : Path) (names : List (List ℕ)) → entry_at (parts space top names) q ≡ cond (list_any (λ (name : List ℕ). is_within (top ++ name ∷ []) q) names) (entry_at space q) None
found_parts space top q [] = refl
found_parts space top q (a ∷ names) =
    entry_at_append (below space (top ++ a ∷ [])) (parts space top names) q
    ∙ (λ i. option_or (entry_at-below space (top ++ a ∷ []) q i) (found_parts space top q names i))
    ∙ joined (is_within (top ++ a ∷ []) q) (list_any (λ (name : List ℕ). is_within (top ++ name ∷ []) q) names) (entry_at space q)
  where
    joined : (b c : Bool) (o : Option Entry) → option_or (cond b o None) (cond c o None) ≡ cond (b || c) o None
    joined true true None = refl
    joined true false None = refl
    joined true c (Some e) = refl
    joined false c o = refl

any_within : (top : Path) (name : List ℕ) (q : Path) (names : List (List ℕ)) → list_any (bytes_eq name) names ≡ true → is_within (top ++ name ∷ []) q ≡ true → list_any (λ (n : List ℕ). is_within (top ++ n ∷ []) q) names ≡ true
any_within top name q [] e inside = absurd (true≢false (sym e))
any_within top name q (n ∷ names) e inside =
    (elim (bytes_eq name n) as (λ b. bytes_eq name n ≡ b → (b || list_any (bytes_eq name) names) ≡ true → (is_within (top ++ n ∷ []) q || list_any (λ (m : List ℕ). is_within (top ++ m ∷ []) q) names) ≡ true) [
      | true ↦ λ same _. or_left (is_within (top ++ n ∷ []) q) _ (subst (λ (m : List ℕ). is_within (top ++ m ∷ []) q ≡ true) ((bytes_decides name n).0 same) inside)
      | false ↦ λ same rest. or_right (is_within (top ++ n ∷ []) q) _ (any_within top name q names rest inside)
    ]) refl e

none_within : (top q : Path) (names : List (List ℕ)) → is_within top q ≡ false → list_any (λ (n : List ℕ). is_within (top ++ n ∷ []) q) names ≡ false
none_within top q [] apart = refl
none_within top q (n ∷ names) apart =
    let here : is_within (top ++ n ∷ []) q ≡ false = false_from_ne_true (is_within (top ++ n ∷ []) q) (λ w. true≢false (sym (is_within-trans top (top ++ n ∷ []) q (is_within-append top (n ∷ [])) w) ∙ apart)) in
    λ i. here i || none_within top q names apart i

module _ (space : Namespace) (is : IsNamespace space) (top : Path) (entry : Entry) (names : List (List ℕ)) (there : entry_at space top ≡ Some entry)
    (up : IsStrictlySortedBy (slice_cmp nat_cmp) names) (members : (name : List ℕ) → list_any (bytes_eq name) names ≡ is_some (entry_at space (top ++ name ∷ []))) where
  under : (q : Path) (name : List ℕ) (rest : Path) → top ++ name ∷ rest ≡ q → entry_at space q ≡ cond (list_any (λ (n : List ℕ). is_within (top ++ n ∷ []) q) names) (entry_at space q) None
  under q name rest at =
      let inside : is_within (top ++ name ∷ []) q ≡ true = subst (λ (p : Path). is_within (top ++ name ∷ []) p ≡ true) (append_assoc top (name ∷ []) rest ∙ at) (is_within-append (top ++ name ∷ []) rest) in
      (elim (list_any (bytes_eq name) names) as (λ b. list_any (bytes_eq name) names ≡ b → entry_at space q ≡ cond (list_any (λ (n : List ℕ). is_within (top ++ n ∷ []) q) names) (entry_at space q) None) [
        | true ↦ λ one. sym (ap (λ (b : Bool). cond b (entry_at space q) None) (any_within top name q names one inside))
        | false ↦ λ none.
            let gone : entry_at space q ≡ None = missing_within space is (top ++ name ∷ []) (none_from (entry_at space (top ++ name ∷ [])) (sym (members name) ∙ none)) q inside in
            gone ∙ sym (either (list_any (λ (n : List ℕ). is_within (top ++ n ∷ []) q) names) (entry_at space q) gone)
      ]) refl
    where
      either : (b : Bool) (o : Option Entry) → o ≡ None → cond b o None ≡ None
      either true o none = none
      either false o none = refl

  other : (q : Path) → q ≢ top → cond (is_within top q) (entry_at space q) None ≡ cond (list_any (λ (n : List ℕ). is_within (top ++ n ∷ []) q) names) (entry_at space q) None
  other q differ =
      (elim (is_within top q) as (λ b. is_within top q ≡ b → cond b (entry_at space q) None ≡ cond (list_any (λ (n : List ℕ). is_within (top ++ n ∷ []) q) names) (entry_at space q) None) [
        | true ↦ λ within. (elim (drop (length top) q) as (λ (r : Path). top ++ r ≡ q → entry_at space q ≡ cond (list_any (λ (n : List ℕ). is_within (top ++ n ∷ []) q) names) (entry_at space q) None) [
          | [] ↦ λ at. absurd (differ (sym at ∙ append-nil top))
          | (name ∷ rest) ↦ λ at. under q name rest at
        ]) (is_within-rest top q within)
        | false ↦ λ apart. sym (ap (λ (b : Bool). cond b (entry_at space q) None) (none_within top q names apart))
      ]) refl

  same_found : (q : Path) → entry_at (below space top) q ≡ entry_at ((top, entry) ∷ parts space top names) q
  same_found q = entry_at-below space top q ∙ (elim (paths_tell q top) [
    | inl h ↦
        (λ i. cond (is_within top (h.1 i)) (entry_at space (h.1 i)) None) ∙ ap (λ (b : Bool). cond b (entry_at space top) None) (is_within-self top) ∙ there
        ∙ sym (ap (λ (b : Bool). cond b (Some entry) (entry_at (parts space top names) q)) h.0)
    | inr h ↦ other q h.1 ∙ sym (found_parts space top q names) ∙ sym (ap (λ (b : Bool). cond b (Some entry) (entry_at (parts space top names) q)) h.0)
  ])

  opened : below space top ≡ (top, entry) ∷ parts space top names
  opened =
      same_spaces (below space top) ((top, entry) ∷ parts space top names) (Rises-filter (is_within top) space is.rises)
      (and_from (entries.below_all path_cmp top (parts space top names)) (entries.is_sorted path_cmp (parts space top names)) (below_from top (parts space top names) (after_top space top names)) (parts_rise space top is.rises names up))
      same_found

-- ---- what is pending

unfinished_push : (space : Namespace) (pending : List (Path × Key)) (place : Path × Key) → unfinished space (pending ++ place ∷ []) ≡ below space place.0 ++ unfinished space pending
unfinished_push space [] place = sym (append-nil (below space place.0))
unfinished_push space (p ∷ pending) place =
    ap (λ (es : Namespace). es ++ below space p.0) (unfinished_push space pending place) ∙ append_assoc (below space place.0) (unfinished space pending) (below space p.0)

steps_more : (pending : List (Path × Key)) (top : Path) (id : InodeId) (name : List ℕ) (names : List (List ℕ))
    → pending ++ reverse (list_map (step_to top id) (name ∷ names)) ≡ (pending ++ reverse (list_map (step_to top id) names)) ++ step_to top id name ∷ []
steps_more pending top id name names =
    ap (λ (ps : List (Path × Key)). pending ++ ps) (reverse-append (step_to top id name ∷ []) (list_map (step_to top id) names))
    ∙ sym (append_assoc pending (reverse (list_map (step_to top id) names)) (step_to top id name ∷ []))

unfinished_steps : (space : Namespace) (pending : List (Path × Key)) (top : Path) (id : InodeId) (names : List (List ℕ))
    → unfinished space (pending ++ reverse (list_map (step_to top id) names)) ≡ parts space top names ++ unfinished space pending
unfinished_steps space pending top id [] = ap (unfinished space) (append-nil pending)
unfinished_steps space pending top id (name ∷ names) =
    ap (unfinished space) (steps_more pending top id name names)
    ∙ unfinished_push space (pending ++ reverse (list_map (step_to top id) names)) (step_to top id name)
    ∙ ap (λ (es : Namespace). below space (top ++ name ∷ []) ++ es) (unfinished_steps space pending top id names)
    ∙ sym (append_assoc (below space (top ++ name ∷ [])) (parts space top names) (unfinished space pending))

-- the path of a pending place spells the row of its key
pub record HasRow (inodes : Inodes) (place : Path × Key) : Type 0 where
  pub row : Inode
  pub spelt : row_of inodes place.0 ≡ Some row
  pub there : rows.get inodes place.1 ≡ Some row

row_below : (inodes : Inodes) (top : Path) (name : List ℕ) (row : Inode) → row_of inodes top ≡ Some row → row_of inodes (top ++ name ∷ []) ≡ rows.get inodes (key.Inode row.id name)
row_below inodes top name row at = ap (spelled inodes) (reverse-append top (name ∷ [])) ∙ ap (child_of inodes name) at

has_row : (inodes : Inodes) (top : Path) (name : List ℕ) (row : Inode) → row_of inodes top ≡ Some row → (child : Option Inode) → rows.get inodes (key.Inode row.id name) ≡ child → is_some child ≡ true → HasRow inodes (step_to top row.id name)
has_row inodes top name row at None is some = absurd (true≢false (sym some))
has_row inodes top name row at (Some child) is some = record { row = child; spelt = row_below inodes top name row at ∙ is; there = is }

rows_steps : (inodes : Inodes) (pending : List (Path × Key)) (top : Path) (row : Inode) → row_of inodes top ≡ Some row → AllByRecursion (HasRow inodes) pending
    → (names : List (List ℕ)) → AllByRecursion (λ (name : List ℕ). rows.contains_key inodes (key.Inode row.id name) ≡ true) names → AllByRecursion (HasRow inodes) (pending ++ reverse (list_map (step_to top row.id) names))
rows_steps inodes pending top row at all [] some = subst (AllByRecursion (HasRow inodes)) (sym (append-nil pending)) all
rows_steps inodes pending top row at all (name ∷ names) some =
    subst (AllByRecursion (HasRow inodes)) (sym (steps_more pending top row.id name names))
    (all_append (HasRow inodes) (pending ++ reverse (list_map (step_to top row.id) names)) (step_to top row.id name ∷ []) (rows_steps inodes pending top row at all names some.1)
    (has_row inodes top name row at (rows.get inodes (key.Inode row.id name)) refl some.0, tt))

all_members : (test : List ℕ → Bool) (names : List (List ℕ)) → ((name : List ℕ) → list_any (bytes_eq name) names ≡ true → test name ≡ true) → AllByRecursion (λ (name : List ℕ). test name ≡ true) names
all_members test [] each = tt
all_members test (n ∷ names) each = (
  each n (or_left (bytes_eq n n) _ ((bytes_decides n n).1 refl)),
  all_members test names (λ name later. each name (or_right (bytes_eq name n) _ later)),
)

-- ---- the walk

-- what was walked and what is pending is the namespace, and each pending place has its row
pub record IsWalked (inodes : Inodes) (space : Namespace) (tree : Namespace) (pending : List (Path × Key)) : Type 0 where
  pub whole : tree ++ unfinished space pending ≡ space
  pub rows : AllByRecursion (HasRow inodes) pending

is_some_map : {A B : Type 0} (f : A → B) (o : Option A) → is_some (option_map f o) ≡ is_some o
is_some_map f None = refl
is_some_map f (Some x) = refl

module _ (inodes : Inodes) (quotas : Quotas) (space : Namespace) (is : IsNamespace space) (stands : Stands inodes quotas [] space) where
  row_opened : (top : Path) (row : Inode) → row_of inodes top ≡ Some row → below space top ≡ (top, entry_of quotas row) ∷ parts space top (child_names inodes row.id)
  row_opened top row at =
      let children = IsChildren-child_names inodes row.id in
      opened space is top (entry_of quotas row) (child_names inodes row.id) (stands.entries top ∙ ap (option_map (entry_of quotas)) at) children.rising
      (λ name. children.members name ∙ sym (ap is_some (stands.entries (top ++ name ∷ []) ∙ ap (option_map (entry_of quotas)) (row_below inodes top name row at)) ∙ is_some_map (entry_of quotas) (rows.get inodes (key.Inode row.id name))))

  -- at the root
  pub walked_first : (root : Inode) (at : Key) → row_of inodes [] ≡ Some root → rows.get inodes at ≡ Some root → IsWalked inodes space [] (([], at) ∷ [])
  walked_first root at spelt there = record { whole = all space; rows = (record { row = root; spelt = spelt; there = there }, tt) }
    where
      all : (es : Namespace) → below es [] ≡ es
      all [] = refl
      all (e ∷ es) = ap (λ (fs : Namespace). e ∷ fs) (all es)

  -- the next place has its row
  next_row : (tree : Namespace) (pending rest : List (Path × Key)) (place : Path × Key) → IsWalked inodes space tree pending → pending ≡ rest ++ place ∷ [] → HasRow inodes place
  next_row tree pending rest place walked is = all_last (HasRow inodes) rest place (subst (AllByRecursion (HasRow inodes)) is walked.rows)

  module _ (tree : Namespace) (pending rest more : List (Path × Key)) (place : Path × Key) (row : Inode) (walked : IsWalked inodes space tree pending)
      (popped : pending ≡ rest ++ place ∷ []) (at : rows.get inodes place.1 ≡ Some row) (pushed : more ≡ rest ++ reverse (list_map (step_to place.0 row.id) (child_names inodes row.id))) where
    spelt : row_of inodes place.0 ≡ Some row
    spelt = let has = next_row tree pending rest place walked popped in has.spelt ∙ sym has.there ∙ at

    left : unfinished space pending ≡ (place.0, entry_of quotas row) ∷ unfinished space more
    left =
        ap (unfinished space) popped ∙ unfinished_push space rest place
        ∙ ap (λ (es : Namespace). es ++ unfinished space rest) (row_opened place.0 row spelt)
        ∙ ap (λ (es : Namespace). (place.0, entry_of quotas row) ∷ es) (sym (unfinished_steps space rest place.0 row.id (child_names inodes row.id)))
        ∙ ap (λ (ps : List (Path × Key)). (place.0, entry_of quotas row) ∷ unfinished space ps) (sym pushed)

    -- one place more
    walked_on : IsWalked inodes space (tree ++ (place.0, entry_of quotas row) ∷ []) more
    walked_on = record {
      whole = append_assoc tree ((place.0, entry_of quotas row) ∷ []) (unfinished space more) ∙ ap (λ (es : Namespace). tree ++ es) (sym left) ∙ walked.whole;
      rows = subst (AllByRecursion (HasRow inodes)) (sym pushed) (rows_steps inodes rest place.0 row spelt (all_front (HasRow inodes) rest place (subst (AllByRecursion (HasRow inodes)) popped walked.rows))
          (child_names inodes row.id) (let children = IsChildren-child_names inodes row.id in all_members (λ (name : List ℕ). rows.contains_key inodes (key.Inode row.id name)) (child_names inodes row.id) (λ name here. sym (children.members name) ∙ here)));
    }

    -- and less is left
    left_less : length (unfinished space more) < length (unfinished space pending)
    left_less = let long = ap (λ (es : Namespace). length es) left in omega arith

-- one place is taken, its entry comes to the tree, and the places of its children are pushed
pub record IsStep (inodes : Inodes) (quotas : Quotas) (tree grown : Namespace) (pending more : List (Path × Key)) : Type 0 where
  pub rest : List (Path × Key)
  pub place : Path × Key
  pub row : Inode
  pub popped : pending ≡ rest ++ place ∷ []
  pub there : rows.get inodes place.1 ≡ Some row
  pub pushed : more ≡ rest ++ reverse (list_map (step_to place.0 row.id) (child_names inodes row.id))
  pub told : grown ≡ tree ++ (place.0, entry_of quotas row) ∷ []

module _ (inodes : Inodes) (quotas : Quotas) (space : Namespace) (is : IsNamespace space) (stands : Stands inodes quotas [] space) (tree grown : Namespace) (pending more : List (Path × Key))
    (step : IsStep inodes quotas tree grown pending more) (walked : IsWalked inodes space tree pending) where
  pub step_walked : IsWalked inodes space grown more
  step_walked = subst (λ (es : Namespace). IsWalked inodes space es more) (sym step.told) (walked_on inodes quotas space is stands tree pending step.rest more step.place step.row walked step.popped step.there step.pushed)

  pub step_less : length (unfinished space more) < length (unfinished space pending)
  step_less = left_less inodes quotas space is stands tree pending step.rest more step.place step.row walked step.popped step.there step.pushed

-- the row of the next place isn't missing
pub not_missing : (inodes : Inodes) (space tree : Namespace) (pending rest : List (Path × Key)) (place : Path × Key) → IsWalked inodes space tree pending → pending ≡ rest ++ place ∷ [] → rows.get inodes place.1 ≡ None → ⊥
not_missing inodes space tree pending rest place walked popped none =
    let has = all_last (HasRow inodes) rest place (subst (AllByRecursion (HasRow inodes)) popped walked.rows) in
    true≢false (sym (ap is_some has.there) ∙ ap is_some none)
