-- The keys and the names of the rows below a parent.
use Rattle.std.specs.Prelude.{◌≡◌, ℕ, ◌+◌, Bool, true, false, cond, ◌||◌, ◌==◌, is_some, List, [], ◌∷◌, map, length, Option, Some, None, T, refl}
use Rattle.std.proofs.Common.{sym, ap, subst, ◌∙◌, arith, Less, Equal, Greater, eqb-true, eq-eqb}
use Rattle.std.proofs.lemmas.Bool.{false_from_ne_true}
use Rattle.std.specs.FinMap.Entries.{find, put, by_order, is_sorted, below_all}
use Rattle.std.specs.List.{AllByRecursion, filter_map, cons_option, list_any}
use Rattle.std.specs.List.Sorted.{IsStrictlySortedBy}
use Rattle.std.specs.Option.{option_map_or}
use Rattle.std.specs.Ordering.{nat_cmp, is_eq, ordering_then}
use Rattle.std.specs.Cmp.{nat_cmp_total, tied_itself}
use Rattle.std.specs.Cmp.Lexicographic.{slice_cmp, texts_ties}
use Rattle.std.proofs.lemmas.Map.Views.{tells_apart}
use Rattle.hops_base.specs.declared.ids.InodeId.{InodeId}
use Rattle.hops_base.specs.declared.key.Key.{Key}
use Rattle.hops_base.specs.declared.key.Key.TheVariants.{Inode, Quota, Lease, Reply, Ongoing, Gate}
use Rattle.hops_base.specs.Key.{key_cmp, same_key}
use Rattle.hops_base.proofs.Tells.{key_cmp_exact}
use Rattle.std.specs.Prelude.{bytes_eq}
use Rattle.row_store.specs.Children.{name_below}
use Rattle.row_store.proofs.Rising.{first, second, less}

-- only one key has a name below the parent
pub name_below-some : (parent : InodeId) (name : List ℕ) (key : Key) → name_below parent key ≡ Some name → key ≡ Inode parent name
name_below-some parent name (Inode id own) e =
    elim (id.0 == parent.0) as (λ b. (id.0 == parent.0) ≡ b → cond b (Some own) None ≡ Some name → Inode id own ≡ Inode parent name) [
      | true ↦ λ is h.
          let ids : id ≡ parent = ap (λ n. record { 0 = n }) (eqb-true id.0 parent.0 is) in
          let names : own ≡ name = cc in
          cc
      | false ↦ λ is h. cc
    ] refl e
name_below-some parent name (Quota id) e = cc
name_below-some parent name (Lease client id) e = cc
name_below-some parent name (Reply client) e = cc
name_below-some parent name (Ongoing op) e = cc
name_below-some parent name Gate e = cc

-- the names below one parent are ordered as their keys
pub child_order : (parent : InodeId) (a b : List ℕ) → key_cmp (Inode parent a) (Inode parent b) ≡ slice_cmp nat_cmp a b
unfolding key_cmp
child_order parent a b = ap (λ o. ordering_then o (slice_cmp nat_cmp a b)) (tied_itself nat_cmp_total parent.0)

-- a name below the parent is found by its key
pub name_below-self : (parent : InodeId) (name : List ℕ) → name_below parent (Inode parent name) ≡ Some name
name_below-self parent name = ap (λ b. cond b (Some name) None) (eq-eqb parent.0 parent.0 refl)

-- the key of a child is told by its parent and its name
pub child_key : (parent : InodeId) (q : List ℕ) (key : Key) → same_key (Inode parent q) key ≡ option_map_or (bytes_eq q) (name_below parent key) false
child_key parent q key =
    elim (name_below parent key) as (λ o. name_below parent key ≡ o → same_key (Inode parent q) key ≡ option_map_or (bytes_eq q) o false) [
      | None ↦ λ is. false_from_ne_true _ (λ same.
          let at : Inode parent q ≡ key = tells_apart key_cmp_exact (Inode parent q) key same in
          let here : Some q ≡ None = sym (name_below-self parent q) ∙ ap (name_below parent) at ∙ is in
          cc)
      | Some name ↦ λ is. ap (same_key (Inode parent q)) (name_below-some parent name key is) ∙ ap is_eq (child_order parent q name) ∙ sym (texts_ties q name)
    ] refl

-- ---- the names below a parent

-- a test of one name more
any_cons : (p : List ℕ → Bool) (o : Option (List ℕ)) (names : List (List ℕ)) → list_any p (cons_option o names) ≡ (option_map_or p o false || list_any p names)
any_cons p None names = refl
any_cons p (Some name) names = refl

-- a name is among those of some keys where its key is among the keys
pub any_names : (parent : InodeId) (q : List ℕ) (keys : List Key) → list_any (bytes_eq q) (filter_map (name_below parent) keys) ≡ list_any (same_key (Inode parent q)) keys
any_names parent q [] = refl
any_names parent q (k ∷ keys) = any_cons (bytes_eq q) (name_below parent k) (filter_map (name_below parent) keys) ∙ λ i. sym (child_key parent q k) i || any_names parent q keys i

-- how many names there are with one more
length_cons : (o : Option (List ℕ)) (names : List (List ℕ)) → length (cons_option o names) ≡ cond (is_some o) 1 0 + length names
length_cons None names = omega arith
length_cons (Some name) names = omega arith

module _ {R : Type 0} where
  -- the names of keys above a child's are above its name
  above_names : (parent : InodeId) (a : List ℕ) (es : List (Key × R)) → T (below_all key_cmp (Inode parent a) es) → AllByRecursion (λ b. slice_cmp nat_cmp a b ≡ Less) (filter_map (name_below parent) (map (λ e. e.0) es))
  above_names parent a [] h = tt
  above_names parent a (e ∷ es) h =
      elim (name_below parent e.0) as (λ o. name_below parent e.0 ≡ o → AllByRecursion (λ b. slice_cmp nat_cmp a b ≡ Less) (cons_option o (filter_map (name_below parent) (map (λ e. e.0) es)))) [
        | None ↦ λ is. above_names parent a es (second _ _ h)
        | Some b ↦ λ is. (sym (child_order parent a b) ∙ ap (key_cmp (Inode parent a)) (sym (name_below-some parent b e.0 is)) ∙ less _ (first _ _ h), above_names parent a es (second _ _ h))
      ] refl

  -- the names of keys that rise do so too
  pub names_rise : (parent : InodeId) (es : List (Key × R)) → T (is_sorted key_cmp es) → IsStrictlySortedBy (slice_cmp nat_cmp) (filter_map (name_below parent) (map (λ e. e.0) es))
  unfolding IsStrictlySortedBy
  names_rise parent [] h = tt
  names_rise parent (e ∷ es) h =
      elim (name_below parent e.0) as (λ o. name_below parent e.0 ≡ o → IsStrictlySortedBy (slice_cmp nat_cmp) (cons_option o (filter_map (name_below parent) (map (λ e. e.0) es)))) [
        | None ↦ λ is. names_rise parent es (second _ _ h)
        | Some a ↦ λ is. (above_names parent a es (subst (λ k. T (below_all key_cmp k es)) (name_below-some parent a e.0 is) (first _ _ h)), names_rise parent es (second _ _ h))
      ] refl

  -- how many names there are with one key more
  pub length_put : (parent : InodeId) (k : Key) (row : R) (es : List (Key × R)) → find key_cmp k es ≡ None → length (filter_map (name_below parent) (map (λ e. e.0) (put key_cmp k row es))) ≡ cond (is_some (name_below parent k)) 1 0 + length (filter_map (name_below parent) (map (λ e. e.0) es))
  length_put parent k row [] none = length_cons (name_below parent k) []
  length_put parent k row (e ∷ es) none =
      elim (key_cmp k e.0) as (λ o. cond (is_eq o) (Some e.1) (find key_cmp k es) ≡ None → length (filter_map (name_below parent) (map (λ e. e.0) (by_order o ((k, row) ∷ e ∷ es) ((e.0, row) ∷ es) (e ∷ put key_cmp k row es)))) ≡ cond (is_some (name_below parent k)) 1 0 + length (filter_map (name_below parent) (map (λ e. e.0) (e ∷ es)))) [
        | Less ↦ λ h. length_cons (name_below parent k) (filter_map (name_below parent) (map (λ e. e.0) (e ∷ es)))
        | Equal ↦ λ h. cc
        | Greater ↦ λ h.
            let new = length_cons (name_below parent e.0) (filter_map (name_below parent) (map (λ e. e.0) (put key_cmp k row es))) in
            let old = length_cons (name_below parent e.0) (filter_map (name_below parent) (map (λ e. e.0) es)) in
            let rest = length_put parent k row es h in
            omega (arith, new, old, rest)
      ] none
