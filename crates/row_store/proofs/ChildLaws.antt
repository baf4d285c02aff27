-- What holds of the rows below a parent.
use Rattle.std.specs.Prelude.{◌≡◌, ℕ, ◌+◌, ◌<◌, true, false, cond, ◌||◌, ◌↔◌, is_some, List, [], ◌∷◌, map, length, Option, Some, None, refl}
use Rattle.std.proofs.Common.{sym, ap, ◌∙◌, arith, zero, suc}
use Rattle.std.specs.FinMap as finmap
use Rattle.std.specs.FinMap.{FinMap, slice_cmp-IsAntisymmetric, nat_cmp-IsAntisymmetric}
use Rattle.std.specs.List.{filter_map, list_any}
use Rattle.std.specs.Ordering.{nat_cmp}
use Rattle.std.specs.Cmp.{eq_by_cmp_equiv}
use Rattle.std.specs.Cmp.Lexicographic.{slice_cmp, texts_ties, nat_list_cmp_total}
use Rattle.std.proofs.lemmas.Map.Views.{tells_apart}
use Rattle.hops_base.specs.declared.ids.InodeId.{InodeId}
use Rattle.hops_base.specs.declared.key.Key.{Key}
use Rattle.hops_base.specs.declared.key.Key.TheVariants.{Inode}
use Rattle.hops_base.specs.Key.{key_cmp, same_key, key_cmp_total}
use Rattle.hops_base.proofs.Tells.{key_cmp_exact}
use Rattle.std.specs.Prelude.{bytes_eq}
use Rattle.row_store.specs.Children.{name_below, child_names, child_count, IsChildren}
use Rattle.row_store.proofs.Rising.{same_rising}
use Rattle.row_store.proofs.ChildNames.{any_names, names_rise, length_put}

module _ {R : Type 0} where
  -- the names of the rows below a parent are its children
  pub IsChildren-child_names : (rows : FinMap key_cmp R) (parent : InodeId) → IsChildren rows parent (child_names rows parent)
  unfolding child_names
  IsChildren-child_names rows parent = record {
    rising = names_rise parent (finmap.entries rows) (finmap.entries_sorted rows);
    members = λ name. any_names parent name (finmap.keys rows) ∙ sym (finmap.contains_key-keys rows (Inode parent name));
  }

  -- and no other list is
  pub IsChildren-only : (rows : FinMap key_cmp R) (parent : InodeId) (names : List (List ℕ)) → IsChildren rows parent names → names ≡ child_names rows parent
  IsChildren-only rows parent names children =
      let own = IsChildren-child_names rows parent in
      same_rising (slice_cmp nat_cmp) nat_list_cmp_total (slice_cmp-IsAntisymmetric nat_cmp-IsAntisymmetric) names (child_names rows parent) children.rising own.rising
      (λ q. (λ i. list_any (λ name. sym (texts_ties q name) i) names) ∙ children.members q ∙ sym (own.members q) ∙ (λ i. list_any (λ name. texts_ties q name i) (child_names rows parent)))

  -- there are as many children as are counted
  pub length-IsChildren : (rows : FinMap key_cmp R) (parent : InodeId) (names : List (List ℕ)) → IsChildren rows parent names → length names ≡ child_count rows parent
  length-IsChildren rows parent names children = ap length (IsChildren-only rows parent names children)

  -- a parent with a child, and its child
  pub child_found : (rows : FinMap key_cmp R) (parent : InodeId) → 0 < child_count rows parent → (name : List ℕ) × (finmap.contains_key rows (Inode parent name) ≡ true)
  child_found rows parent = found (child_names rows parent) (IsChildren-child_names rows parent)
    where
      found : (names : List (List ℕ)) → IsChildren rows parent names → 0 < length names → (name : List ℕ) × (finmap.contains_key rows (Inode parent name) ≡ true)
      found [] children some = absurd (omega arith)
      found (name ∷ names) children some = (name, sym (children.members name) ∙ ap (λ b. b || list_any (bytes_eq name) names) (texts_ties name name ∙ (eq_by_cmp_equiv nat_list_cmp_total).refl name))

  -- none is counted exactly where no name below the parent has a row
  pub child_count-zero : (rows : FinMap key_cmp R) (parent : InodeId) → (child_count rows parent ≡ 0) ↔ ((name : List ℕ) → finmap.contains_key rows (Inode parent name) ≡ false)
  child_count-zero rows parent = (
    λ zero name. sym ((IsChildren-child_names rows parent).members name) ∙ ap (list_any (bytes_eq name)) (no_items (child_names rows parent) zero),
    λ none. not_more (child_count rows parent) (λ some. let child = child_found rows parent some in let is = child.1 in let no_row = none child.0 in cc),
  )
    where
      no_items : (names : List (List ℕ)) → length names ≡ 0 → names ≡ []
      no_items [] e = refl
      no_items (name ∷ names) e = absurd (omega arith)

      not_more : (n : ℕ) → (0 < n → ⊥) → n ≡ 0
      not_more zero h = refl
      not_more (suc n) h = absurd (h (omega arith))

  -- the count hangs only on which names below the parent have rows
  pub child_count-same : (rows others : FinMap key_cmp R) (parent : InodeId) → ((name : List ℕ) → finmap.contains_key rows (Inode parent name) ≡ finmap.contains_key others (Inode parent name)) → child_count rows parent ≡ child_count others parent
  child_count-same rows others parent same =
      let own = IsChildren-child_names rows parent in
      length-IsChildren others parent (child_names rows parent) (record { rising = own.rising; members = λ name. own.members name ∙ same name })

  -- a row under a new key
  pub child_count-insert : (rows : FinMap key_cmp R) (parent : InodeId) (k : Key) (row : R) → finmap.get rows k ≡ None → child_count (finmap.insert rows k row) parent ≡ cond (is_some (name_below parent k)) 1 0 + child_count rows parent
  unfolding child_names
  child_count-insert rows parent k row none =
      ap (λ es. length (filter_map (name_below parent) (map (λ e. e.0) es))) (finmap.entries-insert key_cmp_total rows k row)
      ∙ length_put parent k row (finmap.entries rows) (sym (finmap.get-entries rows k) ∙ none)

  -- a row in the place of another
  pub child_count-replace : (rows : FinMap key_cmp R) (parent : InodeId) (k : Key) (row : R) → finmap.contains_key rows k ≡ true → child_count (finmap.insert rows k row) parent ≡ child_count rows parent
  child_count-replace rows parent k row there = child_count-same (finmap.insert rows k row) rows parent (λ name. at (Inode parent name))
    where
      at : (q : Key) → finmap.contains_key (finmap.insert rows k row) q ≡ finmap.contains_key rows q
      at q = ap is_some (finmap.get-insert key_cmp_total rows k row q) ∙ (elim (same_key q k) as (λ b. same_key q k ≡ b → is_some (cond b (Some row) (finmap.get rows q)) ≡ finmap.contains_key rows q) [
        | true ↦ λ e. sym (ap (finmap.contains_key rows) (tells_apart key_cmp_exact q k e) ∙ there)
        | false ↦ λ e. refl
      ]) refl

  -- a row that goes
  pub child_count-remove : (rows : FinMap key_cmp R) (parent : InodeId) (k : Key) → finmap.contains_key rows k ≡ true → cond (is_some (name_below parent k)) 1 0 + child_count (finmap.remove rows k) parent ≡ child_count rows parent
  child_count-remove rows parent k there = removed (finmap.get rows k) there
    where
      gone : finmap.get (finmap.remove rows k) k ≡ None
      gone = finmap.get-remove key_cmp_total rows k k ∙ ap (λ b. cond b None (finmap.get rows k)) ((eq_by_cmp_equiv key_cmp_total).refl k)

      back : (row : R) (q : Key) → finmap.contains_key (finmap.insert (finmap.remove rows k) k row) q ≡ finmap.contains_key rows q
      back row q = ap is_some (finmap.get-insert key_cmp_total (finmap.remove rows k) k row q ∙ ap (cond (same_key q k) (Some row)) (finmap.get-remove key_cmp_total rows k q)) ∙ (elim (same_key q k) as (λ b. same_key q k ≡ b → is_some (cond b (Some row) (cond b None (finmap.get rows q))) ≡ finmap.contains_key rows q) [
        | true ↦ λ e. sym (ap (finmap.contains_key rows) (tells_apart key_cmp_exact q k e) ∙ there)
        | false ↦ λ e. refl
      ]) refl

      removed : (had : Option R) → is_some had ≡ true → cond (is_some (name_below parent k)) 1 0 + child_count (finmap.remove rows k) parent ≡ child_count rows parent
      removed None e = absurd (let bad = e in cc)
      removed (Some row) e = sym (child_count-insert (finmap.remove rows k) parent k row gone) ∙ child_count-same _ rows parent (λ name. back row (Inode parent name))

-- no rows
pub child_count-empty : (R : Type 0) (parent : InodeId) → child_count (finmap.empty {X = R}) parent ≡ 0
child_count-empty R parent = (child_count-zero finmap.empty parent).1 (λ name. ap is_some (finmap.get-empty key_cmp (Inode parent name)))
