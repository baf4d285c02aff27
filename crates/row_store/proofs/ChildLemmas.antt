-- The rows below a parent, among slots.
use Rattle.std.proofs.Common.{◌≡◌, ℕ, ◌+◌, Bool, true, false, ◌||◌, cond, List, [], ◌∷◌, Option, Some, None, is_some, Result, Ok, Err, IfOk, refl, sym, ap, ◌∙◌, zero-add}
use Rattle.std.specs.BTreeSet as sorted
use Rattle.std.specs.BTreeSet.{BTreeSet}
use Rattle.std.specs.BTreeMap.{is_at}
use Rattle.std.specs.FinMap as map
use Rattle.std.specs.List.{list_any, count_by, IsDistinct}
use Rattle.std.specs.Map.{lookup, keys_of}
use Rattle.std.specs.Ordering.{nat_cmp, eq_by_cmp}
use Rattle.std.specs.Cmp.{eq_by_cmp_equiv}
use Rattle.std.specs.Cmp.Lexicographic.{slice_cmp, texts_ties, nat_list_cmp_total}
use Rattle.std.specs.Option.{option_flatten}
use Rattle.std.proofs.lemmas.List.Sums.{sum_by-cons}
use Rattle.std.proofs.lemmas.Map.{lookup-none}
use Rattle.std.proofs.lemmas.Map.Entries.{none_past_head}
use Rattle.std.proofs.lemmas.Map.Keys.{IsDistinct-tail}
use Rattle.hops_base.specs.declared.ids.InodeId.{InodeId}
use Rattle.hops_base.specs.declared.key.Key.{Key}
use Rattle.hops_base.specs.declared.key.Key.TheVariants.{Inode}
use Rattle.hops_base.specs.Key.{same_key}
use Rattle.std.specs.Prelude.{bytes_eq}
use Rattle.row_store.specs.Children.{name_below, child_count}
use Rattle.row_store.proofs.ChildLaws.{child_count-empty, child_count-insert}
use Rattle.row_store.specs.Slots.{name_in, is_child}
use Rattle.row_store.proofs.ChildNames.{child_key}
use Rattle.row_store.proofs.TableLemmas.{laws, rows_of, get_rows}

-- two clauses on a result are one
pub if_ok_both : {X E : Type 0} (r : Result X E) (P Q S : X → Type 0) → ((x : X) → P x → Q x → S x) → IfOk r P → IfOk r Q → IfOk r S
if_ok_both (Ok x) P Q S gives p q = gives x p q
if_ok_both (Err e) P Q S gives p q = tt

cond_or : (b x : Bool) → cond b true x ≡ (b || x)
cond_or true x = refl
cond_or false x = refl

-- a name more in a set of names
pub added : (old new : BTreeSet (List ℕ)) (copy name : List ℕ) → copy ≡ name
    → ((q : List ℕ) → sorted.contains (slice_cmp nat_cmp) new q ≡ cond (is_at (slice_cmp nat_cmp copy) q) true (sorted.contains (slice_cmp nat_cmp) old q))
    → (q : List ℕ) → sorted.contains (slice_cmp nat_cmp) new q ≡ (bytes_eq q name || sorted.contains (slice_cmp nat_cmp) old q)
added old new copy name same h q =
    h q ∙ cond_or (eq_by_cmp (slice_cmp nat_cmp) copy q) (sorted.contains (slice_cmp nat_cmp) old q)
    ∙ ap (λ b. b || sorted.contains (slice_cmp nat_cmp) old q) ((eq_by_cmp_equiv nat_list_cmp_total).symm copy q ∙ sym (texts_ties q copy) ∙ ap (bytes_eq q) same)

-- a name among those of a set
pub any_same_name : (q : List ℕ) (names : List (List ℕ)) (set : BTreeSet (List ℕ)) → names ≡ set.keys → list_any (bytes_eq q) names ≡ sorted.contains (slice_cmp nat_cmp) set q
any_same_name q names set e = ap (list_any (bytes_eq q)) e ∙ (λ i. list_any (λ name. texts_ties q name i) set.keys)

module _ {R : Type 0} where
  -- a row below the parent is found under its name
  pub children_found : (slots : List (Key × Option R)) (parent : InodeId) (q : List ℕ) → IsDistinct same_key (keys_of slots) → list_any (is_child parent q) slots ≡ is_some (option_flatten (lookup (same_key (Inode parent q)) slots))
  children_found [] parent q apart = refl
  children_found ((k, None) ∷ slots) parent q apart =
      children_found slots parent q (IsDistinct-tail _ _ _ apart) ∙ (elim (same_key (Inode parent q) k) as (λ b. same_key (Inode parent q) k ≡ b → is_some (option_flatten (lookup (same_key (Inode parent q)) slots)) ≡ is_some (option_flatten (cond b (Some None) (lookup (same_key (Inode parent q)) slots)))) [
        | true ↦ λ e. ap (λ o. is_some (option_flatten o)) (lookup-none _ slots (none_past_head laws (Inode parent q) (k, None) slots apart e))
        | false ↦ λ e. refl
      ]) refl
  children_found ((k, Some row) ∷ slots) parent q apart =
      ap (λ b. b || list_any (is_child parent q) slots) (sym (child_key parent q k)) ∙ (elim (same_key (Inode parent q) k) as (λ b. (b || list_any (is_child parent q) slots) ≡ is_some (option_flatten (cond b (Some (Some row)) (lookup (same_key (Inode parent q)) slots)))) [
        | true ↦ refl
        | false ↦ children_found slots parent q (IsDistinct-tail _ _ _ apart)
      ])

  -- as many slots have a row below the parent as the table counts
  pub count_found : (slots : List (Key × Option R)) (parent : InodeId) → IsDistinct same_key (keys_of slots) → count_by (λ slot. is_some (name_in parent slot)) slots ≡ child_count (rows_of slots) parent
  count_found [] parent apart = sym (child_count-empty R parent)
  count_found ((k, None) ∷ slots) parent apart =
      sum_by-cons (λ (slot : Key × Option R). cond (is_some (name_in parent slot)) 1 0) (k, None) slots
      ∙ zero-add _
      ∙ count_found slots parent (IsDistinct-tail _ _ _ apart)
  count_found ((k, Some row) ∷ slots) parent apart =
      let none : map.get (rows_of slots) k ≡ None = get_rows slots (IsDistinct-tail _ _ _ apart) k ∙ ap option_flatten (lookup-none _ slots (none_past_head laws k (k, Some row) slots apart (laws.refl k))) in
      sum_by-cons (λ (slot : Key × Option R). cond (is_some (name_in parent slot)) 1 0) (k, Some row) slots
      ∙ ap (λ n. cond (is_some (name_below parent k)) 1 0 + n) (count_found slots parent (IsDistinct-tail _ _ _ apart))
      ∙ sym (child_count-insert (rows_of slots) parent k row none)
