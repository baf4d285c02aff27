-- What is told of the rows under a row, as they are gone over.
use Rattle.std.proofs.Common.{◌≡◌, ℕ, List, [], ◌∷◌, ◌++◌, Option, Some, None, option_map, sym, ap, ◌∙◌, append_assoc, append-nil, length, arith}
use Rattle.std.specs.FinMap as map
use Rattle.std.specs.List.{filter_map, cons_option}
use Rattle.hops_base.specs.declared.ids.InodeId.{InodeId}
use Rattle.hops_base.specs.declared.key.Key.TheVariants as key
use Rattle.name_space.specs.declared.entry.Listed.{Listed}
use Rattle.row_store.specs.Children.{IsChildren}
use Rattle.row_store.proofs.ChildLaws.{IsChildren-only}
use Rattle.db_state.specs.Spelled.{Inodes}
use Rattle.db_state.specs.Current.{listed_row, listed_under}

-- what is told of the row of this name
abbrev pub told_at : Inodes → InodeId → List ℕ → Option Listed
told_at inodes parent name = option_map (listed_row name) (map.get inodes (key.Inode parent name))

-- the names of all rows under a row are told of
pub all_told : (inodes : Inodes) (parent : InodeId) (names : List (List ℕ)) → IsChildren inodes parent names → filter_map (told_at inodes parent) names ≡ listed_under inodes parent
all_told inodes parent names children = ap (filter_map (told_at inodes parent)) (IsChildren-only inodes parent names children)

module _ {A B : Type 0} (f : A → Option B) where
  -- something is told of one more
  pub told_more : (told : List B) (x : A) (xs all : List A) (y : B) → all ≡ x ∷ xs → f x ≡ Some y → (told ++ y ∷ []) ++ filter_map f xs ≡ told ++ filter_map f all
  told_more told x xs all y is e =
      append_assoc told (y ∷ []) (filter_map f xs) ∙ sym (ap (λ (o : Option B). told ++ cons_option o (filter_map f xs)) e) ∙ sym (ap (λ (zs : List A). told ++ filter_map f zs) is)

  -- nothing is
  pub told_none : (told : List B) (x : A) (xs all : List A) → all ≡ x ∷ xs → f x ≡ None → told ++ filter_map f xs ≡ told ++ filter_map f all
  told_none told x xs all is e =
      sym (ap (λ (o : Option B). told ++ cons_option o (filter_map f xs)) e) ∙ sym (ap (λ (zs : List A). told ++ filter_map f zs) is)

  -- none is left
  pub told_all : (told : List B) (xs : List A) → length xs ≡ 0 → told ≡ told ++ filter_map f xs
  told_all told [] none = sym (append-nil told)
  told_all told (x ∷ xs) none = absurd (omega arith)
