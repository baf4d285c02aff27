-- A list of slots: keys, each with its row or ready for one.
use Rattle.std.specs.Prelude.{◌≡◌, ℕ, ◌<◌, Bool, false, true, List, [], ◌∷◌, length, Option, Some, None, is_some, slice_index_or, slice_set}
use Rattle.std.specs.Option.{option_map_or}
use Rattle.std.specs.List.{remove}
use Rattle.std.specs.Map.{lookup, set_value, remove_entry}
use Rattle.hops_base.specs.declared.ids.InodeId.{InodeId}
use Rattle.hops_base.specs.declared.key.Key.{Key}
use Rattle.hops_base.specs.Key.{same_key}
use Rattle.std.specs.Prelude.{bytes_eq}
use Rattle.row_store.specs.Children.{name_below}

module _ {R : Type 0} where
  -- the slot is the key's
  abbrev pub is_slot_of : Key → Key × Option R → Bool
  is_slot_of key slot = same_key key slot.0

  -- the keys that have a row, with their rows
  abbrev pub rows_in : List (Key × Option R) → List (Key × R)
  rows_in [] = []
  rows_in ((key, None) ∷ slots) = rows_in slots
  rows_in ((key, Some row) ∷ slots) = (key, row) ∷ rows_in slots

  -- the keys that are ready for a row
  abbrev pub ready_in : List (Key × Option R) → List Key
  ready_in [] = []
  ready_in ((key, None) ∷ slots) = key ∷ ready_in slots
  ready_in ((key, Some row) ∷ slots) = ready_in slots

  -- the name in the slot's key, where it has a row and stands below the parent
  abbrev pub name_in : InodeId → Key × Option R → Option (List ℕ)
  name_in parent (key, None) = None
  name_in parent (key, Some row) = name_below parent key

  -- the slot has the row of this name below the parent
  abbrev pub is_child : InodeId → List ℕ → Key × Option R → Bool
  is_child parent name slot = option_map_or (bytes_eq name) (name_in parent slot) false

  -- the slot at this index is the key's: it is what a look-up finds, and an edit of it is that of the key's slot
  pub record IsSlotAt (key : Key) (slots : List (Key × Option R)) (at : ℕ) : Type 0 where
    pub in_range : at < length slots
    pub found : is_some (lookup (same_key key) slots) ≡ true
    pub row : (slot : Key × Option R) → slot ≡ slice_index_or slots at slot → Some slot.1 ≡ lookup (same_key key) slots
    pub filled : (slot : Key × Option R) (new : Option R) → slot ≡ slice_index_or slots at slot → slice_set slots at (slot.0, new) ≡ set_value (same_key key) slots new
    pub cleared : remove slots at ≡ remove_entry (same_key key) slots
