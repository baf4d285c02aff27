-- Lists by key, where a key that has no items has no list.
use Rattle.std.specs.Prelude.{◌≡◌, List, [], length, take, ◌-◌, Option, nat_lt, is_some}
use Rattle.std.specs.Option.{option_map_or}
use Rattle.std.specs.declared.cmp.Ordering.{Ordering}
use Rattle.std.specs.declared.vec.Vec.{Vec}
use Rattle.std.specs.BTreeMap.{BTreeMap, IsOrdered, get}

-- the items without the last one
abbrev pub all_but_last : {T : Type 0} → List T → List T
all_but_last items = take (length items - 1) items

-- the items of a list, if there is one
abbrev pub items_in : {T Z : Type 0} → Option (Vec T Z) → List T
items_in {T} {Z} list = option_map_or (λ (v : Vec T Z). v.items) list []

module _ {K T Z : Type 0} (cmp : K → K → Ordering) where
  -- the items of a key
  abbrev pub items_at : BTreeMap K (Vec T Z) → K → List T
  items_at lists key = items_in (get cmp lists key)

  -- the lists rise by their keys, and none is empty
  pub record IsLists (lists : BTreeMap K (Vec T Z)) : Type 0 where
    pub ordered : IsOrdered cmp lists
    pub full : (key : K) → is_some (get cmp lists key) ≡ nat_lt 0 (length (items_at lists key))
