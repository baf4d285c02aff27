-- The rows below a parent.
use Rattle.std.specs.Prelude.{◌≡◌, ℕ, List, Option, Some, None, length, ◌==◌, if◌then◌else◌}
use Rattle.std.specs.FinMap as map
use Rattle.std.specs.List.{filter_map, list_any}
use Rattle.std.specs.List.Sorted.{IsStrictlySortedBy}
use Rattle.std.specs.Ordering.{nat_cmp}
use Rattle.std.specs.Cmp.Lexicographic.{slice_cmp}
use Rattle.hops_base.specs.declared.ids.InodeId.{InodeId}
use Rattle.hops_base.specs.declared.key.Key.{Key}
use Rattle.hops_base.specs.declared.key.Key.TheVariants.{Inode, Quota, Lease, Reply, Ongoing, Gate}
use Rattle.hops_base.specs.Key.{key_cmp}
use Rattle.std.specs.Prelude.{bytes_eq}

-- the name in an inode's key below the parent
abbrev pub name_below : InodeId → Key → Option (List ℕ)
name_below parent (Inode id name) = if id.0 == parent.0 then Some name else None
name_below parent (Quota id) = None
name_below parent (Lease client id) = None
name_below parent (Reply client) = None
name_below parent (Ongoing op) = None
name_below parent Gate = None

module _ {R : Type 0} where
  -- the names of the rows below the parent, in the order of their keys
  unfoldable pub child_names : map.FinMap key_cmp R → InodeId → List (List ℕ)
  child_names rows parent = filter_map (name_below parent) (map.keys rows)

  -- how many rows stand below the parent
  abbrev pub child_count : map.FinMap key_cmp R → InodeId → ℕ
  child_count rows parent = length (child_names rows parent)

  -- the names rise strictly by their bytes, and are those of the rows below the parent
  pub record IsChildren (rows : map.FinMap key_cmp R) (parent : InodeId) (names : List (List ℕ)) : Type 0 where
    pub rising : IsStrictlySortedBy (slice_cmp nat_cmp) names
    pub members : (name : List ℕ) → list_any (bytes_eq name) names ≡ map.contains_key rows (Inode parent name)
