-- The place that the rows have for a path. This project's own.
use Rattle.std.specs.Prelude.{◌≡◌, Some}
use Rattle.std.specs.FinMap as map
use Rattle.std.specs.List.{AllByRecursion}
use Rattle.hops_base.specs.declared.key.Key.{Key}
use Rattle.inode_table.specs.declared.inode.Inode.{Inode}
use Rattle.name_space.specs.Namespace.{Path}
use Rattle.db_state.specs.declared.view.Place.{Place}
use Rattle.db_state.specs.Stored.{Inodes}
use Rattle.db_state.specs.Current.{SpellsPlace, IsMissing, KnowsChild}

-- the row that was found is the table's
abbrev pub IsFound : Inodes → Key × Inode → Type 0
IsFound inodes found = map.get inodes found.0 ≡ Some found.1

-- the place is what the rows have for the path: the rows from the root's on as far as the path leads, each the table's own at
-- its key; the first missing key, at which there is no row; and whether the last row found has a child
pub record IsPlaceOf (inodes : Inodes) (path : Path) (place : Place) : Type 0 where
  pub of : place.path ≡ path
  pub spells : SpellsPlace place
  pub there : AllByRecursion (IsFound inodes) place.found.items
  pub gone : IsMissing inodes place.missing
  pub child : KnowsChild inodes place
