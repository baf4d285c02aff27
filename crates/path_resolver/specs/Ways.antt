-- What was found for a path so far, as the place that it makes.
use Rattle.std.specs.Prelude.{◌≡◌, ℕ, false, List, [], ◌∷◌, ◌++◌, Option, option_copied}
use Rattle.hops_base.specs.declared.key.Key.{Key}
use Rattle.hops_base.specs.declared.key.Key.TheVariants as key
use Rattle.inode_table.specs.declared.inode.Inode.{Inode}
use Rattle.name_space.specs.Namespace.{Path}
use Rattle.db_state.specs.declared.view.Place.{Place}
use Rattle.path_resolver.specs.declared.way.Way.{Way}

-- the rows, the last of them last
abbrev pub rows_of : Way → List (Key × Inode)
rows_of way = way.above.now ++ way.last.now ∷ []

-- the place that they make
abbrev pub place_of : Way → Place
place_of way = record { path = way.path.now; found = record { items = rows_of way; room = 0 }; missing = option_copied way.missing; has_child = false }

-- the key of a name below a row
abbrev pub key_below : Key × Inode → List ℕ → Key
key_below above name = key.Inode above.1.id name

-- the way has these rows and this first missing key
pub record IsWay (path : Path) (rows : List (Key × Inode)) (missing : Option Key) (way : Way) : Type 0 where
  pub of : way.path.now ≡ path
  pub has : rows_of way ≡ rows
  pub lacks : option_copied way.missing ≡ missing
