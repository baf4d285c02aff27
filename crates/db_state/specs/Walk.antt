-- How the walk over the rows goes. This project's own.
use Rattle.std.specs.Prelude.{ℕ, List, [], ◌∷◌, ◌++◌}
use Rattle.hops_base.specs.declared.ids.InodeId.{InodeId}
use Rattle.hops_base.specs.declared.key.Key.{Key}
use Rattle.hops_base.specs.declared.key.Key.TheVariants as key
use Rattle.name_space.specs.Namespace.{Path}

-- the path and the key of a child
abbrev pub step_to : Path → InodeId → List ℕ → Path × Key
step_to path parent name = (path ++ name ∷ [], key.Inode parent name)
