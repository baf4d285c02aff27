-- What a walk over the rows has still to do.
use Rattle.std.specs.Prelude.{ℕ, List, [], ◌∷◌, ◌++◌}
use Rattle.hops_base.specs.declared.key.Key.{Key}
use Rattle.name_space.specs.Namespace.{Namespace, Path, below}

-- what stands at and below the children of these names
abbrev pub parts : Namespace → Path → List (List ℕ) → Namespace
parts space path [] = []
parts space path (name ∷ names) = below space (path ++ name ∷ []) ++ parts space path names

-- what is still to be walked where these places are pending, the last of them first
abbrev pub unfinished : Namespace → List (Path × Key) → Namespace
unfinished space [] = []
unfinished space (place ∷ pending) = unfinished space pending ++ below space place.0
