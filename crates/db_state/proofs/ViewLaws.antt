-- Laws of the paths that a view has places for.
use Rattle.std.proofs.Common.{◌≡◌, List, [], ◌∷◌}
use Rattle.name_space.specs.declared.call.Call.{Call}
use Rattle.name_space.specs.declared.call.Call.TheVariants as call
use Rattle.name_space.specs.Call.{paths_of}
use Rattle.name_space.specs.Namespace.{Path}
use Rattle.db_state.specs.declared.view.Place.{Place}
use Rattle.db_state.specs.Current.{places_of}

-- a call of one path has a place of that path alone
pub one_path : (asked : Call) (path : Path) (places : List Place) → paths_of asked ≡ path ∷ [] → places_of asked places ≡ path ∷ []
one_path (call.Rename source target) path places one = absurd (let bad : source ∷ target ∷ [] ≡ path ∷ [] = one in cc)
one_path asked path places one = one
