-- The ranges of a call, argument by argument.
use Rattle.std.proofs.Common.{◌≡◌, true, false, Bool, ◌&&◌, List, [], ◌∷◌, ℕ, refl}
use Rattle.std.specs.List.{list_all, filter_map}
use Rattle.std.proofs.lemmas.Bool.{and_parts, and_from}
use Rattle.name_space.specs.declared.call.Call.{Call}
use Rattle.name_space.specs.Call.{Argument, a_path, a_truth, a_number, a_quota, form_of, is_in_range, path_in, is_valid, paths_of}

-- one argument that is in its range, and no more
pub only_one : (range : Bool) → (range && true) ≡ range
only_one true = refl
only_one false = refl

-- the paths among arguments in their ranges consist of names and are short
paths_in_range : (arguments : List Argument) → list_all is_in_range arguments ≡ true → list_all (λ (path : List (List ℕ)). is_in_range (a_path path)) (filter_map path_in arguments) ≡ true
paths_in_range [] all = refl
paths_in_range (a_path path ∷ rest) all =
    let parts = and_parts (is_in_range (a_path path)) (list_all is_in_range rest) all in
    and_from (is_in_range (a_path path)) _ parts.0 (paths_in_range rest parts.1)
paths_in_range (a_truth truth ∷ rest) all = paths_in_range rest all
paths_in_range (a_number least most number ∷ rest) all = paths_in_range rest (and_parts (is_in_range (a_number least most number)) (list_all is_in_range rest) all).1
paths_in_range (a_quota limit ∷ rest) all = paths_in_range rest (and_parts (is_in_range (a_quota limit)) (list_all is_in_range rest) all).1

-- so do those of a valid call
pub valid_paths : (asked : Call) → is_valid asked ≡ true → list_all (λ (path : List (List ℕ)). is_in_range (a_path path)) (paths_of asked) ≡ true
valid_paths asked valid = paths_in_range (form_of asked).arguments valid
