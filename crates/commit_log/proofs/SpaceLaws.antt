-- The last namespace of a history, note by note.
use Rattle.std.specs.Prelude.{◌≡◌, ℕ, List, [], ◌∷◌, ◌++◌, refl}
use Rattle.name_space.specs.Namespace.{Namespace, opening}
use Rattle.commit_log.specs.declared.note.Note.{Note}
use Rattle.commit_log.specs.Legal.{space_after, space_from, space}

space_from-push : (users : List (List ℕ)) (old : Namespace) (notes : List Note) (note : Note) → space_from users old (notes ++ note ∷ []) ≡ space_after users (space_from users old notes) note
space_from-push users old [] note = refl
space_from-push users old (n ∷ notes) note = space_from-push users (space_after users old n) notes note

-- one note more
pub space-push : (users : List (List ℕ)) (notes : List Note) (note : Note) → space users (notes ++ note ∷ []) ≡ space_after users (space users notes) note
unfolding space
space-push users notes note = space_from-push users opening notes note

-- no notes
pub space-none : (users : List (List ℕ)) → space users [] ≡ opening
unfolding space
space-none users = refl
