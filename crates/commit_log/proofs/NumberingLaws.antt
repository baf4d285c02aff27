-- The ids of a history, note by note.
use Rattle.std.specs.Prelude.{◌≡◌, ℕ, List, [], ◌∷◌, ◌++◌, refl}
use Rattle.name_space.specs.Namespace.{Namespace, opening}
use Rattle.commit_log.specs.declared.note.Note.{Note}
use Rattle.commit_log.specs.Legal.{space, space_after, space_from}
use Rattle.commit_log.specs.Ids.{Numbering, first_numbering, numbering_after, numbering_from, ids}

numbering_from-push : (users : List (List ℕ)) (numbering : Numbering) (old : Namespace) (notes : List Note) (note : Note)
    → numbering_from users numbering old (notes ++ note ∷ [])
    ≡ numbering_after (numbering_from users numbering old notes) (space_from users old notes) (space_after users (space_from users old notes) note) note
numbering_from-push users numbering old [] note = refl
numbering_from-push users numbering old (n ∷ notes) note =
    numbering_from-push users (numbering_after numbering old (space_after users old n) n) (space_after users old n) notes note

-- one note more
pub ids-push : (users : List (List ℕ)) (notes : List Note) (note : Note)
    → ids users (notes ++ note ∷ []) ≡ numbering_after (ids users notes) (space users notes) (space_after users (space users notes) note) note
unfolding ids space
ids-push users notes note = numbering_from-push users first_numbering opening notes note

-- no notes
pub ids-none : (users : List (List ℕ)) → ids users [] ≡ first_numbering
unfolding ids
ids-none users = refl
