-- What holds of each note and the notes before it.
use Rattle.std.specs.Prelude.{List, [], ◌∷◌, ◌++◌, ⊤}
use Rattle.commit_log.specs.declared.note.Note.{Note}

-- P holds of each of the notes and those before it, where these stand before them all
abbrev pub EachAfter : (List Note → Note → Type 0) → List Note → List Note → Type 0
EachAfter P before [] = ⊤
EachAfter P before (note ∷ notes) = P before note × EachAfter P (before ++ note ∷ []) notes

-- P holds of each note and the notes before it
unfoldable pub Each : (List Note → Note → Type 0) → List Note → Type 0
Each P notes = EachAfter P [] notes
