-- What a book is to its readers.
use Rattle.std.specs.Prelude.{ℕ, List}
use Rattle.commit_log.specs.declared.note.Note.{Note}

-- the notes, and how many there is room for
pub record Shelf : Type 0 where
  pub notes : List Note
  pub room : ℕ
