-- The locks that were taken and that nothing gave back.
use Rattle.std.specs.Prelude.{◌≡◌, Bool, false, List, [], ◌∷◌, ◌++◌}
use Rattle.commit_log.specs.declared.note.Note.{Note}
use Rattle.commit_log.specs.declared.note.Note.TheVariants.{Took, Gave, Did, Gone}
use Rattle.commit_log.specs.Along.{EachAfter}
use Rattle.commit_log.specs.Parts.{is_at, Taking}
use Rattle.commit_log.specs.Locks.{is_of}

-- the note, with those before it, gives the lock back: a Gave or a Did of its session, or a Gone of the namenode at
-- which this was opened
abbrev pub gives_back : List Note → Taking → Note → Bool
gives_back before lock (Gave s) = is_of s lock
gives_back before lock (Did s client number call reads reply) = is_of s lock
gives_back before lock (Gone node ended) = is_at before node lock.session
gives_back before lock note = false

-- the note leaves the lock
abbrev pub StaysAt : Taking → List Note → Note → Type 0
StaysAt lock before note = gives_back before lock note ≡ false

-- the lock was taken, and nothing after that gives it back
pub record IsTaken (notes : List Note) (lock : Taking) : Type 0 where
  pub earlier : List Note
  pub later : List Note
  pub is : notes ≡ earlier ++ Took lock.session lock.key lock.mode ∷ later
  pub stays : EachAfter (StaysAt lock) (earlier ++ Took lock.session lock.key lock.mode ∷ []) later
