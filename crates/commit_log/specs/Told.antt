-- What a checker decides of a report: the whole of what a book, its answers and the last tree tell. This project's own.
use Rattle.std.specs.Prelude.{◌≡◌, Bool, true, false, List, Option, Some, None, IsSomeAnd}
use Rattle.hops_base.specs.declared.ids.OpId.{OpId}
use Rattle.name_space.specs.declared.call.OpKind.{OpKind}
use Rattle.name_space.specs.declared.call.OpKind.TheVariants.{Delete}
use Rattle.name_space.specs.Namespace.{Namespace, Path}
use Rattle.name_space.specs.Script.{Script, users_of}
use Rattle.commit_log.specs.declared.note.Note.{Note}
use Rattle.commit_log.specs.declared.note.Note.TheVariants.{Cut}
use Rattle.commit_log.specs.declared.answer.AnswerLine.{AnswerLine}
use Rattle.commit_log.specs.Along.{Each}
use Rattle.commit_log.specs.Parts.{Where, Flagging, flag_of, is_loss_of}
use Rattle.commit_log.specs.Orderly.{Orderly}
use Rattle.commit_log.specs.Legal.{Legal, space}
use Rattle.commit_log.specs.Locks.{Sound}
use Rattle.commit_log.specs.Flags.{was_since}
use Rattle.commit_log.specs.Licensed.{Licensed}
use Rattle.commit_log.specs.Answers.{Answers}

-- an operation and the path that its cut names
abbrev pub cut_in : Note → Option (OpId × Path)
cut_in (Cut op path gone) = Some (op, path)
cut_in note = None

-- the operation removes
abbrev pub is_delete : OpKind → Bool
is_delete Delete = true
is_delete kind = false

-- the namenode of the flag's session was gone since the flag was set
abbrev pub was_lost : List Note → Flagging → Bool
was_lost notes flag = was_since is_loss_of notes flag

-- a cut has before it the flag of its operation, which removes at the cut's path and whose namenode is gone since
abbrev pub ExplainedAt : List Note → Note → Type 0
ExplainedAt before note = Where (λ (c : OpId × Path). IsSomeAnd (flag_of before c.0) (λ flag.
    (is_delete flag.kind ≡ true) × (flag.path ≡ c.1) × (was_lost before flag ≡ true))) (cut_in note)

-- every cut is explained
abbrev pub CutsExplained : List Note → Type 0
CutsExplained notes = Each ExplainedAt notes

-- everything that a report tells holds together
pub record Told (script : Script) (notes : List Note) (lines : List AnswerLine) (shown : Namespace) : Type 0 where
  pub orderly : Orderly script notes
  pub legal : Legal (users_of script) notes
  pub sound : Sound notes
  pub answers : Answers script notes lines
  pub licensed : Licensed notes
  pub explained : CutsExplained notes
  pub tree : shown ≡ space (users_of script) notes
