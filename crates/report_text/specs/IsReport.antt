-- What a report has. This project's own.
use Rattle.std.specs.Prelude.{◌≡◌, ℕ, true, List, [], map, slice_get, Some, option_map}
use Rattle.std.specs.FinMap.Entries as entries
use Rattle.hops_base.specs.Path.{path_cmp}
use Rattle.name_space.specs.Script.{Script}
use Rattle.name_space.specs.declared.entry.Entry.{Entry}
pub use Rattle.commit_log.specs.Answers.{call_answered}
use Rattle.commit_log.specs.Answers.{calls_in}
use Rattle.commit_log.specs.declared.answer.AnswerLine.{AnswerLine}
use Rattle.commit_log.specs.declared.note.Note.{Note}

-- a report: a script, the notes of its run, what was answered to its calls, and the last namespace in path order
pub record Report : Type 0 where
  pub script : Script
  pub notes : List Note
  pub answers : List AnswerLine
  pub tree : List (List (List ℕ) × Entry)

-- the parts of a report fit together: each call of the script has one answer, by client and call, and the paths of the tree rise from the root
pub record IsReport (report : Report) : Type 0 where
  pub answers : map call_answered report.answers ≡ calls_in report.script
  pub rises : entries.is_sorted path_cmp report.tree ≡ true
  pub root : option_map (λ (place : List (List ℕ) × Entry). place.0) (slice_get report.tree 0) ≡ Some []
