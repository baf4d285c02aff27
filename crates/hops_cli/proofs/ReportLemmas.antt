-- What a run leaves makes a report.
use Rattle.std.proofs.Common.{◌≡◌, ℕ, true, List, [], ◌∷◌, slice_get, Some, None, option_map, refl}
use Rattle.std.specs.FinMap.Entries as entries
use Rattle.std.specs.Cmp.{first_so, second_so}
use Rattle.hops_base.specs.Path.{path_cmp}
use Rattle.name_space.specs.Script.{Script}
use Rattle.name_space.specs.declared.entry.Entry.{Entry}
use Rattle.name_space.specs.Namespace.{Namespace, Path, entry_at, is_dir}
use Rattle.commit_log.specs.declared.note.Note.{Note}
use Rattle.commit_log.specs.declared.answer.AnswerLine.{AnswerLine}
use Rattle.report_text.specs.IsReport.{IsReport}
use Rattle.hops_cli.specs.Run.{IsRun}

-- behind a path that isn't the root's the root doesn't come
none_behind : (name : List ℕ) (names : Path) (space : Namespace) → entries.below_all path_cmp (name ∷ names) space ≡ true → entry_at space [] ≡ None
none_behind name names [] below = refl
none_behind name names (([], entry) ∷ space) below = absurd (let bad = below in cc)
none_behind name names ((n ∷ ns, entry) ∷ space) below = none_behind name names space (second_so _ _ below)

-- the root comes first
root_first : (space : Namespace) → entries.is_sorted path_cmp space ≡ true → is_dir (entry_at space []) ≡ true → option_map (λ (place : Path × Entry). place.0) (slice_get space 0) ≡ Some []
root_first [] rises root = absurd (let bad = root in cc)
root_first (([], entry) ∷ space) rises root = refl
root_first ((n ∷ ns, entry) ∷ space) rises root =
    absurd (let none : entry_at space [] ≡ None = none_behind n ns space (first_so _ _ rises) in let bad : is_dir (entry_at space []) ≡ true = root in let no = rw none at bad in cc)

-- the book, the answers and the tree of a run fit together
pub run_reports : (script : Script) (notes : List Note) (lines : List AnswerLine) (tree : Namespace) → IsRun script notes lines tree → IsReport (record { script = script; notes = notes; answers = lines; tree = tree })
run_reports script notes lines tree run = record {
  answers = run.told.answers.each;
  rises = run.names.rises;
  root = root_first tree run.names.rises run.names.root;
}
