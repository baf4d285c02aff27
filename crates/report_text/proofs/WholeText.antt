-- The text of a report, part by part.
use Rattle.std.proofs.Common.{◌≡◌, ℕ, List, [], ◌∷◌, ◌++◌, length, map, flat_map, append-nil, append_assoc}
use Rattle.std.proofs.lemmas.List.Concat.{flat_map-append}
use Rattle.name_space.specs.Script.{Script}
use Rattle.name_space.specs.declared.entry.Entry.{Entry}
use Rattle.commit_log.specs.declared.answer.AnswerLine.{AnswerLine}
use Rattle.commit_log.specs.declared.note.Note.{Note}
use Rattle.report_text.specs.Answers.{answer_data}
use Rattle.report_text.specs.Entries.{place_data}
use Rattle.report_text.specs.Report.{line_of, head_data, notes_data, counts_data, report_text}

module _ {D : Type 0} (line : D → List ℕ) (head last : D) (notes answers places : List D) where
  pub in_parts : flat_map line ((head ∷ notes) ++ (answers ++ (places ++ last ∷ [])))
      ≡ line head ++ flat_map line notes ++ flat_map line answers ++ flat_map line places ++ line last
  in_parts = simp (flat_map-append, append-nil, append_assoc)

pub report-in_parts : (script : Script) (notes : List Note) (answers : List AnswerLine) (tree : List (List (List ℕ) × Entry))
    → report_text script notes answers tree
    ≡ line_of (head_data script) ++ flat_map line_of (notes_data 0 notes) ++ flat_map line_of (map answer_data answers) ++ flat_map line_of (map place_data tree) ++ line_of (counts_data (length notes) (length answers) (length tree))
report-in_parts script notes answers tree = in_parts line_of (head_data script) (counts_data (length notes) (length answers) (length tree)) (notes_data 0 notes) (map answer_data answers) (map place_data tree)

-- a text that grew by five parts
pub of_parts : (t u v w x y head notes answers places last : List ℕ)
    → t ≡ [] → u ≡ t ++ head → v ≡ u ++ notes → w ≡ v ++ answers → x ≡ w ++ places → y ≡ x ++ last
    → y ≡ head ++ notes ++ answers ++ places ++ last
of_parts t u v w x y head notes answers places last a b c d e f = cc
