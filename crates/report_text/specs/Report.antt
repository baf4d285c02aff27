-- The text of a report: a line of JSON for the script, each note, each answer, each path and the counts. This project's own.
use Rattle.std.specs.Prelude.{ℕ, List, [], ◌∷◌, ◌++◌, map, length, flat_map}
use Rattle.std.specs.List.{enumerate_from}
use Rattle.name_space.specs.Script.{Script}
use Rattle.name_space.specs.declared.entry.Entry.{Entry}
use Rattle.commit_log.specs.declared.answer.AnswerLine.{AnswerLine}
use Rattle.commit_log.specs.declared.note.Note.{Note}
use Rattle.serde_json.specs.Data.{Data}
use Rattle.serde_json.specs.Written.{compact_text}
use Rattle.script_text.specs.Json.{whole, word, row, fields}
use Rattle.script_text.specs.Form.{script_data}
use Rattle.report_text.specs.Notes.{note_data}
use Rattle.report_text.specs.Answers.{answer_data}
use Rattle.report_text.specs.Entries.{place_data}

-- the value of the first line: an object of the number of this form of reports, which is 1, and the script
abbrev pub head_data : Script → Data
head_data script = fields (("report", whole 1) ∷ ("script", script_data script) ∷ [])

-- the values of the lines of notes, which are numbered from this number on
abbrev pub notes_data : ℕ → List Note → List Data
notes_data number notes = map (λ (p : ℕ × Note). note_data p.0 p.1) (enumerate_from number notes)

-- the value of the last line: an array of the word `end`, and how many notes, answers and paths there are
abbrev pub counts_data : ℕ → ℕ → ℕ → Data
counts_data notes answers places = row (word "end" ∷ whole notes ∷ whole answers ∷ whole places ∷ [])

-- the values of the lines of a report: its head, its notes from number 0, its answers, its paths, and the counts of these
abbrev pub report_data : Script → List Note → List AnswerLine → List (List (List ℕ) × Entry) → List Data
report_data script notes answers tree =
    (head_data script ∷ notes_data 0 notes)
    ++ (map answer_data answers ++ (map place_data tree ++ counts_data (length notes) (length answers) (length tree) ∷ []))

-- the line of a value: its compact text and a newline
abbrev pub line_of : Data → List ℕ
line_of value = compact_text value ++ 10 ∷ []

-- the text of a report of a script, a book's notes, answers and a namespace in path order: its lines, one after another
abbrev pub report_text : Script → List Note → List AnswerLine → List (List (List ℕ) × Entry) → List ℕ
report_text script notes answers tree = flat_map line_of (report_data script notes answers tree)
