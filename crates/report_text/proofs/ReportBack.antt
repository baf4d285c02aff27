-- A report that consists of names is told by the values of its lines, and by its bytes.
use Rattle.std.proofs.Common.{◌≡◌, ℕ, suc, ◌+◌, true, List, [], ◌∷◌, ◌++◌, length, map, take, drop, refl, sym, ap, ◌∙◌, arith}
use Rattle.std.specs.List.{list_all}
use Rattle.std.proofs.lemmas.Bool.{and_parts}
use Rattle.std.proofs.lemmas.List.{length-map}
use Rattle.hops_base.specs.Name.{is_name}
use Rattle.name_space.specs.declared.entry.Entry.{Entry}
use Rattle.commit_log.specs.declared.note.Note.{Note}
use Rattle.serde_json.specs.Data.{Data}
use Rattle.script_text.specs.Json.{number_in}
use Rattle.report_text.specs.Answers.{answer_data}
use Rattle.report_text.specs.Entries.{place_data}
use Rattle.report_text.specs.IsReport.{Report}
use Rattle.report_text.specs.OneReport.{report_values, report_bytes, report_as_read, are_of_names, ConsistsOfNames, has_words}
use Rattle.report_text.specs.Report.{head_data, notes_data, counts_data}
use Rattle.report_text.proofs.Decoding.{value_placed, field_at, path_said, path_back}
use Rattle.report_text.proofs.NoteBack.{notes_in, notes_back, answers_in, answers_back}
use Rattle.report_text.proofs.OneText.{one_of_lines}
use Rattle.report_text.proofs.ReplyBack.{entry_in, entry_back}
use Rattle.report_text.proofs.ScriptBack.{script_in, script_back}

-- the path and the entry that a value says
abbrev place_in : Data → List (List ℕ) × Entry
place_in value = (path_said (value_placed 1 value), entry_in (value_placed 2 value))

places_back : (tree : List (List (List ℕ) × Entry)) → are_of_names (map (λ (place : List (List ℕ) × Entry). place.0) tree) ≡ true → map place_in (map place_data tree) ≡ tree
places_back [] named = refl
places_back (place ∷ tree) named =
    let paths = map (λ (place : List (List ℕ) × Entry). place.0) tree in
    let path = path_back place.0 paths named in
    let entry = entry_back place.1 in
    let rest = places_back tree (and_parts (list_all is_name place.0) (are_of_names paths) named).1 in
    λ i. (path i, entry i) ∷ rest i

-- ---- where the lines of each kind end

-- the last of values
abbrev last_of : Data → List Data → Data
last_of value [] = value
last_of value (next ∷ rest) = last_of next rest

last_behind : (last : Data) (ys : List Data) → ((value : Data) → last_of value ys ≡ last) → (xs : List Data) (value : Data) → last_of value (xs ++ ys) ≡ last
last_behind last ys ends [] value = ends value
last_behind last ys ends (x ∷ xs) value = last_behind last ys ends xs x

-- lists of one length, and what stands behind them
split : (xs ys us vs : List Data) → length xs ≡ length us → xs ++ ys ≡ us ++ vs → (xs ≡ us) × (ys ≡ vs)
split [] ys [] vs count same = (refl, same)
split [] ys (u ∷ us) vs count same = absurd (omega arith)
split (x ∷ xs) ys [] vs count same = absurd (omega arith)
split (x ∷ xs) ys (u ∷ us) vs count same =
    let first : x ≡ u = cc in
    let behind : xs ++ ys ≡ us ++ vs = cc in
    let rest = split xs ys us vs (omega arith) behind in
    ((λ i. first i ∷ rest.0 i), rest.1)

length-notes : (n : ℕ) (notes : List Note) → length (notes_data n notes) ≡ length notes
length-notes n [] = refl
length-notes n (note ∷ notes) = ap suc (length-notes (n + 1) notes)

-- the parts of the values of a report
module _ (p : Report) where
  abbrev pub noted : List Data
  noted = notes_data 0 p.notes

  abbrev pub answered : List Data
  answered = map answer_data p.answers

  abbrev pub placed : List Data
  placed = map place_data p.tree

  abbrev pub counted : Data
  counted = counts_data (length p.notes) (length p.answers) (length p.tree)

  pub ends : last_of (head_data p.script) (noted ++ (answered ++ (placed ++ counted ∷ []))) ≡ counted
  ends = last_behind counted (answered ++ (placed ++ counted ∷ [])) (last_behind counted (placed ++ counted ∷ []) (last_behind counted (counted ∷ []) (λ value. refl) placed) answered) noted (head_data p.script)

-- the values of two reports of which the lines have the same values are the same, part by part
record AreParted (p q : Report) : Type 0 where
  script : head_data p.script ≡ head_data q.script
  notes : noted p ≡ noted q
  answers : answered p ≡ answered q
  tree : placed p ≡ placed q

parted : (p q : Report) → report_values p ≡ report_values q → AreParted p q
parted p q same =
    let last : counted p ≡ counted q = sym (ends p) ∙ ap (λ values. last_of (head_data p.script) values) behind ∙ ends_of_q in
    let notes = split (noted p) _ (noted q) _ (length-notes 0 p.notes ∙ ap (λ v. number_in (value_placed 1 v)) last ∙ sym (length-notes 0 q.notes)) behind in
    let answers = split (answered p) _ (answered q) _ (length-map p.answers answer_data ∙ ap (λ v. number_in (value_placed 2 v)) last ∙ sym (length-map q.answers answer_data)) notes.1 in
    let tree = split (placed p) _ (placed q) _ (length-map p.tree place_data ∙ ap (λ v. number_in (value_placed 3 v)) last ∙ sym (length-map q.tree place_data)) answers.1 in
    record { script = head; notes = notes.0; answers = answers.0; tree = tree.0 }
  where
    head : head_data p.script ≡ head_data q.script
    head = ap (λ (values : List Data). last_of (head_data p.script) (take 1 values)) same

    behind : noted p ++ (answered p ++ (placed p ++ counted p ∷ [])) ≡ noted q ++ (answered q ++ (placed q ++ counted q ∷ []))
    behind = ap (λ (values : List Data). drop 1 values) same

    ends_of_q : last_of (head_data p.script) (noted q ++ (answered q ++ (placed q ++ counted q ∷ []))) ≡ counted q
    ends_of_q = ap (λ value. last_of value (noted q ++ (answered q ++ (placed q ++ counted q ∷ [])))) head ∙ ends q

-- ---- reports

-- reports of which the lines have the same values are one, as they read
pub one_of_values : (p q : Report) → ConsistsOfNames p → ConsistsOfNames q → report_values p ≡ report_values q → report_as_read p ≡ report_as_read q
one_of_values p q a b same =
    let parts = parted p q same in
    let script = sym (script_back p.script a.script) ∙ ap (λ value. script_in (field_at "script" value)) parts.script ∙ script_back q.script b.script in
    let notes = sym (notes_back 0 p.notes a.notes) ∙ ap notes_in parts.notes ∙ notes_back 0 q.notes b.notes in
    let answers = sym (answers_back p.answers a.answers) ∙ ap answers_in parts.answers ∙ answers_back q.answers b.answers in
    let tree = sym (places_back p.tree a.tree) ∙ ap (map place_in) parts.tree ∙ places_back q.tree b.tree in
    λ i. record { script = script i; notes = notes i; answers = answers i; tree = tree i }

-- reports of which the bytes are the same are one, as they read
pub one_of_bytes : (p q : Report) → ConsistsOfNames p → ConsistsOfNames q
    → list_all has_words (report_values p) ≡ true → list_all has_words (report_values q) ≡ true → report_bytes p ≡ report_bytes q → report_as_read p ≡ report_as_read q
one_of_bytes p q a b few fewer same = one_of_values p q a b (one_of_lines (report_values p) (report_values q) few fewer same)
