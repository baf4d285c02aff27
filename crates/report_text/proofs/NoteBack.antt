-- Notes and answers whose paths consist of names are read back from their values, as they read.
use Rattle.std.proofs.Common.{◌≡◌, ℕ, ◌+◌, true, List, [], ◌∷◌, map, refl, sym, ap, ◌∙◌}
use Rattle.std.specs.List.{list_all}
use Rattle.std.proofs.lemmas.Bool.{and_parts}
use Rattle.std.proofs.lemmas.List.Folds.{list_all-append}
use Rattle.hops_base.specs.Name.{is_name}
use Rattle.hops_base.specs.declared.ids.Mode.{Mode}
use Rattle.hops_base.specs.declared.ids.Mode.TheVariants.{Shared, Exclusive}
use Rattle.hops_base.specs.declared.key.Key.{Key}
use Rattle.hops_base.specs.declared.key.Key.TheVariants as key
use Rattle.name_space.specs.Call.{paths_of}
use Rattle.name_space.specs.declared.call.OpKind.{OpKind}
use Rattle.name_space.specs.declared.call.OpKind.TheVariants as kind
use Rattle.commit_log.specs.declared.answer.AnswerLine.{AnswerLine}
use Rattle.commit_log.specs.declared.answer.CallEnd.{CallEnd}
use Rattle.commit_log.specs.declared.answer.CallEnd.TheVariants.{Done, Again, NoNamenode}
use Rattle.commit_log.specs.declared.note.Work.{Work}
use Rattle.commit_log.specs.declared.note.Work.TheVariants.{Flag, Batch, Reclaim}
use Rattle.commit_log.specs.declared.note.Cause.{Cause}
use Rattle.commit_log.specs.declared.note.Cause.TheVariants.{Locked, Flagged, Changed, Lost}
use Rattle.commit_log.specs.declared.note.Ended.{Ended}
use Rattle.commit_log.specs.declared.note.Ended.TheVariants.{Stopped, Evicted}
use Rattle.commit_log.specs.declared.note.Note.{Note}
use Rattle.commit_log.specs.declared.note.Note.TheVariants.{Open, Took, Gave, Wrote, Did, Cut, Met, Gone}
use Rattle.serde_json.specs.Data.{Data}
use Rattle.script_text.specs.Json.{whole, word, row, values_in, text_in, number_in}
use Rattle.report_text.specs.Answers.{end_values, answer_data}
use Rattle.report_text.specs.Keys.{key_data, mode_data}
use Rattle.report_text.specs.Notes.{kind_data, work_data, cause_data, ended_data, note_data}
use Rattle.report_text.specs.OneReport.{are_of_names, paths_in_reply, paths_in_work, paths_in_end, note_of_names, answer_of_names, note_as_read, end_as_read, answer_as_read}
use Rattle.report_text.specs.Report.{notes_data}
use Rattle.report_text.proofs.Decoding.{value_placed, path_said, under, path_back, paths_back}
use Rattle.report_text.proofs.ReplyBack.{reply_said, reply_back}
use Rattle.report_text.proofs.ScriptBack.{call_in, call_back}

-- ---- the parts of notes

-- the mode that a value says
abbrev mode_in : Data → Mode
mode_in value = under Exclusive value (("S", Shared) ∷ [])

mode_back : (m : Mode) → mode_in (mode_data m) ≡ m
mode_back Shared = refl
mode_back Exclusive = refl

-- the key that a value says
abbrev key_in : Data → Key
key_in value =
    under key.Gate (value_placed 0 value) (
    ("inode", key.Inode (record { 0 = number_in (value_placed 1 value) }) (text_in (value_placed 2 value)))
    ∷ ("quota", key.Quota (record { 0 = number_in (value_placed 1 value) }))
    ∷ ("lease", key.Lease (record { 0 = number_in (value_placed 1 value) }) (record { 0 = number_in (value_placed 2 value) }))
    ∷ ("reply", key.Reply (record { 0 = number_in (value_placed 1 value) }))
    ∷ ("ongoing", key.Ongoing (record { 0 = number_in (value_placed 1 value) }))
    ∷ []
    )

key_back : (k : Key) → key_in (key_data k) ≡ k
key_back (key.Inode parent name) = refl
key_back (key.Quota id) = refl
key_back (key.Lease client id) = refl
key_back (key.Reply client) = refl
key_back (key.Ongoing op) = refl
key_back key.Gate = refl

-- the kind of operation that a value says
abbrev kind_in : Data → OpKind
kind_in value = under kind.Quota value (("delete", kind.Delete) ∷ ("rename", kind.Rename) ∷ [])

kind_back : (k : OpKind) → kind_in (kind_data k) ≡ k
kind_back kind.Delete = refl
kind_back kind.Rename = refl
kind_back kind.Quota = refl

-- the step that a value says
abbrev work_in : Data → Work
work_in value =
    under (Reclaim (record { 0 = number_in (value_placed 1 value) })) (value_placed 0 value) (
    ("flag", Flag (record { 0 = number_in (value_placed 1 value) }) (kind_in (value_placed 2 value)) (path_said (value_placed 3 value)))
    ∷ ("batch", Batch (record { 0 = number_in (value_placed 1 value) }))
    ∷ []
    )

work_back : (w : Work) → are_of_names (paths_in_work w) ≡ true → work_in (work_data w) ≡ w
work_back (Flag op k path) named = let spelled = path_back path [] named in λ i. Flag op (kind_back k i) (spelled i)
work_back (Batch op) named = refl
work_back (Reclaim op) named = refl

-- the conflict that a value says
abbrev cause_in : Data → Cause
cause_in value =
    under (Lost (record { 0 = number_in (value_placed 1 value) })) (value_placed 0 value) (
    ("locked", Locked (key_in (value_placed 1 value)) (mode_in (value_placed 2 value)) (record { 0 = number_in (value_placed 3 value) }))
    ∷ ("flagged", Flagged (record { 0 = number_in (value_placed 1 value) }))
    ∷ ("changed", Changed (number_in (value_placed 1 value)))
    ∷ []
    )

cause_back : (c : Cause) → cause_in (cause_data c) ≡ c
cause_back (Locked k mode holder) = λ i. Locked (key_back k i) (mode_back mode i) holder
cause_back (Flagged op) = refl
cause_back (Changed from) = refl
cause_back (Lost op) = refl

-- the end of a namenode that a value says
abbrev ended_in : Data → Ended
ended_in value = under Evicted value (("stopped", Stopped) ∷ [])

ended_back : (e : Ended) → ended_in (ended_data e) ≡ e
ended_back Stopped = refl
ended_back Evicted = refl

-- ---- notes

-- the note that a value says
abbrev note_in : Data → Note
note_in value =
    under (Gone (record { 0 = number_in (value_placed 2 value) }) (ended_in (value_placed 3 value))) (value_placed 1 value) (
    ("open", Open (record { 0 = number_in (value_placed 2 value) }) (record { 0 = number_in (value_placed 3 value) }) (number_in (value_placed 4 value)) (record { 0 = number_in (value_placed 5 value) }))
    ∷ ("took", Took (record { 0 = number_in (value_placed 2 value) }) (key_in (value_placed 3 value)) (mode_in (value_placed 4 value)))
    ∷ ("gave", Gave (record { 0 = number_in (value_placed 2 value) }))
    ∷ ("wrote", Wrote (record { 0 = number_in (value_placed 2 value) }) (work_in (value_placed 3 value)))
    ∷ ("did", Did (record { 0 = number_in (value_placed 2 value) }) (record { 0 = number_in (value_placed 3 value) }) (number_in (value_placed 4 value)) (call_in (value_placed 5 value)) (number_in (value_placed 6 value)) (reply_said (value_placed 7 value)))
    ∷ ("cut", Cut (record { 0 = number_in (value_placed 2 value) }) (path_said (value_placed 3 value)) (record { items = map path_said (values_in (value_placed 4 value)); room = 0 }))
    ∷ ("met", Met (record { 0 = number_in (value_placed 2 value) }) (cause_in (value_placed 3 value)))
    ∷ []
    )

note_back : (n : ℕ) (note : Note) → note_of_names note ≡ true → note_in (note_data n note) ≡ note_as_read note
note_back n (Open session client call node) named = refl
note_back n (Took session k mode) named = λ i. Took session (key_back k i) (mode_back mode i)
note_back n (Gave session) named = refl
note_back n (Wrote session work) named = ap (Wrote session) (work_back work named)
note_back n (Did session client number call reads reply) named =
    let p = and_parts (are_of_names (paths_of call)) (are_of_names (paths_in_reply reply)) (sym (list_all-append (λ path. list_all is_name path) (paths_of call) (paths_in_reply reply)) ∙ named) in
    let asked = call_back call p.0 in
    let told = reply_back reply p.1 in
    λ i. Did session client number (asked i) reads (told i)
note_back n (Cut op path gone) named =
    let first = path_back path gone.items named in
    let rest = paths_back gone.items (and_parts (list_all is_name path) (are_of_names gone.items) named).1 in
    λ i. Cut op (first i) (record { items = rest i; room = 0 })
note_back n (Met session cause) named = ap (Met session) (cause_back cause)
note_back n (Gone node ended) named = ap (Gone node) (ended_back ended)

-- the notes that values say
abbrev pub notes_in : List Data → List Note
notes_in values = map note_in values

pub notes_back : (n : ℕ) (notes : List Note) → list_all note_of_names notes ≡ true → notes_in (notes_data n notes) ≡ map note_as_read notes
notes_back n [] named = refl
notes_back n (note ∷ notes) named =
    let p = and_parts (note_of_names note) (list_all note_of_names notes) named in
    let first = note_back n note p.0 in
    let rest = notes_back (n + 1) notes p.1 in
    λ i. first i ∷ rest i

-- ---- answers

-- the end of a call that a value says
abbrev end_in : Data → CallEnd
end_in value =
    under (NoNamenode (number_in (value_placed 4 value))) (value_placed 3 value) (
    ("done", Done (number_in (value_placed 4 value)) (reply_said (value_placed 5 value)))
    ∷ ("again", Again (number_in (value_placed 4 value)))
    ∷ []
    )

end_back : (client call : Data) (end : CallEnd) → are_of_names (paths_in_end end) ≡ true → end_in (row (word "answer" ∷ client ∷ call ∷ end_values end)) ≡ end_as_read end
end_back client call (Done note reply) named = ap (Done note) (reply_back reply named)
end_back client call (Again note) named = refl
end_back client call (NoNamenode note) named = refl

-- the answer that a value says
abbrev answer_in : Data → AnswerLine
answer_in value = record { client = record { 0 = number_in (value_placed 1 value) }; call = number_in (value_placed 2 value); end = end_in value }

answer_back : (answer : AnswerLine) → answer_of_names answer ≡ true → answer_in (answer_data answer) ≡ answer_as_read answer
answer_back answer named = ap (λ (end : CallEnd). record answer { end = end }) (end_back (whole answer.client.0) (whole answer.call) answer.end named)

-- the answers that values say
abbrev pub answers_in : List Data → List AnswerLine
answers_in values = map answer_in values

pub answers_back : (answers : List AnswerLine) → list_all answer_of_names answers ≡ true → answers_in (map answer_data answers) ≡ map answer_as_read answers
answers_back [] named = refl
answers_back (answer ∷ answers) named =
    let p = and_parts (answer_of_names answer) (list_all answer_of_names answers) named in
    let first = answer_back answer p.0 in
    let rest = answers_back answers p.1 in
    λ i. first i ∷ rest i
