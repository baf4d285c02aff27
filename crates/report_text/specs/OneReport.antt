-- What a text tells of a report: all but how much room its lists have. This project's own.
use Rattle.std.specs.Prelude.{◌≡◌, ℕ, ◌^◌, Bool, true, false, ◌&&◌, nat_lt, List, [], ◌∷◌, ◌++◌, map}
use Rattle.std.specs.List.{list_all}
use Rattle.hops_base.specs.Name.{is_name}
use Rattle.name_space.specs.Call.{paths_of}
use Rattle.name_space.specs.Calls.{as_read}
use Rattle.name_space.specs.Script.{IsScript}
use Rattle.name_space.specs.declared.entry.Entry.{Entry}
use Rattle.name_space.specs.declared.reply.Exception.{Exception}
use Rattle.name_space.specs.declared.reply.Exception.TheVariants.{FileNotFound, FileAlreadyExists, ParentNotDirectory, PathIsNotEmptyDirectory, AlreadyBeingCreated, LeaseExpired, NSQuotaExceeded, DSQuotaExceeded, IO}
use Rattle.name_space.specs.declared.reply.Reply.{Reply}
use Rattle.name_space.specs.declared.reply.Reply.TheVariants.{Truth, Status, Entries, Used, Refused}
use Rattle.commit_log.specs.declared.answer.AnswerLine.{AnswerLine}
use Rattle.commit_log.specs.declared.answer.CallEnd.{CallEnd}
use Rattle.commit_log.specs.declared.answer.CallEnd.TheVariants.{Done, Again, NoNamenode}
use Rattle.commit_log.specs.declared.note.Work.{Work}
use Rattle.commit_log.specs.declared.note.Work.TheVariants.{Flag, Batch, Reclaim}
use Rattle.commit_log.specs.declared.note.Note.{Note}
use Rattle.commit_log.specs.declared.note.Note.TheVariants.{Open, Took, Gave, Wrote, Did, Cut, Met, Gone}
use Rattle.serde_json.specs.Data.{unsigned, negative, float, Data, null, boolean, number, string, array, object, Items, no_items, item, Members, no_members, member}
use Rattle.report_text.specs.IsReport.{Report}
use Rattle.report_text.specs.Report.{report_data, report_text}

-- the values of the lines of a report
abbrev pub report_values : Report → List Data
report_values report = report_data report.script report.notes report.answers report.tree

-- the bytes of a report
abbrev pub report_bytes : Report → List ℕ
report_bytes report = report_text report.script report.notes report.answers report.tree

-- ---- a report as it reads

-- a note as it reads: how much room a listing, or the list of what a cut removed, has for more is no part of it
abbrev pub note_as_read : Note → Note
note_as_read (Open session client call node) = Open session client call node
note_as_read (Took session key mode) = Took session key mode
note_as_read (Gave session) = Gave session
note_as_read (Wrote session work) = Wrote session work
note_as_read (Did session client place call reads reply) = Did session client place call reads (as_read reply)
note_as_read (Cut op path gone) = Cut op path (record { items = gone.items; room = 0 })
note_as_read (Met session cause) = Met session cause
note_as_read (Gone node ended) = Gone node ended

-- an end of a call as it reads: with its reply as that reads
abbrev pub end_as_read : CallEnd → CallEnd
end_as_read (Done note reply) = Done note (as_read reply)
end_as_read (Again note) = Again note
end_as_read (NoNamenode note) = NoNamenode note

-- an answer as it reads: with its end as that reads
abbrev pub answer_as_read : AnswerLine → AnswerLine
answer_as_read answer = record answer { end = end_as_read answer.end }

-- a report as it reads: with its notes and its answers as these read
abbrev pub report_as_read : Report → Report
report_as_read report = record report { notes = map note_as_read report.notes; answers = map answer_as_read report.answers }

-- ---- reports that consist of names

-- the paths that a refusal names
abbrev pub paths_in_exception : Exception → List (List (List ℕ))
paths_in_exception FileNotFound = []
paths_in_exception FileAlreadyExists = []
paths_in_exception ParentNotDirectory = []
paths_in_exception PathIsNotEmptyDirectory = []
paths_in_exception (AlreadyBeingCreated writer) = []
paths_in_exception LeaseExpired = []
paths_in_exception (NSQuotaExceeded path used limit) = path ∷ []
paths_in_exception (DSQuotaExceeded path used limit) = path ∷ []
paths_in_exception (IO why) = []

-- the paths that a reply names
abbrev pub paths_in_reply : Reply → List (List (List ℕ))
paths_in_reply (Truth truth) = []
paths_in_reply (Status status) = []
paths_in_reply (Entries children) = []
paths_in_reply (Used names bytes max_names max_bytes) = []
paths_in_reply (Refused exception) = paths_in_exception exception

-- the paths that a step of a subtree operation names
abbrev pub paths_in_work : Work → List (List (List ℕ))
paths_in_work (Flag op kind path) = path ∷ []
paths_in_work (Batch op) = []
paths_in_work (Reclaim op) = []

-- the paths that a note names
abbrev pub paths_in_note : Note → List (List (List ℕ))
paths_in_note (Open session client call node) = []
paths_in_note (Took session key mode) = []
paths_in_note (Gave session) = []
paths_in_note (Wrote session work) = paths_in_work work
paths_in_note (Did session client place call reads reply) = paths_of call ++ paths_in_reply reply
paths_in_note (Cut op path gone) = path ∷ gone.items
paths_in_note (Met session cause) = []
paths_in_note (Gone node ended) = []

-- the paths that the end of a call names
abbrev pub paths_in_end : CallEnd → List (List (List ℕ))
paths_in_end (Done note reply) = paths_in_reply reply
paths_in_end (Again note) = []
paths_in_end (NoNamenode note) = []

-- each of the paths consists of names
abbrev pub are_of_names : List (List (List ℕ)) → Bool
are_of_names paths = list_all (λ (path : List (List ℕ)). list_all is_name path) paths

-- each path that the note names consists of names
abbrev pub note_of_names : Note → Bool
note_of_names note = are_of_names (paths_in_note note)

-- each path that the end of the answer names consists of names
abbrev pub answer_of_names : AnswerLine → Bool
answer_of_names answer = are_of_names (paths_in_end answer.end)

-- the script is within its ranges, and each path that the report names, or has an entry for, consists of names
pub record ConsistsOfNames (report : Report) : Type 0 where
  pub script : IsScript report.script
  pub notes : list_all note_of_names report.notes ≡ true
  pub answers : list_all answer_of_names report.answers ≡ true
  pub tree : are_of_names (map (λ (place : List (List ℕ) × Entry). place.0) report.tree) ≡ true

-- ---- numbers

abbrev mutual
  -- each number in the value is a whole one below 2^64
  pub has_words : Data → Bool
  has_words null = true
  has_words (boolean truth) = true
  has_words (number (unsigned n)) = nat_lt n (2 ^ 64)
  has_words (number (negative n)) = false
  has_words (number (float x)) = false
  has_words (string text) = true
  has_words (array values) = items_have_words values
  has_words (object members) = members_have_words members

  -- each number in the values of an array is a whole one below 2^64
  pub items_have_words : Items → Bool
  items_have_words no_items = true
  items_have_words (item value rest) = has_words value && items_have_words rest

  -- each number in the values of an object is a whole one below 2^64
  pub members_have_words : Members → Bool
  members_have_words no_members = true
  members_have_words (member key value rest) = has_words value && members_have_words rest
