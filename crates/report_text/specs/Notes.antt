-- What happened, as reports have it. This project's own.
use Rattle.std.specs.Prelude.{ℕ, List, [], ◌∷◌, map}
use Rattle.name_space.specs.declared.call.OpKind.{OpKind}
use Rattle.name_space.specs.declared.call.OpKind.TheVariants as kind
use Rattle.commit_log.specs.declared.note.Work.{Work}
use Rattle.commit_log.specs.declared.note.Work.TheVariants.{Flag, Batch, Reclaim}
use Rattle.commit_log.specs.declared.note.Cause.{Cause}
use Rattle.commit_log.specs.declared.note.Cause.TheVariants.{Locked, Flagged, Changed, Lost}
use Rattle.commit_log.specs.declared.note.Ended.{Ended}
use Rattle.commit_log.specs.declared.note.Ended.TheVariants.{Stopped, Evicted}
use Rattle.commit_log.specs.declared.note.Note.{Note}
use Rattle.commit_log.specs.declared.note.Note.TheVariants.{Open, Took, Gave, Wrote, Did, Cut, Met, Gone}
use Rattle.serde_json.specs.Data.{Data}
use Rattle.script_text.specs.Json.{whole, word, row}
use Rattle.script_text.specs.Form.{path_data, call_data}
use Rattle.report_text.specs.Keys.{key_data, mode_data}
use Rattle.report_text.specs.Replies.{reply_data}

-- the value of a kind of subtree operation: its word
abbrev pub kind_data : OpKind → Data
kind_data kind.Delete = word "delete"
kind_data kind.Rename = word "rename"
kind_data kind.Quota = word "quota"

-- the value of a step of a subtree operation: an array of its word, the operation, and of a flag the kind and the path
abbrev pub work_data : Work → Data
work_data (Flag op kind path) = row (word "flag" ∷ whole op.0 ∷ kind_data kind ∷ path_data path ∷ [])
work_data (Batch op) = row (word "batch" ∷ whole op.0 ∷ [])
work_data (Reclaim op) = row (word "reclaim" ∷ whole op.0 ∷ [])

-- the value of what a session met: an array of its word and its fields
abbrev pub cause_data : Cause → Data
cause_data (Locked key mode holder) = row (word "locked" ∷ key_data key ∷ mode_data mode ∷ whole holder.0 ∷ [])
cause_data (Flagged op) = row (word "flagged" ∷ whole op.0 ∷ [])
cause_data (Changed from) = row (word "changed" ∷ whole from ∷ [])
cause_data (Lost op) = row (word "lost" ∷ whole op.0 ∷ [])

-- the value of how a namenode is gone: its word
abbrev pub ended_data : Ended → Data
ended_data Stopped = word "stopped"
ended_data Evicted = word "evicted"

-- the values of a note behind its number: its word and its fields
abbrev pub note_values : Note → List Data
note_values (Open session client call node) = word "open" ∷ whole session.0 ∷ whole client.0 ∷ whole call ∷ whole node.0 ∷ []
note_values (Took session key mode) = word "took" ∷ whole session.0 ∷ key_data key ∷ mode_data mode ∷ []
note_values (Gave session) = word "gave" ∷ whole session.0 ∷ []
note_values (Wrote session work) = word "wrote" ∷ whole session.0 ∷ work_data work ∷ []
note_values (Did session client number call reads reply) = word "did" ∷ whole session.0 ∷ whole client.0 ∷ whole number ∷ call_data call ∷ whole reads ∷ reply_data reply ∷ []
note_values (Cut op path gone) = word "cut" ∷ whole op.0 ∷ path_data path ∷ row (map path_data gone.items) ∷ []
note_values (Met session cause) = word "met" ∷ whole session.0 ∷ cause_data cause ∷ []
note_values (Gone node ended) = word "gone" ∷ whole node.0 ∷ ended_data ended ∷ []

-- the value of the line of a note: an array of its number, its word and its fields
abbrev pub note_data : ℕ → Note → Data
note_data number note = row (whole number ∷ note_values note)
