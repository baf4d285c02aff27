-- The lines of reports have no float.
use Rattle.std.proofs.Common.{◌≡◌, ℕ, false, List, Option, Some, None, refl}
use Rattle.hops_base.specs.declared.ids.ClientNo.{ClientNo}
use Rattle.hops_base.specs.declared.ids.Mode.{Mode}
use Rattle.hops_base.specs.declared.ids.Mode.TheVariants.{Shared, Exclusive}
use Rattle.hops_base.specs.declared.key.Key.{Key}
use Rattle.hops_base.specs.declared.key.Key.TheVariants as key
use Rattle.name_space.specs.Script.{Script}
use Rattle.name_space.specs.declared.call.OpKind.{OpKind}
use Rattle.name_space.specs.declared.call.OpKind.TheVariants as kind
use Rattle.name_space.specs.declared.entry.Entry.{Entry}
use Rattle.name_space.specs.declared.entry.Entry.TheVariants as entry
use Rattle.name_space.specs.declared.entry.FileStatus.{FileStatus}
use Rattle.name_space.specs.declared.entry.FileStatus.TheVariants as status
use Rattle.name_space.specs.declared.entry.Listed.{Listed}
use Rattle.name_space.specs.declared.reply.Why.{Why}
use Rattle.name_space.specs.declared.reply.Why.TheVariants as why
use Rattle.name_space.specs.declared.reply.Exception.{Exception}
use Rattle.name_space.specs.declared.reply.Exception.TheVariants as exception
use Rattle.name_space.specs.declared.reply.Reply.{Reply}
use Rattle.name_space.specs.declared.reply.Reply.TheVariants as reply
use Rattle.commit_log.specs.declared.answer.AnswerLine.{AnswerLine}
use Rattle.commit_log.specs.declared.answer.CallEnd.TheVariants.{Done, Again, NoNamenode}
use Rattle.commit_log.specs.declared.note.Work.{Work}
use Rattle.commit_log.specs.declared.note.Work.TheVariants.{Flag, Batch, Reclaim}
use Rattle.commit_log.specs.declared.note.Cause.{Cause}
use Rattle.commit_log.specs.declared.note.Cause.TheVariants.{Locked, Flagged, Changed, Lost}
use Rattle.commit_log.specs.declared.note.Ended.{Ended}
use Rattle.commit_log.specs.declared.note.Ended.TheVariants.{Stopped, Evicted}
use Rattle.commit_log.specs.declared.note.Note.{Note}
use Rattle.commit_log.specs.declared.note.Note.TheVariants.{Open, Took, Gave, Wrote, Did, Cut, Met, Gone}
use Rattle.serde_json.specs.Written.{has_float}
use Rattle.script_text.specs.Form.{path_data}
use Rattle.script_text.proofs.NoFloat.{no_float_in_map, no_float_in_optional, no_float_in_call, no_float_in_script}
use Rattle.report_text.specs.Keys.{key_data, mode_data}
use Rattle.report_text.specs.Replies.{status_data, listed_data, why_data, exception_data, reply_data}
use Rattle.report_text.specs.Notes.{kind_data, work_data, cause_data, ended_data, note_data}
use Rattle.report_text.specs.Answers.{answer_data}
use Rattle.report_text.specs.Entries.{writer_data, entry_data, place_data}
use Rattle.report_text.specs.Report.{head_data, counts_data}

no_float_in_key : (k : Key) → has_float (key_data k) ≡ false
no_float_in_key (key.Inode parent name) = refl
no_float_in_key (key.Quota id) = refl
no_float_in_key (key.Lease client id) = refl
no_float_in_key (key.Reply client) = refl
no_float_in_key (key.Ongoing op) = refl
no_float_in_key key.Gate = refl

no_float_in_mode : (m : Mode) → has_float (mode_data m) ≡ false
no_float_in_mode Shared = refl
no_float_in_mode Exclusive = refl

no_float_in_status : (s : FileStatus) → has_float (status_data s) ≡ false
no_float_in_status (status.Dir mode owner) = refl
no_float_in_status (status.File len mode owner) = refl

no_float_in_listed : (l : Listed) → has_float (listed_data l) ≡ false
no_float_in_listed l = elim l.status as (λ s. has_float (listed_data (record { name = l.name; status = s })) ≡ false) [ status.Dir mode owner ↦ refl | status.File len mode owner ↦ refl ]

no_float_in_why : (w : Why) → has_float (why_data w) ≡ false
no_float_in_why why.Descendant = refl
no_float_in_why why.BadParent = refl
no_float_in_why why.RootFixed = refl
no_float_in_why why.NotDirectory = refl
no_float_in_why why.NoQuota = refl

no_float_in_exception : (e : Exception) → has_float (exception_data e) ≡ false
no_float_in_exception exception.FileNotFound = refl
no_float_in_exception exception.FileAlreadyExists = refl
no_float_in_exception exception.ParentNotDirectory = refl
no_float_in_exception exception.PathIsNotEmptyDirectory = refl
no_float_in_exception (exception.AlreadyBeingCreated writer) = refl
no_float_in_exception exception.LeaseExpired = refl
no_float_in_exception (exception.NSQuotaExceeded path used limit) = refl
no_float_in_exception (exception.DSQuotaExceeded path used limit) = refl
no_float_in_exception (exception.IO why) = rw (no_float_in_why why) refl

pub no_float_in_reply : (r : Reply) → has_float (reply_data r) ≡ false
no_float_in_reply (reply.Truth truth) = refl
no_float_in_reply (reply.Status status) = no_float_in_status status
no_float_in_reply (reply.Entries children) = rw (no_float_in_map listed_data no_float_in_listed children.items) refl
no_float_in_reply (reply.Used names bytes max_names max_bytes) = rw (no_float_in_optional max_bytes, no_float_in_optional max_names) refl
no_float_in_reply (reply.Refused exception) = no_float_in_exception exception

no_float_in_kind : (k : OpKind) → has_float (kind_data k) ≡ false
no_float_in_kind kind.Delete = refl
no_float_in_kind kind.Rename = refl
no_float_in_kind kind.Quota = refl

no_float_in_work : (w : Work) → has_float (work_data w) ≡ false
no_float_in_work (Flag op kind path) = rw (no_float_in_kind kind) refl
no_float_in_work (Batch op) = refl
no_float_in_work (Reclaim op) = refl

no_float_in_cause : (c : Cause) → has_float (cause_data c) ≡ false
no_float_in_cause (Locked key mode holder) = rw (no_float_in_key key, no_float_in_mode mode) refl
no_float_in_cause (Flagged op) = refl
no_float_in_cause (Changed from) = refl
no_float_in_cause (Lost op) = refl

no_float_in_ended : (e : Ended) → has_float (ended_data e) ≡ false
no_float_in_ended Stopped = refl
no_float_in_ended Evicted = refl

pub no_float_in_note : (number : ℕ) (note : Note) → has_float (note_data number note) ≡ false
no_float_in_note n (Open session client call node) = refl
no_float_in_note n (Took session key mode) = rw (no_float_in_key key, no_float_in_mode mode) refl
no_float_in_note n (Gave session) = refl
no_float_in_note n (Wrote session work) = rw (no_float_in_work work) refl
no_float_in_note n (Did session client number call reads reply) = rw (no_float_in_call call, no_float_in_reply reply) refl
no_float_in_note n (Cut op path gone) = rw (no_float_in_map path_data (λ p. refl) gone.items) refl
no_float_in_note n (Met session cause) = rw (no_float_in_cause cause) refl
no_float_in_note n (Gone node ended) = rw (no_float_in_ended ended) refl

pub no_float_in_answer : (answer : AnswerLine) → has_float (answer_data answer) ≡ false
no_float_in_answer answer =
    elim answer.end as (λ end. has_float (answer_data (record { client = answer.client; call = answer.call; end = end })) ≡ false) [
      | Done note reply ↦ rw (no_float_in_reply reply) refl
      | Again note ↦ refl
      | NoNamenode note ↦ refl
    ]

no_float_in_writer : (writer : Option ClientNo) → has_float (writer_data writer) ≡ false
no_float_in_writer None = refl
no_float_in_writer (Some client) = refl

no_float_in_entry : (e : Entry) → has_float (entry_data e) ≡ false
no_float_in_entry (entry.Dir mode owner max_names max_bytes) = rw (no_float_in_optional max_bytes, no_float_in_optional max_names) refl
no_float_in_entry (entry.File len writer mode owner) = rw (no_float_in_writer writer) refl

pub no_float_in_place : (place : List (List ℕ) × Entry) → has_float (place_data place) ≡ false
no_float_in_place place = rw (no_float_in_entry place.1) refl

pub no_float_in_head : (script : Script) → has_float (head_data script) ≡ false
no_float_in_head script = rw (no_float_in_script script) refl

pub no_float_in_counts : (notes answers places : ℕ) → has_float (counts_data notes answers places) ≡ false
no_float_in_counts notes answers places = refl
