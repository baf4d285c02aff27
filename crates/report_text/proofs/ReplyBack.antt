-- Replies and entries whose paths consist of names are read back from their values.
use Rattle.std.proofs.Common.{◌≡◌, ℕ, true, if◌then◌else◌, [], ◌∷◌, map, Option, Some, None, is_some, option_map, refl, ap}
use Rattle.hops_base.specs.declared.ids.ClientNo.{ClientNo}
use Rattle.name_space.specs.Plain.{listing}
use Rattle.name_space.specs.Calls.{as_read}
use Rattle.name_space.specs.declared.entry.Entry.{Entry}
use Rattle.name_space.specs.declared.entry.Entry.TheVariants as entry
use Rattle.name_space.specs.declared.entry.FileStatus.{FileStatus}
use Rattle.name_space.specs.declared.entry.FileStatus.TheVariants as status
use Rattle.name_space.specs.declared.entry.Listed.{Listed}
use Rattle.name_space.specs.declared.reply.Why.{Why}
use Rattle.name_space.specs.declared.reply.Why.TheVariants as why
use Rattle.name_space.specs.declared.reply.Exception.{Exception}
use Rattle.name_space.specs.declared.reply.Exception.TheVariants as exception
use Rattle.name_space.specs.declared.reply.Reply.{Reply}
use Rattle.name_space.specs.declared.reply.Reply.TheVariants as reply
use Rattle.serde_json.specs.Data.{Data}
use Rattle.serde_json.specs.Find.{as_bool}
use Rattle.script_text.specs.Json.{values_in, as_whole, text_in, number_in, truth_in}
use Rattle.report_text.specs.Entries.{entry_data}
use Rattle.report_text.specs.OneReport.{are_of_names, paths_in_reply}
use Rattle.report_text.specs.Replies.{listed_data, why_data, reply_data}
use Rattle.report_text.proofs.Decoding.{field_at, has_field, path_said, under, optional_back, row_back, path_back}

-- the status that a value says
abbrev status_in : Data → FileStatus
status_in value =
    under (status.Dir (number_in (field_at "mode" value)) (text_in (field_at "owner" value))) (field_at "kind" value) (
    ("file", status.File (number_in (field_at "len" value)) (number_in (field_at "mode" value)) (text_in (field_at "owner" value))) ∷ []
    )

-- the child that a value says
abbrev listed_in : Data → Listed
listed_in value = record { name = text_in (field_at "name" value); status = status_in value }

listed_back : (listed : Listed) → listed_in (listed_data listed) ≡ listed
listed_back listed = elim listed.status as (λ s. listed_in (listed_data (record { name = listed.name; status = s })) ≡ record { name = listed.name; status = s }) [ status.Dir mode owner ↦ refl | status.File len mode owner ↦ refl ]

-- the cause that a value says
abbrev why_in : Data → Why
why_in value = under why.NoQuota value (("Descendant", why.Descendant) ∷ ("BadParent", why.BadParent) ∷ ("RootFixed", why.RootFixed) ∷ ("NotDirectory", why.NotDirectory) ∷ [])

why_back : (w : Why) → why_in (why_data w) ≡ w
why_back why.Descendant = refl
why_back why.BadParent = refl
why_back why.RootFixed = refl
why_back why.NotDirectory = refl
why_back why.NoQuota = refl

-- the refusal that a value says
abbrev exception_in : Data → Exception
exception_in value =
    under (exception.IO (why_in (field_at "why" value))) (field_at "refused" value) (
    ("FileNotFound", exception.FileNotFound)
    ∷ ("FileAlreadyExists", exception.FileAlreadyExists)
    ∷ ("ParentNotDirectory", exception.ParentNotDirectory)
    ∷ ("PathIsNotEmptyDirectory", exception.PathIsNotEmptyDirectory)
    ∷ ("AlreadyBeingCreated", exception.AlreadyBeingCreated (record { 0 = number_in (field_at "writer" value) }))
    ∷ ("LeaseExpired", exception.LeaseExpired)
    ∷ ("NSQuotaExceeded", exception.NSQuotaExceeded (path_said (field_at "at" value)) (number_in (field_at "used" value)) (number_in (field_at "limit" value)))
    ∷ ("DSQuotaExceeded", exception.DSQuotaExceeded (path_said (field_at "at" value)) (number_in (field_at "used" value)) (number_in (field_at "limit" value)))
    ∷ []
    )

-- the reply that a value says
abbrev pub reply_said : Data → Reply
reply_said value =
    if is_some (as_bool value) then reply.Truth (truth_in value)
    else if has_field "refused" value then reply.Refused (exception_in value)
    else if has_field "entries" value then listing (map listed_in (values_in (field_at "entries" value)))
    else if has_field "kind" value then reply.Status (status_in value)
    else reply.Used (number_in (field_at "names" value)) (number_in (field_at "bytes" value)) (as_whole (field_at "max_names" value)) (as_whole (field_at "max_bytes" value))

pub reply_back : (r : Reply) → are_of_names (paths_in_reply r) ≡ true → reply_said (reply_data r) ≡ as_read r
reply_back (reply.Truth truth) named = refl
reply_back (reply.Status (status.Dir mode owner)) named = refl
reply_back (reply.Status (status.File len mode owner)) named = refl
reply_back (reply.Entries children) named = ap listing (row_back listed_data listed_in listed_back children.items)
reply_back (reply.Used names bytes max_names max_bytes) named = λ i. reply.Used names bytes (optional_back max_names i) (optional_back max_bytes i)
reply_back (reply.Refused exception.FileNotFound) named = refl
reply_back (reply.Refused exception.FileAlreadyExists) named = refl
reply_back (reply.Refused exception.ParentNotDirectory) named = refl
reply_back (reply.Refused exception.PathIsNotEmptyDirectory) named = refl
reply_back (reply.Refused (exception.AlreadyBeingCreated writer)) named = refl
reply_back (reply.Refused exception.LeaseExpired) named = refl
reply_back (reply.Refused (exception.NSQuotaExceeded path used limit)) named = ap (λ p. reply.Refused (exception.NSQuotaExceeded p used limit)) (path_back path [] named)
reply_back (reply.Refused (exception.DSQuotaExceeded path used limit)) named = ap (λ p. reply.Refused (exception.DSQuotaExceeded p used limit)) (path_back path [] named)
reply_back (reply.Refused (exception.IO w)) named = ap (λ v. reply.Refused (exception.IO v)) (why_back w)

-- the writer that a value says, where there is one
abbrev writer_in : Data → Option ClientNo
writer_in value = option_map (λ (n : ℕ). record { 0 = n }) (as_whole value)

-- the entry that a value says
abbrev pub entry_in : Data → Entry
entry_in value =
    under (entry.Dir (number_in (field_at "mode" value)) (text_in (field_at "owner" value)) (as_whole (field_at "max_names" value)) (as_whole (field_at "max_bytes" value))) (field_at "kind" value) (
    ("file", entry.File (number_in (field_at "len" value)) (writer_in (field_at "writer" value)) (number_in (field_at "mode" value)) (text_in (field_at "owner" value))) ∷ []
    )

pub entry_back : (e : Entry) → entry_in (entry_data e) ≡ e
entry_back (entry.Dir mode owner max_names max_bytes) = λ i. entry.Dir mode owner (optional_back max_names i) (optional_back max_bytes i)
entry_back (entry.File len None mode owner) = refl
entry_back (entry.File len (Some writer) mode owner) = refl
