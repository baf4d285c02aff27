-- What calls are answered, as reports have it. This project's own.
use Rattle.std.specs.Prelude.{ℕ, List, [], ◌∷◌, map}
use Prim.Native.String.{String}
use Rattle.name_space.specs.declared.entry.FileStatus.{FileStatus}
use Rattle.name_space.specs.declared.entry.FileStatus.TheVariants.{Dir, File}
use Rattle.name_space.specs.declared.entry.Listed.{Listed}
use Rattle.name_space.specs.declared.reply.Why.{Why}
use Rattle.name_space.specs.declared.reply.Why.TheVariants.{Descendant, BadParent, RootFixed, NotDirectory, NoQuota}
use Rattle.name_space.specs.declared.reply.Exception.{Exception}
use Rattle.name_space.specs.declared.reply.Exception.TheVariants.{FileNotFound, FileAlreadyExists, ParentNotDirectory, PathIsNotEmptyDirectory, AlreadyBeingCreated, LeaseExpired, NSQuotaExceeded, DSQuotaExceeded, IO}
use Rattle.name_space.specs.declared.reply.Reply.{Reply}
use Rattle.name_space.specs.declared.reply.Reply.TheVariants.{Truth, Status, Entries, Used, Refused}
use Rattle.serde_json.specs.Data.{Data, boolean, string}
use Rattle.script_text.specs.Json.{whole, optional, word, row, fields}
use Rattle.script_text.specs.Form.{path_data}

-- the value of a status: an object of the kind, the mode and the owner, and of a file the length
abbrev pub status_data : FileStatus → Data
status_data (Dir mode owner) = fields (("kind", word "dir") ∷ ("mode", whole mode) ∷ ("owner", string owner) ∷ [])
status_data (File len mode owner) = fields (("kind", word "file") ∷ ("len", whole len) ∷ ("mode", whole mode) ∷ ("owner", string owner) ∷ [])

-- the value of a child of this name and this status: an object of the name and of all that the status has
abbrev pub named_data : List ℕ → FileStatus → Data
named_data name (Dir mode owner) = fields (("kind", word "dir") ∷ ("mode", whole mode) ∷ ("name", string name) ∷ ("owner", string owner) ∷ [])
named_data name (File len mode owner) = fields (("kind", word "file") ∷ ("len", whole len) ∷ ("mode", whole mode) ∷ ("name", string name) ∷ ("owner", string owner) ∷ [])

-- the value of a child in a listing: that of its name and its status
abbrev pub listed_data : Listed → Data
listed_data listed = named_data listed.name listed.status

-- the value of a cause that has no exception of its own: its name
abbrev pub why_data : Why → Data
why_data Descendant = word "Descendant"
why_data BadParent = word "BadParent"
why_data RootFixed = word "RootFixed"
why_data NotDirectory = word "NotDirectory"
why_data NoQuota = word "NoQuota"

-- the value of a refusal that tells its name alone
abbrev pub refused_data : String → Data
refused_data name = fields (("refused", word name) ∷ [])

-- the value of a refusal of this name by a quota: the path that has the quota, the limit, and what is used
abbrev pub exceeded_data : String → List (List ℕ) → ℕ → ℕ → Data
exceeded_data name path used limit = fields (("at", path_data path) ∷ ("limit", whole limit) ∷ ("refused", word name) ∷ ("used", whole used) ∷ [])

-- the value of a refusal: an object of its name, and of the writer, the quota or the cause where it has one
abbrev pub exception_data : Exception → Data
exception_data FileNotFound = refused_data "FileNotFound"
exception_data FileAlreadyExists = refused_data "FileAlreadyExists"
exception_data ParentNotDirectory = refused_data "ParentNotDirectory"
exception_data PathIsNotEmptyDirectory = refused_data "PathIsNotEmptyDirectory"
exception_data (AlreadyBeingCreated writer) = fields (("refused", word "AlreadyBeingCreated") ∷ ("writer", whole writer.0) ∷ [])
exception_data LeaseExpired = refused_data "LeaseExpired"
exception_data (NSQuotaExceeded path used limit) = exceeded_data "NSQuotaExceeded" path used limit
exception_data (DSQuotaExceeded path used limit) = exceeded_data "DSQuotaExceeded" path used limit
exception_data (IO why) = fields (("refused", word "IO") ∷ ("why", why_data why) ∷ [])

-- the value of a reply: a truth value, or an object of the status, the listing, what is used, or the refusal
abbrev pub reply_data : Reply → Data
reply_data (Truth truth) = boolean truth
reply_data (Status status) = status_data status
reply_data (Entries children) = fields (("entries", row (map listed_data children.items)) ∷ [])
reply_data (Used names bytes max_names max_bytes) = fields (("bytes", whole bytes) ∷ ("max_bytes", optional max_bytes) ∷ ("max_names", optional max_names) ∷ ("names", whole names) ∷ [])
reply_data (Refused exception) = exception_data exception
