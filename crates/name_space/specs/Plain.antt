-- The plain call: what each call answers, and the namespace after it. After the Hadoop file system specification; which
-- refusals there are, and their order, is this project's own.
use Rattle.std.specs.Prelude.{ℕ, ◌+◌, Bool, true, false, not, ◌&&◌, ◌||◌, ◌==◌, nat_lt, if◌then◌else◌, List, [], ◌∷◌, map, length, unwrap_or, option_map, Option, Some, None, is_none}
use Rattle.std.specs.List.{last_or}
use Rattle.hops_base.specs.declared.ids.ClientNo.{ClientNo}
use Rattle.name_space.specs.declared.entry.Entry.{Entry}
use Rattle.name_space.specs.declared.entry.Entry.TheVariants.{Dir, File}
use Rattle.name_space.specs.declared.entry.FileStatus.{FileStatus}
use Rattle.name_space.specs.declared.entry.FileStatus.TheVariants as status
use Rattle.name_space.specs.declared.entry.Listed.{Listed}
use Rattle.name_space.specs.declared.reply.Reply.{Reply}
use Rattle.name_space.specs.declared.reply.Reply.TheVariants.{Truth, Status, Entries, Used, Refused}
use Rattle.name_space.specs.declared.reply.Exception.{Exception}
use Rattle.name_space.specs.declared.reply.Exception.TheVariants.{FileNotFound, FileAlreadyExists, ParentNotDirectory, PathIsNotEmptyDirectory, AlreadyBeingCreated, LeaseExpired, IO}
use Rattle.name_space.specs.declared.reply.Why.TheVariants.{RootFixed, NotDirectory, NoQuota}
use Rattle.name_space.specs.Namespace.{Namespace, Path, entry_at, exists, is_dir, is_file, new_dir, with_entry, with_entries, without, children, used_names, used_bytes, above, missing, nearest}
use Rattle.name_space.specs.Quota.{first_some, over_quota}

-- what a call is answered, and the namespace after it
pub record Answered : Type 0 where
  pub reply : Reply
  pub space : Namespace

-- a call that is told this changes nothing
abbrev pub told : Reply → Namespace → Answered
told reply space = record { reply = reply; space = space }

-- a call that is refused changes nothing
abbrev pub refused : Exception → Namespace → Answered
refused exception space = told (Refused exception) space

-- a call that is granted is told that it is, and leaves this namespace
abbrev pub granted : Namespace → Answered
granted space = record { reply = Truth true; space = space }

-- this refusal, where its cause is there
abbrev pub when : Bool → Exception → Option Exception
when cause exception = if cause then Some exception else None

-- this answer, unless there is a refusal
abbrev pub unless : Option Exception → Namespace → Answered → Answered
unless None space answer = answer
unless (Some exception) space answer = refused exception space

-- ---- directories and new files

-- the namespace with a new directory of this user at each of the paths
abbrev pub with_dirs : Namespace → List ℕ → List Path → Namespace
with_dirs space user paths = with_entries space (map (λ (path : Path). (path, new_dir user)) paths)

-- `mkdirs` is refused where the path is a file, where its longest prefix that exists is a file, and by a quota, in this
-- order; else every missing prefix of the path becomes a directory
abbrev pub mkdirs : Namespace → List ℕ → Path → Answered
mkdirs space user path =
    unless (first_some (
    when (is_file (entry_at space path)) FileAlreadyExists
    ∷ when (is_file (nearest space path)) ParentNotDirectory
    ∷ over_quota space (length (missing space path)) 0 (above path)
    ∷ [])) space (granted (with_dirs space user (missing space path)))

-- the mode of a new file
abbrev pub file_mode : ℕ
file_mode = 420

-- a new file, written by this client
abbrev pub new_file : ClientNo → List ℕ → Entry
new_file client user = File 0 (Some client) file_mode user

-- `create` is refused where the path is a directory, where it is a file that isn't to be overwritten, where it is missing
-- and its longest prefix that exists is a file, and by a quota, in this order; else the path is a new file, and the missing
-- paths above it become directories
abbrev pub create : Namespace → ClientNo → List ℕ → Path → Bool → Answered
create space client user path overwrite =
    unless (first_some (
    when (is_dir (entry_at space path)) FileAlreadyExists
    ∷ when (is_file (entry_at space path) && not overwrite) FileAlreadyExists
    ∷ when (not (exists space path) && is_file (nearest space path)) ParentNotDirectory
    ∷ over_quota space (length (missing space path)) 0 (above path)
    ∷ [])) space (granted (with_entry (with_dirs space user (missing space path)) path (new_file client user)))

-- ---- files and their writers

-- `append` is refused where the path is missing, where it is a directory, and where the file has a writer, be it the client
-- itself; else the client is the file's writer
abbrev pub append_at : Namespace → ClientNo → Path → Option Entry → Answered
append_at space client path None = refused FileNotFound space
append_at space client path (Some (Dir mode owner max_names max_bytes)) = refused FileAlreadyExists space
append_at space client path (Some (File len (Some writer) mode owner)) = refused (AlreadyBeingCreated writer) space
append_at space client path (Some (File len None mode owner)) = granted (with_entry space path (File len (Some client) mode owner))

-- this client is the file's writer
abbrev pub is_writer : ClientNo → Option ClientNo → Bool
is_writer client None = false
is_writer client (Some writer) = client.0 == writer.0

-- `grow` is refused where the path is missing, where it is a directory, where the client isn't the file's writer, and by a
-- quota, in this order; else the file is that much longer
abbrev pub grow_at : Namespace → ClientNo → Path → ℕ → Option Entry → Answered
grow_at space client path bytes None = refused FileNotFound space
grow_at space client path bytes (Some (Dir mode owner max_names max_bytes)) = refused FileAlreadyExists space
grow_at space client path bytes (Some (File len writer mode owner)) =
    unless (first_some (
    when (not (is_writer client writer)) LeaseExpired
    ∷ over_quota space 0 bytes (above path)
    ∷ [])) space (granted (with_entry space path (File (len + bytes) writer mode owner)))

-- `close` is refused where the path is missing, where it is a directory, and where the client isn't the file's writer; else
-- the file has no writer
abbrev pub close_at : Namespace → ClientNo → Path → Option Entry → Answered
close_at space client path None = refused FileNotFound space
close_at space client path (Some (Dir mode owner max_names max_bytes)) = refused FileAlreadyExists space
close_at space client path (Some (File len writer mode owner)) =
    unless (when (not (is_writer client writer)) LeaseExpired) space (granted (with_entry space path (File len None mode owner)))

-- ---- looking

-- the status of an entry, which `stat` and `list` tell
abbrev pub status_of : Entry → FileStatus
status_of (Dir mode owner max_names max_bytes) = status.Dir mode owner
status_of (File len writer mode owner) = status.File len mode owner

-- `stat` is refused where the path is missing; else it tells the status of what stands there
abbrev pub stat_at : Namespace → Option Entry → Answered
stat_at space None = refused FileNotFound space
stat_at space (Some entry) = told (Status (status_of entry)) space

-- the last name of a path; the root has none
abbrev pub last_name : Path → List ℕ
last_name path = unwrap_or (last_or None path) []

-- the line of a listing that tells of an entry: the last name of its path, and its status
abbrev pub listed : Path × Entry → Listed
listed e = record { name = last_name e.0; status = status_of e.1 }

-- the reply that is a listing of these lines; how much room it has for more is no part of it
abbrev pub listing : List Listed → Reply
listing entries = Entries (record { items = entries; room = 0 })

-- `list` is refused where the path is missing; else it tells a directory's children in the order of their names, and of a
-- file the file alone
abbrev pub list_at : Namespace → Path → Option Entry → Answered
list_at space path None = refused FileNotFound space
list_at space path (Some (Dir mode owner max_names max_bytes)) = told (listing (map listed (children space path))) space
list_at space path (Some (File len writer mode owner)) = told (listing (listed (path, File len writer mode owner) ∷ [])) space

-- `usage` is refused where the path is missing, where it is a file, and where it is a directory with neither quota; else it
-- tells the names and bytes that are used, and the two quotas
abbrev pub usage_at : Namespace → Path → Option Entry → Answered
usage_at space path None = refused FileNotFound space
usage_at space path (Some (File len writer mode owner)) = refused (IO NotDirectory) space
usage_at space path (Some (Dir mode owner max_names max_bytes)) =
    unless (when (is_none max_names && is_none max_bytes) (IO NoQuota)) space
    (told (Used (used_names space path) (used_bytes space path) max_names max_bytes) space)

-- ---- changing and removing

-- the path is the root
abbrev pub is_root : Path → Bool
is_root path = length path == 0

-- `delete` is refused where the path is a directory other than the root that has a child, and the call isn't recursive;
-- else it tells whether something other than the root stood at the path, which is removed with all below it
abbrev pub delete : Namespace → Path → Bool → Answered
delete space path recursive =
    unless (when (is_dir (entry_at space path) && not (is_root path) && not recursive && nat_lt 0 (length (children space path))) PathIsNotEmptyDirectory) space
    (if is_root path || not (exists space path) then told (Truth false) space else granted (without space path))

-- the entry with this mode
abbrev pub with_mode : ℕ → Entry → Entry
with_mode mode (Dir old owner max_names max_bytes) = Dir mode owner max_names max_bytes
with_mode mode (File len writer old owner) = File len writer mode owner

-- why a call that needs something other than the root is refused: its path is the root, or nothing stands there
abbrev pub fixed_or_missing : Namespace → Path → Option Exception
fixed_or_missing space path = first_some (when (is_root path) (IO RootFixed) ∷ when (not (exists space path)) FileNotFound ∷ [])

-- the namespace with an entry at a path, where one is given
abbrev pub with_some : Namespace → Path → Option Entry → Namespace
with_some space path None = space
with_some space path (Some entry) = with_entry space path entry

-- the namespace with what stands at a path changed
abbrev pub changed_at : Namespace → Path → (Entry → Entry) → Namespace
changed_at space path change = with_some space path (option_map change (entry_at space path))

-- `chmod` is refused where the path is the root and where it is missing; else what stands there has this mode
abbrev pub chmod : Namespace → Path → ℕ → Answered
chmod space path mode = unless (fixed_or_missing space path) space (granted (changed_at space path (with_mode mode)))

-- the directory with these quotas
abbrev pub with_quotas : Option ℕ → Option ℕ → Entry → Entry
with_quotas names bytes (Dir mode owner max_names max_bytes) = Dir mode owner names bytes
with_quotas names bytes (File len writer mode owner) = File len writer mode owner

-- `set_quota` is refused where the path is the root, where it is missing, and where it is a file; else the directory has
-- these quotas in place of its old ones
abbrev pub set_quota : Namespace → Path → Option ℕ → Option ℕ → Answered
set_quota space path names bytes =
    unless (first_some (fixed_or_missing space path ∷ when (is_file (entry_at space path)) (IO NotDirectory) ∷ [])) space
    (granted (changed_at space path (with_quotas names bytes)))
