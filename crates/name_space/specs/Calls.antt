-- Every call on the plain namespace, by its rules.
use Rattle.std.specs.Prelude.{ℕ, List, [], ◌∷◌}
use Rattle.hops_base.specs.declared.ids.ClientNo.{ClientNo}
use Rattle.name_space.specs.declared.call.Call.{Call}
use Rattle.name_space.specs.declared.call.Call.TheVariants as call
use Rattle.name_space.specs.declared.reply.Reply.{Reply}
use Rattle.name_space.specs.declared.reply.Reply.TheVariants.{Truth, Status, Entries, Used, Refused}
use Rattle.name_space.specs.Namespace.{Namespace, entry_at}
use Rattle.name_space.specs.Plain.{Answered, listing, mkdirs, create, append_at, grow_at, close_at, stat_at, list_at, delete, chmod, set_quota, usage_at}
use Rattle.name_space.specs.Rename.{rename}

-- what a client whose user this is is answered to a call, and the namespace after it
abbrev pub plain : Namespace → ClientNo → List ℕ → Call → Answered
plain space client user (call.Mkdirs path) = mkdirs space user path
plain space client user (call.Create path overwrite) = create space client user path overwrite
plain space client user (call.Append path) = append_at space client path (entry_at space path)
plain space client user (call.Grow path bytes) = grow_at space client path bytes (entry_at space path)
plain space client user (call.Close path) = close_at space client path (entry_at space path)
plain space client user (call.Stat path) = stat_at space (entry_at space path)
plain space client user (call.List path) = list_at space path (entry_at space path)
plain space client user (call.Delete path recursive) = delete space path recursive
plain space client user (call.Rename source destination) = rename space source destination
plain space client user (call.Chmod path mode) = chmod space path mode
plain space client user (call.SetQuota path names bytes) = set_quota space path names bytes
plain space client user (call.Usage path) = usage_at space path (entry_at space path)

-- a reply as it reads: how much room a listing has for more is no part of it
abbrev pub as_read : Reply → Reply
as_read (Truth truth) = Truth truth
as_read (Status status) = Status status
as_read (Entries entries) = listing entries.items
as_read (Used names bytes max_names max_bytes) = Used names bytes max_names max_bytes
as_read (Refused exception) = Refused exception

-- what a client whose user this is is answered to calls that it makes one after another
abbrev pub replies_of : Namespace → ClientNo → List ℕ → List Call → List Reply
replies_of space client user [] = []
replies_of space client user (call ∷ calls) =
    let answered = plain space client user call in
    answered.reply ∷ replies_of answered.space client user calls

-- the namespace after these calls
abbrev pub space_after_calls : Namespace → ClientNo → List ℕ → List Call → Namespace
space_after_calls space client user [] = space
space_after_calls space client user (call ∷ calls) = space_after_calls (plain space client user call).space client user calls
