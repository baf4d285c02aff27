-- The rename rules. After the Hadoop file system specification; their order is this project's own.
use Rattle.std.specs.Prelude.{Bool, true, not, ◌||◌, if◌then◌else◌, [], ◌∷◌, ◌++◌, map, length, drop, Option, Some, None}
use Rattle.hops_base.specs.Path.{same_path, is_below, parent_of}
use Rattle.name_space.specs.declared.entry.Entry.{Entry}
use Rattle.name_space.specs.declared.reply.Exception.TheVariants.{FileNotFound, FileAlreadyExists, IO}
use Rattle.name_space.specs.declared.reply.Why.TheVariants.{Descendant, BadParent}
use Rattle.name_space.specs.declared.reply.Reply.TheVariants.{Truth}
use Rattle.name_space.specs.Namespace.{Namespace, Path, entry_at, exists, is_dir, is_file, with_entries, is_within, used_names, used_bytes}
use Rattle.name_space.specs.Quota.{over_quota, newly_above}
use Rattle.name_space.specs.Plain.{Answered, told, refused, granted, unless, is_root, last_name}

-- where a path stands once all of the source stands at the target
abbrev pub moved_path : Path → Path → Path → Path
moved_path source target path = if is_within source path then target ++ drop (length source) path else path

-- the namespace once all of the source stands at the target
abbrev pub moved : Namespace → Path → Path → Namespace
moved space source target = with_entries [] (map (λ (e : Path × Entry). (moved_path source target e.0, e.1)) space)

-- a path has a directory to stand in: its parent is one, or it is the root, which has no parent
abbrev pub has_parent : Namespace → Option Path → Bool
has_parent space None = true
has_parent space (Some up) = is_dir (entry_at space up)

-- the target of a rename: the path in the destination under the last name of the source where the destination is a
-- directory, and else the destination itself
abbrev pub target_of : Namespace → Path → Path → Path
target_of space source destination = if is_dir (entry_at space destination) then destination ++ last_name source ∷ [] else destination

-- a rename to this target changes nothing where the target is the source itself, and is refused where the target exists and
-- by a quota, in this order; else all of the source moves
abbrev pub rename_to : Namespace → Path → Path → Answered
rename_to space source target =
    if same_path target source then told (Truth true) space
    else if exists space target then refused FileAlreadyExists space
    else unless (over_quota space (used_names space source) (used_bytes space source) (newly_above source target)) space (granted (moved space source target))

-- `rename` is refused where the source is missing, and where it is the root or the destination lies strictly below it;
-- changes nothing where both are one path; is refused where the destination is a file, and where it has no directory to
-- stand in, in this order; else the target decides
abbrev pub rename : Namespace → Path → Path → Answered
rename space source destination =
    if not (exists space source) then refused FileNotFound space
    else if is_root source || is_below destination source then refused (IO Descendant) space
    else if same_path source destination then told (Truth true) space
    else if is_file (entry_at space destination) then refused FileAlreadyExists space
    else if not (has_parent space (parent_of destination)) then refused (IO BadParent) space
    else rename_to space source (target_of space source destination)
