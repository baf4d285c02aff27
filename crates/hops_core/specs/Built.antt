-- Which calls a session carries out. This project's own.
use Rattle.std.specs.Prelude.{Bool, IsSome, is_some}
use Rattle.name_space.specs.declared.call.Call.{Call}
use Rattle.inode_ops.specs.Outcomes.{path_of}

-- whether the call is one on inodes, which are those that are built: `mkdirs`, `create`, `stat`, `list`, `chmod`, and `delete`
-- without recursion
abbrev pub is_built : Call → Bool
is_built call = is_some (path_of call)

-- the call is one of them
abbrev pub IsBuilt : Call → Type 0
IsBuilt call = IsSome (path_of call)
