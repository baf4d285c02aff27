-- How many steps a session makes in a phase at most.
use Rattle.std.proofs.Common.{ℕ, ◌+◌, ◌-◌, ◌==◌, if◌then◌else◌, List, [], ◌∷◌, length, Option, Some, None}
use Rattle.name_space.specs.declared.call.Call.{Call}
use Rattle.name_space.specs.Call.{paths_of}
use Rattle.db_state.specs.declared.session.Phase.{Phase}
use Rattle.db_state.specs.declared.session.Session.{Session}
use Rattle.db_state.specs.declared.session.Stage.{Stage}
use Rattle.db_state.specs.declared.session.Stage.TheVariants as stage
use Rattle.db_state.specs.Moves.{left_in}
use Rattle.db_state.specs.Stages.{phase_of}
use Rattle.hops_cli.specs.Turning.{rank}

-- how many names the path of a call has, where it has one path
abbrev pub names_in : List (List (List ℕ)) → ℕ
names_in [] = 0
names_in (path ∷ paths) = length path

-- how much a session has left to do at its stage: names to look for, locks to take, or rows to read again
abbrev pub left_at : Call → Stage → ℕ
left_at call (stage.Resolve places found) = names_in (paths_of call) + 2 - length found.items
left_at call (stage.Lock places keys taken) = length keys - taken
left_at call (stage.Read places keys) = 0
left_at call (stage.Reread reads keys) = length (left_in keys reads)
left_at call (stage.Commit reads keys) = 0
left_at call stage.Answered = 0

-- how many steps it makes in this phase at most
abbrev pub steps_left : Phase → Option Session → ℕ
steps_left at None = 0
steps_left at (Some doing) = if rank (phase_of doing.stage) == rank at then left_at doing.call doing.stage + 1 else 0
