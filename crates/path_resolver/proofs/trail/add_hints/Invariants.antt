use Rattle.std.proofs.Common.{◌≡◌, ◌++◌, take}
use Rattle.std.specs.List.{filter_map}
use Rattle.db_state.specs.Moves.{hint_of}
use Rattle.path_resolver.proofs.trail.add_hints.Given as goal

abbrev pub invariant-loop-row : goal.invariant-loop-row
invariant-loop-row l = l.hints.items ≡ l.fn.hints.items ++ filter_map hint_of (take l.row-index l.rows)
