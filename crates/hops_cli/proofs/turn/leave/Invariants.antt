use Rattle.std.specs.FinMap as map
use Rattle.hops_cli.specs.Turning.{rank, ComesTo}
use Rattle.hops_cli.proofs.StepsLeft.{steps_left}
use Rattle.hops_cli.proofs.turn.leave.Given as goal

abbrev pub invariant-loop-s : goal.invariant-loop-s
invariant-loop-s l = ComesTo l.s (rank l.phase) l.initial.core (rank l.phase) l.core

abbrev pub decreases-loop-s : goal.decreases-loop-s
decreases-loop-s l = steps_left l.phase (map.get l.core.sessions l.s.0)
