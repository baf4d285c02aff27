use Rattle.hops_cli.specs.Turning.{AreTurned}
use Rattle.hops_cli.proofs.engine.run_client.Given as goal

abbrev pub invariant-loop-i : goal.invariant-loop-i
invariant-loop-i l = AreTurned l.initial.core.stored.settings l.client.calls l.i l.core l.answers.items
