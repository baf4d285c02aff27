use Rattle.std.proofs.Common.{sym, subst}
use Rattle.hops_core.specs.Steady.{IsSteady}
use Rattle.hops_core.proofs.SteadyLaws.{opening_steady}
use Rattle.hops_core.proofs.shared.Core.open.Goals as goal

pub invariant_of-result : goal.invariant_of-result
invariant_of-result c = subst IsSteady (sym c.in_ok-db.ensures) (opening_steady c.args.settings.now)
