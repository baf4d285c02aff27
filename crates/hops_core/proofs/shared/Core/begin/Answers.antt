use Rattle.std.proofs.Common.{sym, subst}
use Rattle.hops_core.specs.Steady.{IsSteady}
use Rattle.hops_core.proofs.SteadyLaws.{opened_steady, begun_steady}
use Rattle.hops_core.proofs.shared.Core.begin.Goals.{in-Ok, in-Err}
use Rattle.hops_core.proofs.shared.Core.begin.Goals as goal

pub invariant_of-self : goal.invariant_of-self
invariant_of-self c = elim c.match-open.branch [
  | in-Ok w ↦ subst IsSteady (sym w.in-Ok.ensures.ok) (opened_steady c.self.inside.db c.args.client c.args.number c.args.call.now c.args.node c.self.invariant c.requires.built)
  | in-Err w ↦ subst IsSteady (sym w.in-Err.ensures.err) (begun_steady c.self.inside.db c.args.client c.args.number c.self.invariant)
]
