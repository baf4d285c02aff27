use Rattle.std.proofs.Common.{sym, subst}
use Rattle.db_state.specs.Callers.{IsOpen}
use Rattle.db_state.specs.State.{State}
use Rattle.hops_core.specs.Follows.{LeavesOthers}
use Rattle.hops_core.proofs.FollowsLaws.{advance_follows}
use Rattle.hops_core.proofs.SteadyLaws.{advance_steady}
use Rattle.hops_core.proofs.shared.Core.advance.Goals as goal

pub invariant_of-self : goal.invariant_of-self
invariant_of-self c =
    let is = subst (λ (x : State). IsOpen x c.args.s) (sym c.self.view_is) c.requires in
    advance_steady c.self.inside.db c.args.s is.0 is.1 c.core.ensures c.self.invariant c.step.result c.step.new.db (c.step.ensures is.0 is.1)

pub returns-clause-follows : goal.returns-clause-follows
returns-clause-follows c = subst (λ (x : State). LeavesOthers x c.step.new.db c.args.s) c.self.view_is (λ doing runs. advance_follows c.self.inside.db c.args.s doing c.step.result c.step.new.db (c.step.ensures doing runs))
