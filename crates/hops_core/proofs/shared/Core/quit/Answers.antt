use Rattle.std.proofs.Common.{sym, subst}
use Rattle.db_state.specs.Callers.{IsOpen}
use Rattle.db_state.specs.State.{State}
use Rattle.hops_core.specs.Follows.{LeavesOthers}
use Rattle.hops_core.proofs.FollowsLaws.{quit_follows}
use Rattle.hops_core.proofs.SteadyLaws.{quit_steady}
use Rattle.hops_core.proofs.shared.Core.quit.Goals as goal

pub invariant_of-self : goal.invariant_of-self
invariant_of-self c =
    let is = subst (λ (x : State). IsOpen x c.args.s) (sym c.self.view_is) c.requires in
    quit_steady c.self.inside.db c.args.s is.0 is.1 c.core.ensures c.self.invariant c.end.new.self (c.end.ensures is.0 is.1)

pub returns-clause-follows : goal.returns-clause-follows
returns-clause-follows c = subst (λ (x : State). LeavesOthers x c.end.new.self c.args.s) c.self.view_is (λ doing runs. quit_follows c.self.inside.db c.args.s doing c.end.new.self (c.end.ensures doing runs))
