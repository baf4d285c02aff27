use Rattle.std.proofs.Common.{◌∙◌}
use Rattle.hops_core.proofs.CommitStepLemmas.{looks, may_look, stays}
use Rattle.hops_core.proofs.commit.look.Goals as goal

pub go_on-requires-clause-may : goal.go_on-requires-clause-may
go_on-requires-clause-may c = may_look c.args.db.now c.args.s c.requires.at c.core.ensures c.args.asked c.requires.asked

pub returns-clause-same : goal.returns-clause-same
returns-clause-same c =
    let went = c.go_on.ensures c.requires.at.doing c.requires.at.runs in
    went.2 ∙ stays c.args.db.now c.args.s c.requires.at c.core.ensures went.0 went.1.1.0

pub returns-clause-outcome : goal.returns-clause-outcome
returns-clause-outcome c =
    let went = c.go_on.ensures c.requires.at.doing c.requires.at.runs in
    looks c.args.db.now c.args.s c.requires.at c.core.ensures c.args.asked c.requires.asked c.go_on.result went.1.1.1
