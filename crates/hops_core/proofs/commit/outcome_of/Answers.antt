use Rattle.hops_core.proofs.CommitStepLemmas.{is_committing}
use Rattle.hops_core.proofs.commit.outcome_of.Goals as goal

pub asked_of-requires : goal.asked_of-requires
asked_of-requires c = is_committing c.args.db.now c.args.s c.requires c.core.ensures
