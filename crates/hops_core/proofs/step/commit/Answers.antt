use Rattle.hops_core.proofs.StepLaws.{commits}
use Rattle.hops_core.proofs.step.commit.Goals as goal

pub returns : goal.returns
returns c = λ doing runs. commits c.args.db.now c.args.s doing runs c.commit_step.result c.commit_step.new.db (c.commit_step.ensures doing runs)
