use Rattle.inode_ops.specs.QuotaSteps.{counted}
use Rattle.inode_ops.proofs.CountLemmas.{IsCounting}
use Rattle.inode_ops.proofs.quotas.recount.Given as goal

abbrev pub invariant-loop-row : goal.invariant-loop-row
invariant-loop-row l = IsCounting l.found l.quotas (counted l.change) l.fn.writes.items l.row-index l.writes
