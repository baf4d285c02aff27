use Rattle.inode_ops.specs.QuotaSteps.{counted}
use Rattle.inode_ops.proofs.CountLemmas.{counting_next}
use Rattle.inode_ops.proofs.quotas.recount.Goals as goal

pub loop-row-preserved : goal.loop-row-preserved
loop-row-preserved c = counting_next c.args.found.now c.args.quotas.now (counted c.args.change) c.args.writes.now.items c.loop-row.row-index c.loop-row.writes c.loop-row-item.result c.loop-row.invariant c.loop-row-test.true c.loop-row-item.is c.recount_row.new.writes c.recount_row.ensures
