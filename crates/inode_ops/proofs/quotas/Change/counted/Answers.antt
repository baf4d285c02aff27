use Rattle.std.proofs.Common.{arith, subst}
use Rattle.inode_ops.specs.declared.quotas.Change.{Change}
use Rattle.inode_ops.specs.QuotaSteps.{CanCountIn}
use Rattle.inode_ops.proofs.CountLemmas.{bytes_fit}
use Rattle.inode_ops.proofs.quotas.Change.counted.Goals as goal

pub add-requires-clause-bytes : goal.add-requires-clause-bytes
add-requires-clause-bytes c =
    let can = subst (λ (change : Change). CanCountIn change c.args.quota) c.in-More.is c.requires in
    bytes_fit c.args.quota.used_bytes c.in-More.bytes (omega arith) can.1
