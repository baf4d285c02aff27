use Rattle.std.proofs.Common.{sym}
use Rattle.inode_ops.proofs.FileRowLemmas.{last_dir-count}
use Rattle.inode_ops.proofs.create.last_dir.Goals as goal

pub returns : goal.returns
returns c = sym (last_dir-count c.args.parent.0 c.args.next.0 c.args.names.now c.if-count-eq0.false)
