use Rattle.inode_ops.proofs.MadeLemmas.{IsMaking}
use Rattle.inode_ops.proofs.directories.new_dirs.Given as goal

abbrev pub invariant-loop-name : goal.invariant-loop-name
invariant-loop-name l = IsMaking l.initial.parent.0 l.initial.id.0 l.user l.names l.name-index l.parent.0 l.id.0 l.writes
