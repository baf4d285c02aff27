use Rattle.std.proofs.Common.{length}
use Rattle.commit_log.specs.Legal.{space}
use Rattle.db_state.proofs.Unfinished.{unfinished}
use Rattle.db_state.proofs.WalkLemmas.{IsWalked}
use Rattle.db_state.proofs.tree.tree_of.Given as goal

abbrev pub decreases-loop-path : goal.decreases-loop-path
decreases-loop-path l = length (unfinished (space l.db.stored.settings.users l.db.stored.notes) l.pending.items)

abbrev pub invariant-loop-path : goal.invariant-loop-path
invariant-loop-path l = IsWalked l.db.stored.inodes (space l.db.stored.settings.users l.db.stored.notes) l.tree.items l.pending.items
