use Rattle.std.proofs.Common.{◌≡◌, ◌++◌, reverse, map, length}
use Rattle.row_store.specs.Children.{child_names}
use Rattle.db_state.specs.Walk.{step_to}
use Rattle.db_state.proofs.tree.add_children.Given as goal

abbrev pub decreases-loop-name : goal.decreases-loop-name
decreases-loop-name l = length l.names.items

abbrev pub invariant-loop-name : goal.invariant-loop-name
invariant-loop-name l = l.pending.items ++ reverse (map (step_to l.path l.parent) l.names.items) ≡ l.initial.pending.items ++ reverse (map (step_to l.path l.parent) (child_names l.db.stored.inodes l.parent))
