use Rattle.std.proofs.Common.{◌++◌, List, ℕ, ap, reverse, map}
use Rattle.row_store.proofs.ChildLaws.{IsChildren-only}
use Rattle.db_state.specs.Walk.{step_to}
use Rattle.db_state.proofs.tree.add_children.Goals as goal

pub loop-name-init : goal.loop-name-init
loop-name-init c = ap (λ (names : List (List ℕ)). c.args.pending.now.items ++ reverse (map (step_to c.args.path.now c.args.parent) names)) (IsChildren-only c.args.db.now.stored.inodes c.args.parent c.in_ok-names.names.items c.in_ok-names.ensures)
