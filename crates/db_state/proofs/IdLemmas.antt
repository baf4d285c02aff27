-- Ids stay below the next free one.
use Rattle.std.proofs.Common.{◌≡◌, ℕ, ◌+◌, ◌≤◌, max, List, [], ◌∷◌, ap, Option, Some, None, arith}
use Rattle.hops_base.specs.declared.key.Key.{Key}
use Rattle.inode_table.specs.declared.inode.Inode.{Inode}
use Rattle.db_state.specs.declared.writes.Row.{Row}
use Rattle.db_state.specs.declared.writes.Row.TheVariants as row
use Rattle.db_state.specs.Written.{next_with, next_after}

higher : (next : ℕ) (new : Option Row) → next ≤ next_with next new
higher next None = omega arith
higher next (Some (row.Inode inode)) = omega arith
higher next (Some (row.Quota quota)) = omega arith

-- rows make the next free id no less
pub next_rises : (ws : List (Key × Option Row)) (next : ℕ) → next ≤ next_after next ws
next_rises [] next = omega arith
next_rises (w ∷ ws) next =
    let first : next ≤ next_with next w.1 = higher next w.1 in
    let rest : next_with next w.1 ≤ next_after (next_with next w.1) ws = next_rises ws (next_with next w.1) in
    omega arith

-- the id of a row that is written is below the next free one
pub id_below : (next bound : ℕ) (w : Key × Option Row) (ws : List (Key × Option Row)) (inode : Inode) → w.1 ≡ Some (row.Inode inode) → next_after next (w ∷ ws) ≡ bound → inode.id.0 + 1 ≤ bound
id_below next bound w ws inode is e =
    let rest : next_with next w.1 ≤ next_after (next_with next w.1) ws = next_rises ws (next_with next w.1) in
    let here : next_with next w.1 ≡ max next (inode.id.0 + 1) = ap (next_with next) is in
    omega arith
