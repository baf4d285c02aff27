-- What is found again in the sample tables, and what isn't.
use Rattle.std.proofs.Common.{◌≡◌, Some, refl, sym, ap, ◌∙◌}
use Rattle.std.specs.FinMap as map
use Rattle.hops_base.specs.declared.key.Key.{Key}
use Rattle.inode_table.specs.declared.inode.Inode.{Inode}
use Rattle.db_state.specs.Stored.{Inodes}
use Rattle.db_state.specs.ReadSteps.{IsFoundAgain}

-- a row that is the table's is found again
pub again : (inodes : Inodes) (at : Key) (row : Inode) → map.get inodes at ≡ Some row → IsFoundAgain inodes (at, row)
again inodes at row is = record { now = row; there = is; same = record { id = refl; kind = refl; writer = refl; has_quota = refl } }

-- where the table has a row of another id, the row isn't found again
pub not_again : (inodes : Inodes) (at : Key) (row now : Inode) → map.get inodes at ≡ Some now → IsFoundAgain inodes (at, row) → now.id.0 ≡ row.id.0
not_again inodes at row now is found =
    let one : Some found.now ≡ Some now = sym found.there ∙ is in
    let same : found.now ≡ now = cc in
    sym (ap (λ (r : Inode). r.id.0) same) ∙ ap (λ (id : _). id.0) found.same.id
