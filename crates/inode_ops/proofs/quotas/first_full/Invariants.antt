use Rattle.std.proofs.Common.{◌≡◌, drop, map, zip}
use Rattle.hops_base.specs.declared.key.Key.{Key}
use Rattle.inode_table.specs.declared.inode.Inode.{Inode}
use Rattle.name_space.specs.Namespace.{Path, above}
use Rattle.name_space.specs.Quota.{first_some}
use Rattle.inode_ops.specs.QuotaSteps.{full_at, quota_in, first_full}
use Rattle.inode_ops.proofs.quotas.first_full.Given as goal

abbrev pub invariant-loop-i : goal.invariant-loop-i
invariant-loop-i l =
    first_some (map (λ (d : Path × (Key × Inode)). full_at d.0 l.names (quota_in l.quotas d.1.1.id)) (drop l.i (zip (above l.place.path) l.place.found.items)))
    ≡ first_full l.place.path l.place.found.items l.quotas l.names
