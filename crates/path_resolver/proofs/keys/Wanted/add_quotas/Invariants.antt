use Rattle.std.proofs.Common.{take, ◌∷◌, []}
use Rattle.std.specs.List.{flat_map}
use Rattle.hops_base.specs.declared.key.Key.{Key}
use Rattle.hops_base.specs.declared.key.Key.TheVariants as key
use Rattle.inode_table.specs.declared.inode.Inode.{Inode}
use Rattle.db_state.specs.Plan.{where_so}
use Rattle.path_resolver.specs.Keys.{Adds}
use Rattle.path_resolver.proofs.keys.Wanted.add_quotas.Given as goal

abbrev pub invariant-loop-row : goal.invariant-loop-row
invariant-loop-row l = Adds (flat_map (λ (r : Key × Inode). where_so r.1.has_quota (key.Quota r.1.id ∷ [])) (take l.row-index l.way.above.now)) l.fn.self l.self
