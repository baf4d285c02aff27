use Rattle.inode_ops.proofs.OutcomeLemmas.{mkdirs_result, stat_result}
use Rattle.inode_ops.proofs.KeepOutcomes.{mkdirs_keeps, stat_keeps}
use Rattle.inode_ops.proofs.OwnOutcomes.{mkdirs_own, stat_own}
use Rattle.inode_ops.proofs.calls.outcome.Goals as goal

pub returns-in-Mkdirs : goal.returns-in-Mkdirs
returns-in-Mkdirs c = record {
  table = mkdirs_result c.args.view.now c.args.client c.args.user.now c.args.call.now c.only_place-place.result.now _ _ c.mkdirs.result c.requires c.only_place-place.ensures c.in-Mkdirs.is c.as_slice.ensures.items c.mkdirs.ensures;
  own = mkdirs_own c.args.view.now c.args.client c.args.user.now c.args.call.now c.only_place-place.result.now _ _ c.mkdirs.result c.requires c.only_place-place.ensures c.in-Mkdirs.is c.as_slice.ensures.items c.mkdirs.ensures;
  keeps = mkdirs_keeps c.args.view.now c.args.client c.args.user.now c.args.call.now c.only_place-place.result.now _ _ c.mkdirs.result c.requires c.only_place-place.ensures c.in-Mkdirs.is c.as_slice.ensures.items c.mkdirs.ensures;
}

pub returns-in-Stat : goal.returns-in-Stat
returns-in-Stat c = record {
  table = stat_result c.args.view.now c.args.client c.args.user.now c.args.call.now c.only_place-place.result.now _ c.stat.result c.requires c.only_place-place.ensures c.in-Stat.is c.stat.ensures;
  own = stat_own c.args.view.now c.args.client c.args.call.now c.only_place-place.result.now _ c.stat.result c.requires c.only_place-place.ensures c.in-Stat.is c.stat.ensures;
  keeps = stat_keeps c.args.view.now c.args.client c.args.call.now c.only_place-place.result.now _ c.stat.result c.requires c.only_place-place.ensures c.in-Stat.is c.stat.ensures;
}
