use Rattle.inode_ops.proofs.DeleteLemmas.{delete_result}
use Rattle.inode_ops.proofs.KeepOutcomes.{delete_keeps}
use Rattle.inode_ops.proofs.OwnOutcomes.{delete_own}
use Rattle.inode_ops.proofs.delete.delete.Goals as goal

pub returns : goal.returns
returns c = record {
  table = delete_result c.args.view.now c.only_place-place.result.now c.args.path.now _ c.delete_at.result c.requires c.only_place-place.ensures c.as_slice.ensures.items c.delete_at.ensures;
  own = delete_own c.args.view.now c.only_place-place.result.now c.args.path.now _ c.delete_at.result c.requires c.only_place-place.ensures c.as_slice.ensures.items c.delete_at.ensures;
  keeps = delete_keeps c.args.view.now c.only_place-place.result.now c.args.path.now _ c.delete_at.result c.requires c.only_place-place.ensures c.as_slice.ensures.items c.delete_at.ensures;
}
