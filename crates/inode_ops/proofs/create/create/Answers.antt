use Rattle.inode_ops.proofs.CreateLemmas.{create_result}
use Rattle.inode_ops.proofs.KeepOutcomes.{create_keeps}
use Rattle.inode_ops.proofs.OwnOutcomes.{create_own}
use Rattle.inode_ops.proofs.create.create.Goals as goal

pub returns : goal.returns
returns c = record {
  table = create_result c.args.view.now c.args.client c.args.user.now c.args.path.now c.args.overwrite c.only_place-place.result.now c.create_at.result c.requires c.only_place-place.ensures c.create_at.ensures;
  own = create_own c.args.view.now c.args.client c.args.user.now c.args.path.now c.args.overwrite c.only_place-place.result.now c.create_at.result c.requires c.only_place-place.ensures c.create_at.ensures;
  keeps = create_keeps c.args.view.now c.args.client c.args.user.now c.args.path.now c.args.overwrite c.only_place-place.result.now c.create_at.result c.requires c.only_place-place.ensures c.create_at.ensures;
}
