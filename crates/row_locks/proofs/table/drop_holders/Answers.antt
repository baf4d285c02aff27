use Rattle.std.proofs.Common.{◌<◌, take, length, arith}
use Rattle.std.proofs.lemmas.List.{take_more}
use Rattle.row_locks.proofs.EditLemmas.{more_dropped}
use Rattle.row_locks.proofs.table.drop_holders.Goals as goal

pub loop-key-preserved : goal.loop-key-preserved
loop-key-preserved c =
    let in_range : c.loop-key.key-index < length c.args.keys.now = omega arith in
    let next = take_more c.args.keys.now c.loop-key.key-index c.key-item.result in_range in
    record {
      lists = c.drop_holder.ensures.lists;
      items = λ q. rw (next, ← c.key-item.is) (more_dropped (take c.loop-key.key-index c.args.keys.now) c.key-item.result q c.args.s _ _ _ (c.loop-key.invariant.items q) (c.drop_holder.ensures.items q));
    }
