use Rattle.std.proofs.Common.{sym}
use Rattle.inode_ops.proofs.MissingLemmas.{room_below}
use Rattle.inode_ops.proofs.directories.mkdirs.Goals as goal

pub make_missing-requires-clause-room : goal.make_missing-requires-clause-room
make_missing-requires-clause-room c =
    room_below c.args.place.now c.args.quotas.now c.args.next.0 c.deepest-last.result.now c.requires.spells c.requires.room c.deepest-last.ensures c.in-Dir-false.is-0 (sym c.in-Dir-false.ensures)
