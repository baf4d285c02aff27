use Rattle.std.proofs.Common.{refl, ap, ◌∙◌, arith}
use Rattle.inode_ops.proofs.MadeLemmas.{fresh_key, making_none, making_next}
use Rattle.inode_ops.proofs.directories.new_dirs.Goals as goal

pub loop-name-init : goal.loop-name-init
loop-name-init c =
    let items = ap (λ w. w.items) c.in_ok-reserve.ensures.ok ∙ ap (λ w. w.items) c.new-writes.ensures in
    let room = ap (λ w. w.room) c.in_ok-reserve.ensures.ok in
    making_none c.args.parent.0 c.args.next.0 c.args.user.now c.args.names.now c.reserve.new.self c.requires.below items (rw room (omega arith))

pub push-requires-clause-room : goal.push-requires-clause-room
push-requires-clause-room c = let count = c.loop-name.invariant.count in let room = c.loop-name.invariant.room in omega arith

pub push-requires-clause-new : goal.push-requires-clause-new
push-requires-clause-new c = fresh_key c.loop-name.parent.0 c.in_ok-copy.field-0 _ c.loop-name.invariant.fresh

pub loop-name-preserved : goal.loop-name-preserved
loop-name-preserved c = making_next c.args.parent.0 c.args.next.0 c.args.user.now c.args.names.now c.loop-name.name-index c.loop-name.parent.0 c.loop-name.id.0 c.loop-name.writes c.push.new.self c.name-item.result c.loop-name.invariant c.loop-name-test.true c.name-item.is (c.push.ensures ∙ rw (c.in_ok-copy.ensures, c.new_dir.ensures, c.in_ok-copy-2.ensures) refl)
