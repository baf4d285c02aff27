use Rattle.std.proofs.Common.{refl, ap, ◌∙◌}
use Rattle.inode_ops.proofs.FileRowLemmas.{fresh_file, file_pushed}
use Rattle.inode_ops.proofs.create.new_file_rows.Goals as goal

pub push-requires-clause-new : goal.push-requires-clause-new
push-requires-clause-new c = fresh_file c.last_dir.result c.args.parent.0 c.args.next.0 c.args.user.now c.in_ok-copy.field-0 c.args.above.now c.reserve.new.self.items c.last_dir.ensures c.requires.below (ap (λ w. w.items) c.in_ok-reserve.ensures.ok ∙ c.in_ok-writes.ensures)

pub returns : goal.returns
returns c = file_pushed c.last_dir.result c.args.parent.0 c.args.next.0 c.args.user.now c.args.name.now c.args.above.now c.args.client c.in_ok-file.file c.reserve.new.self.items c.push.new.self.items c.last_dir.ensures (ap (λ w. w.items) c.in_ok-reserve.ensures.ok ∙ c.in_ok-writes.ensures) c.in_ok-file.ensures (ap (λ w. w.items) c.push.ensures ∙ rw c.in_ok-copy.ensures refl)
