use Rattle.std.proofs.Common.{sym, ap, ◌∙◌}
use Rattle.inode_ops.proofs.DeletePlaceLemmas.{key_apart, first_removed, quota_new, removed_plain, removed_quota, removes}
use Rattle.inode_ops.proofs.delete.removal.Goals as goal
use Rattle.inode_ops.proofs.delete.removal.Goals.{then-row, else-row}

pub push-requires-then-row-clause-new : goal.push-requires-then-row-clause-new
push-requires-then-row-clause-new c =
    let items = sym c.as_slice.ensures.items ∙ c.in-Some.ensures.cases.0 in
    let none = ap (λ w. w.items) c.in_ok-reserve.ensures.ok ∙ ap (λ w. w.items) c.new-writes.ensures in
    let first = first_removed c.reserve.new.self c.push.new.self c.in_ok-copy.field-0 c.in-Some.field-0-0.now none c.in_ok-copy.ensures c.push.ensures in
    quota_new c.push.new.self.items c.in-Some.field-0-0.now.0 c.in-Some.field-0-0.now.1.id first (key_apart c.args.place.now c.requires c.in-Some.above.now c.in-Some.field-0-0.now items c.in-Some.field-0-0.now.1.id)

pub returns : goal.returns
returns c =
    let items = sym c.as_slice.ensures.items ∙ c.in-Some.ensures.cases.0 in
    let none = ap (λ w. w.items) c.in_ok-reserve.ensures.ok ∙ ap (λ w. w.items) c.new-writes.ensures in
    let first = first_removed c.reserve.new.self c.push.new.self c.in_ok-copy.field-0 c.in-Some.field-0-0.now none c.in_ok-copy.ensures c.push.ensures in
    removes c.args.place.now c.args.quotas.now c.in-Some.above.now c.in-Some.field-0-0.now items c.if-row.writes.items c.recount.new.writes.items
    (elim c.if-row.branch [
      | then-row w ↦ ap (λ w. w.items) w.writes-is ∙ removed_quota c.push.new.self w.push-then-row.new.self c.in-Some.field-0-0.now first w.if-row.true w.push-then-row.ensures
      | else-row w ↦ ap (λ w. w.items) w.writes-is ∙ removed_plain c.push.new.self.items c.in-Some.field-0-0.now first w.if-row.false
    ])
    c.bytes.result c.bytes.ensures c.in_ok-recount.ensures
