use Rattle.std.proofs.Common.{ap, ◌∙◌}
use Rattle.std.specs.FinSet as set
use Rattle.hops_base.specs.declared.key.Key.TheVariants as key
use Rattle.lease_table.proofs.PlaceLaws.{remove_twice}
use Rattle.lease_table.proofs.table.LeaseTable.keep.Goals as goal

pub returns-else-is_some-clause-ready : goal.returns-else-is_some-clause-ready
returns-else-is_some-clause-ready c =
    let at = key.Reply c.args.client in
    ap (λ ready. set.remove ready at) c.insert.ensures.ready ∙ remove_twice c.self.inside.replies.ready at ∙ ap (λ table. set.remove table.replies.ready at) c.self.view_is
