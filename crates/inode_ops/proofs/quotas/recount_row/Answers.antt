use Rattle.std.proofs.Common.{Option, List, sym, ap, ◌∙◌}
use Rattle.hops_base.specs.declared.key.Key.{Key}
use Rattle.hops_base.specs.declared.key.Key.TheVariants as key
use Rattle.db_state.specs.declared.writes.Row.{Row}
use Rattle.inode_ops.specs.QuotaSteps.{is_key_written}
use Rattle.inode_ops.proofs.CountLemmas.{can_count, any_key}
use Rattle.inode_ops.proofs.quotas.recount_row.Goals as goal

pub counted-requires : goal.counted-requires
counted-requires c = can_count c.args.change c.args.quotas.now c.args.id c.in-Some.quota c.requires.count (sym c.quota_in.ensures ∙ c.in-Some.is)

pub push-requires-clause-new : goal.push-requires-clause-new
push-requires-clause-new c =
    sym (any_key (key.Quota c.args.id) c.args.writes.now.items)
    ∙ ap (λ (ws : List (Key × Option Row)). is_key_written ws (key.Quota c.args.id)) (sym c.as_slice.ensures.items)
    ∙ sym c.is_written.ensures ∙ c.if-not-is_written.true
