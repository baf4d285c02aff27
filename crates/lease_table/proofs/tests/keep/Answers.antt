use Rattle.hops_base.specs.declared.key.Key.TheVariants as key
use Rattle.lease_table.proofs.PlaceLaws.{reserved_here}
use Rattle.lease_table.proofs.tests.keep.Goals as goal

pub keep-requires : goal.keep-requires
keep-requires c =
    reserved_here c.args.table.now.replies c.reply_reserve.new.self.replies (key.Reply c.args.client) c.in_ok-reply_reserve.ensures.rows
    (rw (← c.from_ref.ensures.value) c.in_ok-reply_reserve.ensures.ok)
