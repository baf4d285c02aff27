use Rattle.std.proofs.Common.{◌≡◌, Some, refl, rules}
use Rattle.std.proofs.lemmas.Result.{on_ok_weaker}
use Rattle.db_state.specs.declared.writes.Row.TheVariants as row
use Rattle.db_state.proofs.PlaceLemmas.{reserved_here, reserved_others, kept_inodes, kept_quotas, placed_inode, placed_quota}
use Rattle.db_state.proofs.tables.reserve_row.Goals as goal

pub returns-in-Some-Inode-clause-here : goal.returns-in-Some-Inode-clause-here
returns-in-Some-Inode-clause-here c =
    let is : c.args.write.now.1 ≡ Some (row.Inode c.in-Some-Inode.field-0-0) = search rules in
    on_ok_weaker c.reserve.result (λ e. placed_inode _ c.args.write.now c.in-Some-Inode.field-0-0 is (reserved_here c.args.tables.now.inodes c.reserve.new.self c.args.write.now.0 c.reserve.ensures.rows (rw (← c.from_ref.ensures.value) e))) c.reserve.ensures.ok

pub returns-in-Some-Inode-clause-others : goal.returns-in-Some-Inode-clause-others
returns-in-Some-Inode-clause-others c = on_ok_weaker c.reserve.result (λ e. kept_inodes c.args.tables.now (record { inodes = c.reserve.new.self; quotas = c.args.tables.now.quotas }) (reserved_others c.args.tables.now.inodes c.reserve.new.self c.args.write.now.0 c.reserve.ensures.rows (rw (← c.from_ref.ensures.value) e)) refl) c.reserve.ensures.ok

pub returns-in-Some-Quota-clause-here : goal.returns-in-Some-Quota-clause-here
returns-in-Some-Quota-clause-here c =
    let is : c.args.write.now.1 ≡ Some (row.Quota c.in-Some-Quota.field-0-0) = search rules in
    on_ok_weaker c.reserve-in-Some-Quota.result (λ e. placed_quota _ c.args.write.now c.in-Some-Quota.field-0-0 is (reserved_here c.args.tables.now.quotas c.reserve-in-Some-Quota.new.self c.args.write.now.0 c.reserve-in-Some-Quota.ensures.rows (rw (← c.from_ref-in-Some-Quota.ensures.value) e))) c.reserve-in-Some-Quota.ensures.ok

pub returns-in-Some-Quota-clause-others : goal.returns-in-Some-Quota-clause-others
returns-in-Some-Quota-clause-others c = on_ok_weaker c.reserve-in-Some-Quota.result (λ e. kept_quotas c.args.tables.now (record { inodes = c.args.tables.now.inodes; quotas = c.reserve-in-Some-Quota.new.self }) refl (reserved_others c.args.tables.now.quotas c.reserve-in-Some-Quota.new.self c.args.write.now.0 c.reserve-in-Some-Quota.ensures.rows (rw (← c.from_ref-in-Some-Quota.ensures.value) e))) c.reserve-in-Some-Quota.ensures.ok
