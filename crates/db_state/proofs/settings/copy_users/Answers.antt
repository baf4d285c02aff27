use Rattle.std.proofs.Common.{◌<◌, ◌≤◌, length, arith, length-take}
use Rattle.db_state.proofs.settings.copy_users.Goals as goal

pub push-requires : goal.push-requires
push-requires c =
    let all : length c.as_slice-user-items.result.now ≤ c.args.users.now.room = rw c.as_slice-user-items.ensures.items c.as_slice-user-items.ensures.room in
    let here : c.loop-user.user-index < length c.as_slice-user-items.result.now = c.loop-user-test.true in
    rw c.loop-user.invariant (rw length-take (omega arith))
