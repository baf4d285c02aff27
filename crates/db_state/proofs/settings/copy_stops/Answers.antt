use Rattle.std.proofs.Common.{◌<◌, ◌≤◌, length, arith, length-take}
use Rattle.db_state.proofs.settings.copy_stops.Goals as goal

pub push-requires : goal.push-requires
push-requires c =
    let all : length c.as_slice-stop-items.result.now ≤ c.args.stops.now.room = rw c.as_slice-stop-items.ensures.items c.as_slice-stop-items.ensures.room in
    let here : c.loop-stop.stop-index < length c.as_slice-stop-items.result.now = c.loop-stop-test.true in
    rw c.loop-stop.invariant (rw length-take (omega arith))
