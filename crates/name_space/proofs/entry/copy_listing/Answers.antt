use Rattle.std.proofs.Common.{◌<◌, ◌≤◌, length, arith, length-take}
use Rattle.name_space.proofs.entry.copy_listing.Goals as goal

pub push-requires : goal.push-requires
push-requires c =
    let all : length c.as_slice-listed-items.result.now ≤ c.args.listing.now.room = rw c.as_slice-listed-items.ensures.items c.as_slice-listed-items.ensures.room in
    let here : c.loop-listed.listed-index < length c.as_slice-listed-items.result.now = c.loop-listed-test.true in
    rw c.loop-listed.invariant (rw length-take (omega arith))
