use Rattle.core_replay.proofs.ReplayLaws.{one_more_told}
use Rattle.core_replay.proofs.replay.make_all.Goals as goal

pub loop-place-preserved : goal.loop-place-preserved
loop-place-preserved c =
    one_more_told c.args.script.now c.args.core.now c.loop-place.core c.make_one.new.core c.args.events.now c.loop-place.place c.index-events-place.result c.loop-place.text.items c.make_one.new.text.items
    c.loop-place-test.true c.index-events-place.is c.requires.new c.loop-place.invariant c.in_ok-make_one.ensures
