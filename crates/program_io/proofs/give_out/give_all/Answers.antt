use Rattle.program_io.proofs.Transfers.{HasGiven-next}
use Rattle.program_io.proofs.give_out.give_all.Goals as goal

pub loop-written-preserved : goal.loop-written-preserved
loop-written-preserved g c =
    let next = HasGiven-next c.args.text.now _ _ _ _ _ c.loop-written.invariant.given c.loop-written-test.true c.in-Took.ensures.answer.1 c.in-Took.ensures.answer.2 c.give.ensures.faults in
    record { given = next.0; within = next.1 }
