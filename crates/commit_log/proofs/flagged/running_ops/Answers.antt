use Rattle.commit_log.proofs.FlagMarkLemmas.{running-next}
use Rattle.commit_log.proofs.flagged.running_ops.Goals as goal

pub loop-flag-preserved : goal.loop-flag-preserved
loop-flag-preserved c = λ op. running-next c.args.marks.now c.args.flags.now c.loop-flag.flag-index _ op _ _ c.loop-flag-test.true (c.loop-flag.invariant op) (c.in_ok-add_running.ensures.ok op)
