use Rattle.commit_log.proofs.LockMarkLemmas.{lock_marks-next, takings-next}
use Rattle.commit_log.proofs.held.gather_locks.Goals as goal

pub loop-i-preserved : goal.loop-i-preserved
loop-i-preserved c = record {
  marks = lock_marks-next c.args.notes.now c.loop-i.i c.index-notes-i.result c.loop-i.marks _ c.loop-i-test.true c.index-notes-i.is c.loop-i.invariant.marks c.in_ok-mark_opening.ensures.ok c.in_ok-mark_giving.ensures.ok c.in_ok-mark_loss.ensures.ok;
  takings = takings-next c.args.notes.now c.loop-i.i c.index-notes-i.result c.loop-i.takings.items _ c.loop-i-test.true c.index-notes-i.is c.loop-i.invariant.takings c.in_ok-add_taken.ensures.ok;
}
