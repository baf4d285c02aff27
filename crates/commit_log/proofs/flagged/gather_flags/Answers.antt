use Rattle.commit_log.proofs.FlagMarkLemmas.{flag_marks-next, flags-next}
use Rattle.commit_log.proofs.flagged.gather_flags.Goals as goal

pub loop-i-preserved : goal.loop-i-preserved
loop-i-preserved c = record {
  marks = flag_marks-next c.args.notes.now c.loop-i.i c.index-notes-i.result c.loop-i.marks _ c.loop-i-test.true c.index-notes-i.is c.loop-i.invariant.marks c.in_ok-mark_flag.ensures.ok c.in_ok-mark_reclaim.ensures.ok c.in_ok-mark_answer.ensures.ok;
  flags = flags-next c.args.notes.now c.loop-i.i c.index-notes-i.result c.loop-i.flags.items _ c.loop-i-test.true c.index-notes-i.is c.loop-i.invariant.flags c.in_ok-add_flag.ensures.ok;
}
