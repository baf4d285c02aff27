use Rattle.std.specs.Vec.Iter.{into_iter_items}
use Rattle.commit_log.proofs.LockMarkLemmas.{lasting-next}
use Rattle.commit_log.proofs.held.lasting_locks.Goals as goal

pub loop-taken-preserved : goal.loop-taken-preserved
loop-taken-preserved c = lasting-next c.args.marks.now c.in-Some.taken (into_iter_items c.loop-taken.taken-iterator) (into_iter_items c.next.new.self) c.loop-taken.locks.items _ _ c.in-Some.ensures.steps.0 c.loop-taken.invariant c.in_ok-add_lasting.ensures.ok
