use Rattle.std.proofs.Common.{◌≡◌, ◌++◌, map}
use Rattle.std.specs.List.{filter}
use Rattle.std.specs.Vec.Iter.{into_iter_items}
use Rattle.commit_log.specs.LockMarks.{is_lasting, lock_in}
use Rattle.commit_log.proofs.held.lasting_locks.Given as goal

abbrev pub invariant-loop-taken : goal.invariant-loop-taken
invariant-loop-taken l = l.locks.items ++ map lock_in (filter (is_lasting l.marks) (into_iter_items l.taken-iterator)) ≡ map lock_in (filter (is_lasting l.marks) l.fn.takings.items)
