use Rattle.std.proofs.Common.{◌≡◌, take}
use Rattle.commit_log.specs.LockMarks.{IsLockMarks, taken_from}
use Rattle.commit_log.proofs.held.gather_locks.Given as goal

abbrev pub invariant-loop-i : goal.invariant-loop-i
invariant-loop-i l = record {
  marks : IsLockMarks (take l.i l.notes) l.marks;
  takings : l.takings.items ≡ taken_from 0 (take l.i l.notes);
}
