use Rattle.std.proofs.Common.{◌≡◌, take}
use Rattle.commit_log.specs.Reads.{journal}
use Rattle.commit_log.proofs.journal.history_of.Given as goal

abbrev pub invariant-loop-i : goal.invariant-loop-i
invariant-loop-i l = l.numbers.items ≡ journal (take l.i l.notes)
