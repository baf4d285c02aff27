use Rattle.std.proofs.Common.{◌≡◌, ◌++◌, take, drop}
use Rattle.chain_check.specs.Passing.{lowest}
use Rattle.chain_check.proofs.passing.lower_all.Given as goal

abbrev pub invariant-loop-mark : goal.invariant-loop-mark
invariant-loop-mark l = l.mark-items ≡ lowest (take l.mark-index l.fn.reads.marks) ++ drop l.mark-index l.fn.reads.marks
