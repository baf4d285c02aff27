use Rattle.std.proofs.Common.{◌+◌, ◌-◌, ◌≤◌, length, vec_len}
use Rattle.program_io.specs.Transfer.{HasTaken}
use Rattle.program_io.proofs.take_in.take_all.Given as goal

abbrev pub invariant-loop-bytes : goal.invariant-loop-bytes
invariant-loop-bytes g l = record {
  taken : HasTaken l.bytes.items (g.S.Source.stock l.initial.source) (g.S.Source.stock l.source);
  few : length l.bytes.items ≤ l.limit + 1;
}

abbrev pub decreases-loop-bytes : goal.decreases-loop-bytes
decreases-loop-bytes g l = l.limit + 1 - vec_len l.bytes
