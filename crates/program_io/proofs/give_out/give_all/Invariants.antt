use Rattle.std.proofs.Common.{◌-◌, ◌≤◌, length, take}
use Rattle.program_io.specs.Transfer.{HasGiven}
use Rattle.program_io.proofs.give_out.give_all.Given as goal

abbrev pub invariant-loop-written : goal.invariant-loop-written
invariant-loop-written g l = record {
  given : HasGiven (take l.written l.text) (g.W.Sink.store l.initial.sink) (g.W.Sink.store l.sink);
  within : l.written ≤ length l.text;
}

abbrev pub decreases-loop-written : goal.decreases-loop-written
decreases-loop-written g l = length l.text - l.written
