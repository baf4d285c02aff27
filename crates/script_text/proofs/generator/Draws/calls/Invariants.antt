use Rattle.std.proofs.Common.{◌≡◌, ◌≤◌, ◌-◌, length}
use Rattle.script_text.specs.Generator.{any_call, times}
use Rattle.script_text.proofs.Generated.{WasDrawn}
use Rattle.script_text.proofs.generator.Draws.calls.Given as goal

abbrev pub invariant-loop : goal.invariant-loop
invariant-loop l =
    record {
      drawn : WasDrawn any_call (l.calls - l.counter) l.list.items l.self.state (times l.calls any_call l.initial.self.state);
      count : length l.list.items ≡ l.counter;
      room : l.calls ≤ l.list.room;
    }
