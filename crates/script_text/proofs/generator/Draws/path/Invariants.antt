use Rattle.std.proofs.Common.{◌-◌}
use Rattle.script_text.specs.Generator.{any_name, times}
use Rattle.script_text.proofs.Generated.{WasDrawn}
use Rattle.script_text.proofs.generator.Draws.path.Given as goal

abbrev pub invariant-loop : goal.invariant-loop
invariant-loop l = WasDrawn any_name (l.names - l.counter) l.path l.self.state (times l.names any_name l.initial.self.state)
