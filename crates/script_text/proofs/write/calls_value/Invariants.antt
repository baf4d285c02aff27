use Rattle.std.proofs.Common.{◌≡◌, map, take}
use Rattle.script_text.specs.Built.{data_in}
use Rattle.script_text.specs.Form.{call_data}
use Rattle.script_text.proofs.write.calls_value.Given as goal

abbrev pub invariant-loop-call : goal.invariant-loop-call
invariant-loop-call l = data_in l.row ≡ map call_data (take l.call-index l.calls)
