use Rattle.std.proofs.Common.{◌≡◌, map, take}
use Rattle.script_text.specs.Built.{data_in}
use Rattle.script_text.specs.Form.{stop_data}
use Rattle.script_text.proofs.write.stops_value.Given as goal

abbrev pub invariant-loop-node : goal.invariant-loop-node
invariant-loop-node l = data_in l.row ≡ map stop_data (take l.node-index l.stops)
