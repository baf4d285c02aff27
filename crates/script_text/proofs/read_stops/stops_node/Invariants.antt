use Rattle.std.proofs.Common.{◌≡◌, drop, map}
use Rattle.std.specs.List.{list_any}
use Rattle.script_text.specs.Form.{stop_data}
use Rattle.script_text.specs.Faults.{stops_node}
use Rattle.script_text.proofs.read_stops.stops_node.Given as goal

abbrev pub invariant-loop-other : goal.invariant-loop-other
invariant-loop-other l = list_any (stops_node l.node) (map stop_data (drop l.other-index l.stops)) ≡ list_any (stops_node l.node) (map stop_data l.stops)
