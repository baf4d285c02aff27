use Rattle.std.proofs.Common.{◌≡◌, ◌≤◌, drop, map, take, length}
use Rattle.serde_json.specs.View.{view}
use Rattle.script_text.specs.Form.{stop_data}
use Rattle.script_text.proofs.Reading.{find_bad}
use Rattle.script_text.proofs.read_stops.stops_of.Given as goal

abbrev pub invariant-loop-at : goal.invariant-loop-at
invariant-loop-at l =
    record {
      said : map view (take l.at l.values) ≡ map stop_data l.stops.items;
      fault : find_bad l.namenodes (map view l.values) l.at (map view (drop l.at l.values)) ≡ find_bad l.namenodes (map view l.values) 0 (map view l.values);
      count : length l.stops.items ≡ l.at;
      room : length l.values ≤ l.stops.room;
    }
