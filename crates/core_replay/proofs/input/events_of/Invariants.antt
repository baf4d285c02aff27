use Rattle.std.proofs.Common.{◌≡◌, ◌≤◌, map, take, length}
use Rattle.std.specs.List.{AllZip}
use Rattle.serde_json.specs.View.{view}
use Rattle.core_replay.specs.Input.{SaysEvent}
use Rattle.core_replay.proofs.input.events_of.Given as goal

abbrev pub invariant-loop-at : goal.invariant-loop-at
invariant-loop-at l =
    record {
      said : AllZip SaysEvent (map view (take l.at l.values)) l.events.items;
      count : length l.events.items ≡ l.at;
      room : length l.values ≤ l.events.room;
    }
