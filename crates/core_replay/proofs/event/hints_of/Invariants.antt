use Rattle.std.proofs.Common.{◌≡◌, ◌≤◌, map, take, length}
use Rattle.std.specs.List.{AllZip}
use Rattle.serde_json.specs.View.{view}
use Rattle.core_replay.proofs.ReadLists.{SaysHint}
use Rattle.core_replay.proofs.event.hints_of.Given as goal

abbrev pub invariant-loop-value : goal.invariant-loop-value
invariant-loop-value l =
    record {
      said : AllZip SaysHint (map view (take l.value-index l.values)) l.hints.items;
      count : length l.hints.items ≡ l.value-index;
      room : length l.values ≤ l.hints.room;
    }
