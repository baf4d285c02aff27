use Rattle.std.proofs.Common.{◌≡◌, ◌≤◌, ◌+◌, drop, map, take, length}
use Rattle.std.specs.List.{AllZip, enumerate_from}
use Rattle.hops_base.specs.First.{first_some}
use Rattle.serde_json.specs.View.{view}
use Rattle.script_text.specs.Faults.{call_fault}
use Rattle.script_text.specs.Grammar.{SaysCall}
use Rattle.script_text.proofs.read.calls_of.Given as goal

abbrev pub invariant-loop-i : goal.invariant-loop-i
invariant-loop-i l =
    record {
      said : AllZip SaysCall (map view (take l.i l.values)) l.calls.items;
      fault : first_some (map (call_fault l.at) (enumerate_from (l.i + 1) (map view (drop l.i l.values)))) ≡ first_some (map (call_fault l.at) (enumerate_from 1 (map view l.values)));
      count : length l.calls.items ≡ l.i;
      room : length l.values ≤ l.calls.room;
    }
