use Rattle.std.proofs.Common.{◌≡◌, ◌≤◌, drop, map, take, length}
use Rattle.std.specs.List.{AllZip, enumerate_from}
use Rattle.hops_base.specs.First.{first_some}
use Rattle.serde_json.specs.View.{view}
use Rattle.script_text.specs.Faults.{client_fault}
use Rattle.script_text.specs.Grammar.{SaysClient}
use Rattle.script_text.proofs.read.clients_of.Given as goal

abbrev pub invariant-loop-at : goal.invariant-loop-at
invariant-loop-at l =
    record {
      said : AllZip SaysClient (map view (take l.at l.values)) l.clients.items;
      fault : first_some (map client_fault (enumerate_from l.at (map view (drop l.at l.values)))) ≡ first_some (map client_fault (enumerate_from 0 (map view l.values)));
      count : length l.clients.items ≡ l.at;
      room : length l.values ≤ l.clients.room;
    }
