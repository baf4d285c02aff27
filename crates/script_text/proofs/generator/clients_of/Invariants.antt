use Rattle.std.proofs.Common.{◌≡◌, ◌≤◌, map, length}
use Rattle.std.specs.List.{range_with_len}
use Rattle.script_text.specs.Generator.{client_generated}
use Rattle.script_text.proofs.generator.clients_of.Given as goal

abbrev pub invariant-loop-client : goal.invariant-loop-client
invariant-loop-client l =
    record {
      made : l.list.items ≡ map (client_generated l.seed l.calls) (range_with_len 0 l.client);
      count : length l.list.items ≡ l.client;
      room : l.clients ≤ l.list.room;
    }
