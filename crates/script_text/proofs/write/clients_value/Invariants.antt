use Rattle.std.proofs.Common.{◌≡◌, map, take}
use Rattle.script_text.specs.Built.{data_in}
use Rattle.script_text.specs.Form.{client_data}
use Rattle.script_text.proofs.write.clients_value.Given as goal

abbrev pub invariant-loop-client : goal.invariant-loop-client
invariant-loop-client l = data_in l.row ≡ map client_data (take l.client-index l.clients)
