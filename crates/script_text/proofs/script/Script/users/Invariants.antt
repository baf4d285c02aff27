use Rattle.std.proofs.Common.{◌≡◌, ◌≤◌, length, map, take}
use Rattle.name_space.specs.Script.{ClientCalls}
use Rattle.script_text.proofs.script.Script.users.Given as goal

abbrev pub invariant-loop-client : goal.invariant-loop-client
invariant-loop-client l = (l.users.items ≡ map (λ (c : ClientCalls). c.user) (take l.client-index l.self.clients)) × (length l.self.clients ≤ l.users.room)
