use Rattle.std.proofs.Common.{◌≡◌, ◌≤◌, ◌*◌, take, length}
use Rattle.hops_base.specs.Path.{joined}
use Rattle.hops_base.proofs.path.text_len.Given as goal

abbrev pub invariant-loop-name : goal.invariant-loop-name
invariant-loop-name l = record { counted : l.len ≡ length (joined (take l.name-index l.names)); few : l.len ≤ 256 * l.name-index }
