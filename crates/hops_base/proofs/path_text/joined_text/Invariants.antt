use Rattle.std.proofs.Common.{◌≡◌, take, string_bytes}
use Rattle.hops_base.specs.Path.{joined}
use Rattle.hops_base.proofs.path_text.joined_text.Given as goal

abbrev pub invariant-loop-name : goal.invariant-loop-name
invariant-loop-name l = string_bytes l.text ≡ joined (take l.name-index l.names)
