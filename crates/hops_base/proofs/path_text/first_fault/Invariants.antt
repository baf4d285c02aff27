use Rattle.std.proofs.Common.{◌≡◌, drop, map}
use Rattle.hops_base.specs.Path.{names_fault}
use Rattle.hops_base.proofs.path_text.first_fault.Given as goal

abbrev pub invariant-loop-i : goal.invariant-loop-i
invariant-loop-i l = names_fault l.i (map (λ name. name.now) (drop l.i l.names)) ≡ names_fault 0 (map (λ name. name.now) l.names)
