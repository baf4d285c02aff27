use Rattle.std.proofs.Common.{◌≡◌, drop, map, bytes_eq}
use Rattle.std.specs.List.{list_any}
use Rattle.script_text.proofs.members.is_among.Given as goal

abbrev pub invariant-loop-one : goal.invariant-loop-one
invariant-loop-one l = list_any (bytes_eq l.key) (map (λ k. k.now) (drop l.one-index l.known)) ≡ list_any (bytes_eq l.key) (map (λ k. k.now) l.known)
