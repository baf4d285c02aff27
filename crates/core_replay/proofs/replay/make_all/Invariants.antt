use Rattle.std.proofs.Common.{take}
use Rattle.core_replay.specs.Parts.{AreTold}
use Rattle.core_replay.proofs.replay.make_all.Given as goal

abbrev pub invariant-loop-place : goal.invariant-loop-place
invariant-loop-place l = AreTold l.script l.initial.core (take l.place l.events) l.core l.text.items
