use Rattle.std.proofs.Common.{◌≡◌, map, take}
use Rattle.std.specs.List.{filter_map}
use Rattle.commit_log.specs.Parts.{flagged}
use Rattle.commit_log.specs.FlagMarks.{IsFlagMarks, op_and_session}
use Rattle.commit_log.proofs.flagged.gather_flags.Given as goal

abbrev pub invariant-loop-i : goal.invariant-loop-i
invariant-loop-i l = record {
  marks : IsFlagMarks (take l.i l.notes) l.marks;
  flags : l.flags.items ≡ map op_and_session (filter_map flagged (take l.i l.notes));
}
