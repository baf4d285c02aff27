use Rattle.std.proofs.Common.{◌≡◌, take}
use Rattle.std.specs.List.{list_any}
use Rattle.std.specs.BTreeSet as sorted
use Rattle.hops_base.specs.declared.ids.OpId.{OpId}
use Rattle.commit_log.specs.Reads.{op_cmp}
use Rattle.commit_log.specs.FlagMarks.{runs_as}
use Rattle.commit_log.proofs.flagged.running_ops.Given as goal

abbrev pub invariant-loop-flag : goal.invariant-loop-flag
invariant-loop-flag l = (op : OpId) → sorted.contains op_cmp l.ops op ≡ list_any (runs_as l.marks op) (take l.flag-index l.flags)
