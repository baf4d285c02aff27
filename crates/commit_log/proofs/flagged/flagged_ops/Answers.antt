use Rattle.std.proofs.Common.{◌≡◌, ◌∙◌, rules}
use Rattle.std.specs.BTreeSet as sorted
use Rattle.hops_base.specs.declared.ids.OpId.{OpId}
use Rattle.commit_log.specs.Reads.{op_cmp, is_flagged}
use Rattle.commit_log.proofs.FlagMarkLemmas.{flagged_by_sifting}
use Rattle.commit_log.proofs.flagged.flagged_ops.Goals as goal

pub returns : goal.returns
returns c =
    let same : (op : OpId) → sorted.contains op_cmp c.in_ok-ops.ops op ≡ is_flagged c.args.notes.now op = λ op. c.in_ok-ops.ensures op ∙ flagged_by_sifting c.args.notes.now c.in_ok-marks.marks _ op c.in_ok-marks.ensures.marks (c.deref.ensures.value ∙ c.in_ok-marks.ensures.flags) in
    search rules
