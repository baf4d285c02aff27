use Rattle.std.proofs.Common.{◌≡◌, ◌<◌, List, ℕ, length, ap, subst, ◌∙◌}
use Rattle.db_state.specs.Reads.{Reads}
use Rattle.chain_check.proofs.MarkLaws.{lowest_more}
use Rattle.chain_check.proofs.passing.lower_all.Goals as goal

pub loop-mark-preserved : goal.loop-mark-preserved
loop-mark-preserved c =
    let marks : c.deref_mut-mark-items.result.now ≡ c.args.reads.now.marks = c.deref_mut-mark-items.ensures.value ∙ ap (λ (r : Reads). r.marks) c.reads.view_is in
    lowest_more c.args.reads.now.marks c.loop-mark.mark-items c.loop-mark.mark-index c.min.result (subst (λ (l : List ℕ). c.loop-mark.mark-index < length l) marks c.loop-mark-test.true) c.loop-mark.invariant c.min.ensures
