use Rattle.std.proofs.Common.{rules}
use Rattle.std.proofs.lemmas.List.Sorted.{answers_always}
use Rattle.row_locks.specs.Plans.{IsPlan}
use Rattle.row_locks.proofs.PlanLemmas.{is_below, weak, rises_sorted, joined_all, plan_made}
use Rattle.row_locks.proofs.plan.Plan.make.Goals as goal

made : (c : goal.After-dedup_by) → IsPlan c.args.wanted.items c.dedup_by.new.self.items
made c = plan_made c.args.wanted.items c.sort_unstable_by.new.self.items c.dedup_by.new.self.items c.sort_unstable_by.ensures.permutation
    (rises_sorted _ (c.sort_unstable_by.ensures.sorted is_below weak (answers_always _ _ _ (λ f a r q k. search rules))))
    (joined_all _ (λ s x k b t x' k' r. search rules) _ _ _ c.dedup_by.ensures.filtered)

pub invariant_of-result : goal.invariant_of-result
invariant_of-result c = (made c).rising

pub returns : goal.returns
returns c = made c
