use Rattle.std.proofs.Common.{refl, ◌∷◌, []}
use Rattle.std.proofs.lemmas.List.Sorted.{IsPermutation-refl, IsPermutation-append_comm}
use Rattle.hops_base.specs.declared.ids.Mode.TheVariants.{Shared, Exclusive}
use Rattle.hops_base.specs.Key.{key_cmp}
use Rattle.row_locks.specs.Samples.{low, high}
use Rattle.row_locks.proofs.PlanLemmas.{plan_made}
use Rattle.row_locks.proofs.examples.exclusive_wins.Goals as goal

pub returns-clause-first : goal.returns-clause-first
unfolding key_cmp
returns-clause-first c = plan_made ((low, Exclusive) ∷ (low, Shared) ∷ []) ((low, Exclusive) ∷ (low, Shared) ∷ []) ((low, Exclusive) ∷ []) (IsPermutation-refl ((low, Exclusive) ∷ (low, Shared) ∷ [])) ((refl, tt), (tt, tt)) refl

pub returns-clause-last : goal.returns-clause-last
unfolding key_cmp
returns-clause-last c = plan_made ((low, Shared) ∷ (low, Exclusive) ∷ []) ((low, Shared) ∷ (low, Exclusive) ∷ []) ((low, Exclusive) ∷ []) (IsPermutation-refl ((low, Shared) ∷ (low, Exclusive) ∷ [])) ((refl, tt), (tt, tt)) refl

pub returns-clause-shared_wins : goal.returns-clause-shared_wins
unfolding key_cmp
returns-clause-shared_wins c = λ h. let bad = h.modes low in cc

pub returns-clause-raised : goal.returns-clause-raised
unfolding key_cmp
returns-clause-raised c = λ h. let bad = h.modes low in cc

pub returns-clause-of_another_key : goal.returns-clause-of_another_key
unfolding key_cmp
returns-clause-of_another_key c = plan_made ((high, Exclusive) ∷ (low, Shared) ∷ []) ((low, Shared) ∷ (high, Exclusive) ∷ []) ((low, Shared) ∷ (high, Exclusive) ∷ []) (IsPermutation-append_comm ((high, Exclusive) ∷ []) ((low, Shared) ∷ [])) ((refl, tt), (tt, tt)) refl

pub returns-clause-for_another_key : goal.returns-clause-for_another_key
unfolding key_cmp
returns-clause-for_another_key c = λ h. let bad = h.modes low in cc
