use Rattle.std.proofs.Common.{refl, ◌∷◌, []}
use Rattle.std.specs.List.Sorted.{IsStrictlySortedBy}
use Rattle.std.proofs.lemmas.List.Sorted.{IsPermutation-refl, IsPermutation-append_comm}
use Rattle.hops_base.specs.declared.ids.Mode.TheVariants.{Shared}
use Rattle.hops_base.specs.Key.{key_cmp}
use Rattle.row_locks.specs.Samples.{low, high}
use Rattle.row_locks.proofs.PlanLemmas.{plan_made}
use Rattle.row_locks.proofs.examples.a_plan_rises.Goals as goal

pub returns-clause-empty : goal.returns-clause-empty
unfolding key_cmp IsStrictlySortedBy
returns-clause-empty c = plan_made [] [] [] (IsPermutation-refl []) tt refl

pub returns-clause-rising : goal.returns-clause-rising
unfolding key_cmp IsStrictlySortedBy
returns-clause-rising c = plan_made ((high, Shared) ∷ (low, Shared) ∷ []) ((low, Shared) ∷ (high, Shared) ∷ []) ((low, Shared) ∷ (high, Shared) ∷ []) (IsPermutation-append_comm ((high, Shared) ∷ []) ((low, Shared) ∷ [])) ((refl, tt), (tt, tt)) refl

pub returns-clause-in_source_order : goal.returns-clause-in_source_order
unfolding key_cmp IsStrictlySortedBy
returns-clause-in_source_order c = λ h. let bad = h.rising.0.0 in cc

pub returns-clause-joined : goal.returns-clause-joined
unfolding key_cmp IsStrictlySortedBy
returns-clause-joined c = plan_made ((low, Shared) ∷ (low, Shared) ∷ []) ((low, Shared) ∷ (low, Shared) ∷ []) ((low, Shared) ∷ []) (IsPermutation-refl ((low, Shared) ∷ (low, Shared) ∷ [])) ((refl, tt), (tt, tt)) refl

pub returns-clause-twice : goal.returns-clause-twice
unfolding key_cmp IsStrictlySortedBy
returns-clause-twice c = λ h. let bad = h.rising.0.0 in cc

pub returns-clause-forgotten : goal.returns-clause-forgotten
unfolding key_cmp IsStrictlySortedBy
returns-clause-forgotten c = λ h. let bad = h.modes high in cc

pub returns-clause-not_wanted : goal.returns-clause-not_wanted
unfolding key_cmp IsStrictlySortedBy
returns-clause-not_wanted c = λ h. let bad = h.modes high in cc
