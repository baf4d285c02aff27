use Rattle.std.proofs.Common.{refl, sym, ◌∙◌, ◌∷◌, [], true, false, ◌≡◌}
use Rattle.hops_base.specs.declared.ids.Mode.TheVariants.{Shared}
use Rattle.hops_base.specs.Key.{key_cmp}
use Rattle.row_locks.specs.Samples.{session, low, one_shares, two_share, one_alone}
use Rattle.row_locks.proofs.SampleLemmas.{away_is, free_of, least_of, same_modes}
use Rattle.row_locks.proofs.examples.a_refusal_changes_nothing.Goals as goal

pub returns-clause-busy : goal.returns-clause-busy
unfolding key_cmp
returns-clause-busy c = (least_of one_alone (session 2) low Shared (session 1) refl refl, refl)

pub returns-clause-busy_and_added : goal.returns-clause-busy_and_added
unfolding key_cmp
returns-clause-busy_and_added c = λ h. let bad = same_modes ((2, low, Shared) ∷ one_alone) one_alone (session 2) low h.1 in cc

pub returns-clause-busy_and_taken : goal.returns-clause-busy_and_taken
unfolding key_cmp
returns-clause-busy_and_taken c = λ h. let bad = same_modes [] one_alone (session 1) low h.1 in cc

pub returns-clause-no_memory : goal.returns-clause-no_memory
unfolding key_cmp
returns-clause-no_memory c = (free_of one_shares (session 2) low Shared refl, refl)

pub returns-clause-no_memory_and_added : goal.returns-clause-no_memory_and_added
unfolding key_cmp
returns-clause-no_memory_and_added c = λ h. let bad = same_modes two_share one_shares (session 2) low h.1 in cc

pub returns-clause-hidden : goal.returns-clause-hidden
unfolding key_cmp
returns-clause-hidden c = λ h. let bad : true ≡ false = sym (away_is one_alone (session 2) low Shared (session 1)) ∙ h.0 (session 1) in cc
