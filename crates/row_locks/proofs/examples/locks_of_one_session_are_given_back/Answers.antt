use Rattle.std.proofs.Common.{refl, ◌∷◌, []}
use Rattle.hops_base.specs.declared.ids.Mode.TheVariants.{Shared}
use Rattle.hops_base.specs.Key.{key_cmp}
use Rattle.row_locks.specs.Samples.{session, low, high, two_share, two_keys}
use Rattle.row_locks.proofs.SampleLemmas.{given_of, given_modes}
use Rattle.row_locks.proofs.examples.locks_of_one_session_are_given_back.Goals as goal

pub returns-clause-all : goal.returns-clause-all
unfolding key_cmp
returns-clause-all c = given_of two_keys ((2, low, Shared) ∷ []) (session 1) refl

pub returns-clause-none : goal.returns-clause-none
unfolding key_cmp
returns-clause-none c = given_of two_keys two_keys (session 3) refl

pub returns-clause-one_is_left : goal.returns-clause-one_is_left
unfolding key_cmp
returns-clause-one_is_left c = λ h. let bad = given_modes two_keys two_share (session 1) (session 1) low h in cc

pub returns-clause-another_is_lost : goal.returns-clause-another_is_lost
unfolding key_cmp
returns-clause-another_is_lost c = λ h. let bad = given_modes two_keys [] (session 1) (session 2) low h in cc

pub returns-clause-of_another : goal.returns-clause-of_another
unfolding key_cmp
returns-clause-of_another c = λ h. let bad = given_modes two_keys ((2, low, Shared) ∷ []) (session 2) (session 1) high h in cc
