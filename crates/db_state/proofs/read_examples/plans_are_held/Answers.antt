use Rattle.std.proofs.Common.{◌≡◌, true, false, refl}
use Rattle.hops_base.specs.Key.{key_cmp}
use Rattle.db_state.specs.ReadSamples.{d_key}
use Rattle.db_state.proofs.read_examples.plans_are_held.Goals as goal

pub returns-clause-shared_only : goal.returns-clause-shared_only
unfolding key_cmp
returns-clause-shared_only c held = let bad : false ≡ true = held.own d_key refl in cc

pub returns-clause-by_another : goal.returns-clause-by_another
unfolding key_cmp
returns-clause-by_another c held = let bad : false ≡ true = held.any d_key refl in cc

pub returns-clause-another_key : goal.returns-clause-another_key
unfolding key_cmp
returns-clause-another_key c held = let bad : false ≡ true = held.any d_key refl in cc
