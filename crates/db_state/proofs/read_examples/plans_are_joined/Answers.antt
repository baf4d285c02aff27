use Rattle.std.proofs.Common.{◌≡◌, true, false}
use Rattle.hops_base.specs.Key.{key_cmp}
use Rattle.db_state.specs.ReadSamples.{d_key, x_key}
use Rattle.db_state.proofs.read_examples.plans_are_joined.Goals as goal

pub returns-clause-shared_only : goal.returns-clause-shared_only
unfolding key_cmp
returns-clause-shared_only c joined = let bad : true ≡ false = joined.own d_key in cc

pub returns-clause-one_left_out : goal.returns-clause-one_left_out
unfolding key_cmp
returns-clause-one_left_out c joined = let bad : true ≡ false = joined.any x_key in cc

pub returns-clause-one_more : goal.returns-clause-one_more
unfolding key_cmp
returns-clause-one_more c joined = let bad : false ≡ true = joined.any x_key in cc
