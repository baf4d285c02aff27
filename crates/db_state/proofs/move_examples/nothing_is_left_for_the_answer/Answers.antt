use Rattle.std.proofs.Common.{refl, arith}
use Rattle.hops_base.specs.Key.{key_cmp}
use Rattle.commit_log.specs.Samples.{d_key}
use Rattle.db_state.specs.ReadSamples.{d_row, x_row, x_key}
use Rattle.db_state.proofs.MoveSampleLemmas.{again}
use Rattle.db_state.proofs.ReadSampleLemmas.{d_is, x_is}
use Rattle.db_state.proofs.move_examples.nothing_is_left_for_the_answer.Goals as goal

pub returns-clause-done : goal.returns-clause-done
unfolding key_cmp
returns-clause-done c = (record { row = (d_key, d_row); left = refl; found = again _ _ _ (d_is d_row x_row); places = refl; quotas = refl; marks = (omega arith, tt) }, refl, refl)

pub returns-clause-one_of_two : goal.returns-clause-one_of_two
unfolding key_cmp
returns-clause-one_of_two c = (record { row = (x_key, x_row); left = refl; found = again _ _ _ (x_is d_row x_row); places = refl; quotas = refl; marks = (omega arith, tt) }, (λ none. let bad = none in cc), refl)
