use Rattle.std.proofs.Common.{◌≡◌, ℕ, [], ◌∷◌, refl, subst, arith}
use Rattle.hops_base.specs.Key.{key_cmp}
use Rattle.commit_log.specs.Samples.{d_key}
use Rattle.db_state.specs.ReadSteps.{IsFoundAgain}
use Rattle.db_state.specs.ReadSamples.{d_row, x_row, x_key, with_id, rows}
use Rattle.db_state.proofs.MoveSampleLemmas.{again, not_again}
use Rattle.db_state.proofs.ReadSampleLemmas.{d_is, x_is}
use Rattle.db_state.proofs.move_examples.rows_are_read_again_one_by_one.Goals as goal

pub returns-clause-the_last : goal.returns-clause-the_last
unfolding key_cmp
returns-clause-the_last c = record { row = (d_key, d_row); left = refl; found = again _ _ _ (d_is d_row x_row); places = refl; quotas = refl; marks = (omega arith, tt) }

pub returns-clause-first_of_two : goal.returns-clause-first_of_two
unfolding key_cmp
returns-clause-first_of_two c = record { row = (x_key, x_row); left = refl; found = again _ _ _ (x_is d_row x_row); places = refl; quotas = refl; marks = (omega arith, tt) }

pub returns-clause-differs : goal.returns-clause-differs
unfolding key_cmp
returns-clause-differs c rereads =
    let left : (d_key, d_row) ∷ [] ≡ rereads.row ∷ [] = rereads.left in
    let one : rereads.row ≡ (d_key, d_row) = cc in
    let found : IsFoundAgain (rows (with_id 9 d_row) x_row) (d_key, d_row) = subst (IsFoundAgain (rows (with_id 9 d_row) x_row)) one rereads.found in
    let bad : ◌≡◌ {A = ℕ} 9 2 = not_again (rows (with_id 9 d_row) x_row) d_key d_row (with_id 9 d_row) (d_is (with_id 9 d_row) x_row) found in
    omega arith

pub returns-clause-above_differs : goal.returns-clause-above_differs
unfolding key_cmp
returns-clause-above_differs c = record { row = (x_key, x_row); left = refl; found = again _ _ _ (x_is (with_id 9 d_row) x_row); places = refl; quotas = refl; marks = (omega arith, tt) }
