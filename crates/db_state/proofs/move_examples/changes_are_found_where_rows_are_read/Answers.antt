use Rattle.std.proofs.Common.{◌≡◌, ℕ, Some, None, is_some, refl, sym, ap, ◌∙◌, arith}
use Rattle.std.specs.FinMap as map
use Rattle.hops_base.specs.Key.{key_cmp}
use Rattle.commit_log.specs.Samples.{d_key}
use Rattle.db_state.specs.ReadSamples.{d_row, x_row, x_key, with_id, with_quota, names_for_d, rows}
use Rattle.db_state.specs.CoreSamples.{d_quota}
use Rattle.db_state.proofs.MoveSampleLemmas.{again, not_again}
use Rattle.db_state.proofs.ReadSampleLemmas.{d_is, x_is, x_gone, quota_is}
use Rattle.db_state.proofs.move_examples.changes_are_found_where_rows_are_read.Goals as goal

pub returns-clause-under_locks : goal.returns-clause-under_locks
unfolding key_cmp
returns-clause-under_locks c = (
  ((λ lock. absurd (let bad = lock in cc)), ((λ lock. absurd (let bad = lock in cc)), ((λ lock. again _ _ _ (x_is d_row x_row)), tt))),
  ((λ has. absurd (let bad = has in cc)), ((λ has. absurd (let bad = has in cc)), ((λ has. absurd (let bad = has in cc)), tt))),
  tt,
)

pub returns-clause-not_locked : goal.returns-clause-not_locked
unfolding key_cmp
returns-clause-not_locked c = (
  ((λ lock. absurd (let bad = lock in cc)), ((λ lock. absurd (let bad = lock in cc)), ((λ lock. again _ _ _ (x_is (with_id 9 d_row) x_row)), tt))),
  ((λ has. absurd (let bad = has in cc)), ((λ has. absurd (let bad = has in cc)), ((λ has. absurd (let bad = has in cc)), tt))),
  tt,
)

pub returns-clause-locked_differs : goal.returns-clause-locked_differs
unfolding key_cmp
returns-clause-locked_differs c read =
    let bad : ◌≡◌ {A = ℕ} 9 3 = not_again (rows d_row (with_id 9 x_row)) x_key x_row (with_id 9 x_row) (x_is d_row (with_id 9 x_row)) (read.0.1.1.0 refl) in
    omega arith

pub returns-clause-is_there_now : goal.returns-clause-is_there_now
returns-clause-is_there_now c read = let bad : Some x_row ≡ None = sym (x_is d_row x_row) ∙ read.2.0 in cc

pub returns-clause-no_quota_row : goal.returns-clause-no_quota_row
unfolding key_cmp
returns-clause-no_quota_row c read =
    let there = read.1.1.0 refl refl in
    let bad = sym there ∙ ap is_some (map.get-empty key_cmp d_quota) in
    cc

pub returns-clause-next_differs : goal.returns-clause-next_differs
unfolding key_cmp
returns-clause-next_differs c read =
    let bad : ◌≡◌ {A = ℕ} 9 2 = not_again (rows (with_id 9 d_row) x_row) d_key d_row (with_id 9 d_row) (d_is (with_id 9 d_row) x_row) read in
    omega arith

pub returns-clause-above_differs : goal.returns-clause-above_differs
unfolding key_cmp
returns-clause-above_differs c = again _ _ _ (x_is (with_id 9 d_row) x_row)

pub returns-clause-is_missing_still : goal.returns-clause-is_missing_still
unfolding key_cmp
returns-clause-is_missing_still c = (
  ((λ lock. absurd (let bad = lock in cc)), ((λ lock. absurd (let bad = lock in cc)), tt)),
  ((λ has. absurd (let bad = has in cc)), ((λ has. absurd (let bad = has in cc)), tt)),
  (x_gone d_row, tt),
)

pub returns-clause-has_its_quota_row : goal.returns-clause-has_its_quota_row
unfolding key_cmp
returns-clause-has_its_quota_row c = (
  ((λ lock. absurd (let bad = lock in cc)), ((λ lock. absurd (let bad = lock in cc)), ((λ lock. absurd (let bad = lock in cc)), tt))),
  ((λ has. absurd (let bad = has in cc)), ((λ has lock. ap is_some (quota_is (names_for_d 8).1)), ((λ has. absurd (let bad = has in cc)), tt))),
  tt,
)

pub returns-clause-quota_not_locked : goal.returns-clause-quota_not_locked
unfolding key_cmp
returns-clause-quota_not_locked c = (
  ((λ lock. absurd (let bad = lock in cc)), ((λ lock. absurd (let bad = lock in cc)), ((λ lock. again _ _ _ (x_is (with_quota d_row) x_row)), tt))),
  ((λ has. absurd (let bad = has in cc)), ((λ has lock. absurd (let bad = lock in cc)), ((λ has. absurd (let bad = has in cc)), tt))),
  tt,
)

pub returns-clause-next_as_found : goal.returns-clause-next_as_found
unfolding key_cmp
returns-clause-next_as_found c = again _ _ _ (d_is d_row (with_id 9 x_row))

pub returns-clause-locked_is_gone : goal.returns-clause-locked_is_gone
unfolding key_cmp
returns-clause-locked_is_gone c read =
    let found = read.0.1.1.0 refl in
    let bad : None ≡ Some found.now = sym (x_gone d_row) ∙ found.there in
    cc
