use Rattle.std.proofs.Common.{◌≡◌, ℕ, true, false, refl, ap, arith}
use Rattle.hops_base.specs.Key.{key_cmp}
use Rattle.hops_base.specs.declared.ids.InodeId.{InodeId}
use Rattle.db_state.specs.ReadSamples.{d_key, x_key, d_row, x_row, with_id, as_file, with_mode, with_quota, rows}
use Rattle.db_state.proofs.ReadSampleLemmas.{d_is, x_is, d_gone, is_there, is_changed, not_there, there_now, stands_whole}
use Rattle.db_state.proofs.read_examples.rows_from_the_mark_on_stay.Goals as goal

pub returns-clause-gone : goal.returns-clause-gone
returns-clause-gone c stand = not_there _ _ d_key d_row (d_gone x_row) stand.chains.0.part.0

pub returns-clause-another : goal.returns-clause-another
returns-clause-another c stand = let bad : ◌≡◌ {A = ℕ} 7 2 = ap (λ (i : InodeId). i.0) (there_now _ _ d_key d_row (with_id 7 d_row) (d_is (with_id 7 d_row) x_row) stand.chains.0.part.0).0 in omega arith

pub returns-clause-a_file : goal.returns-clause-a_file
returns-clause-a_file c stand = let bad = (there_now _ _ d_key d_row (as_file d_row) (d_is (as_file d_row) x_row) stand.chains.0.part.0).1 in cc

pub returns-clause-more_quota : goal.returns-clause-more_quota
returns-clause-more_quota c stand = let bad : false ≡ true = (there_now _ _ d_key d_row (with_quota d_row) (d_is (with_quota d_row) x_row) stand.chains.0.part.0).2 refl in cc

pub returns-clause-less_quota : goal.returns-clause-less_quota
unfolding key_cmp
returns-clause-less_quota c = stands_whole (rows d_row x_row) 1 (with_quota d_row) x_row (omega arith)
    (is_changed _ _ d_key (with_quota d_row) d_row (d_is d_row x_row) refl refl refl (λ has. refl), (is_there _ _ x_key x_row (x_is d_row x_row), tt)) (x_is d_row x_row)

pub returns-clause-another_mode : goal.returns-clause-another_mode
unfolding key_cmp
returns-clause-another_mode c = stands_whole (rows (with_mode 448 d_row) x_row) 1 d_row x_row (omega arith)
    (is_changed _ _ d_key d_row (with_mode 448 d_row) (d_is (with_mode 448 d_row) x_row) refl refl refl (λ has. has), (is_there _ _ x_key x_row (x_is (with_mode 448 d_row) x_row), tt))
    (x_is (with_mode 448 d_row) x_row)
