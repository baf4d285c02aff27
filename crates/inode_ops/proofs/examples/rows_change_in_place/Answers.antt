use Rattle.std.proofs.Common.{◌≡◌, codes, None, inl, inr, refl, arith}
use Rattle.std.specs.FinMap as map
use Rattle.db_state.proofs.EffectLaws.{keeps_all, keeps_changed, keeps_put}
use Rattle.inode_ops.specs.ChmodSteps.{row_with_mode}
use Rattle.inode_ops.specs.Examples.{dir, file, as_dir, with_quota, d, d_f, d_q, rows, locked}
use Rattle.inode_ops.proofs.ExampleLemmas.{at_d, at_d_f, at_d_q, put_there, owns_d, was_not, refused_row}
use Rattle.inode_ops.proofs.examples.rows_change_in_place.Goals as goal

pub returns-clause-mode : goal.returns-clause-mode
returns-clause-mode c = keeps_changed locked 6 None rows d (dir 2) (row_with_mode 448 (dir 2)) at_d refl refl (λ has. has)

pub returns-clause-quota_stays : goal.returns-clause-quota_stays
returns-clause-quota_stays c = keeps_changed locked 6 None rows d_q (with_quota (dir 5)) (row_with_mode 448 (with_quota (dir 5))) at_d_q refl refl (λ has. has)

pub returns-clause-quota_goes : goal.returns-clause-quota_goes
returns-clause-quota_goes c = keeps_changed locked 6 None rows d_q (with_quota (dir 5)) (dir 5) at_d_q refl refl (λ has. refl)

pub returns-clause-new_id : goal.returns-clause-new_id
returns-clause-new_id c = keeps_put locked 6 None rows rows (record { 0 = 2 }) (codes "f") (file 6) (keeps_all locked 6 None rows) (inl (omega arith)) (inr owns_d)

pub returns-clause-given_id : goal.returns-clause-given_id
returns-clause-given_id c = refused_row None (map.insert rows d_f (file 5)) d_f (file 5) (put_there rows d_f (file 5)) (was_not d_f (file 3) (file 5) at_d_f (λ id kind quota. let bad : 5 ≡ 3 = (λ i. (id i).0) in omega arith)) (omega arith) (λ none. let bad = none in cc)

pub returns-clause-kind : goal.returns-clause-kind
returns-clause-kind c = refused_row None (map.insert rows d_f (as_dir (file 3))) d_f (as_dir (file 3)) (put_there rows d_f (as_dir (file 3))) (was_not d_f (file 3) (as_dir (file 3)) at_d_f (λ id kind quota. let bad = kind in cc)) (omega arith) (λ none. let bad = none in cc)

pub returns-clause-quota_comes : goal.returns-clause-quota_comes
returns-clause-quota_comes c = refused_row None (map.insert rows d (with_quota (dir 2))) d (with_quota (dir 2)) (put_there rows d (with_quota (dir 2))) (was_not d (dir 2) (with_quota (dir 2)) at_d (λ id kind quota. let bad = quota refl in cc)) (omega arith) (λ none. let bad = none in cc)
