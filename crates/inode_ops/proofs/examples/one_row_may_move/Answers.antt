use Rattle.std.proofs.Common.{codes, None, Some, refl, arith}
use Rattle.std.specs.FinMap as map
use Rattle.db_state.proofs.EffectLaws.{keeps_marked, keeps_moved}
use Rattle.inode_ops.specs.Examples.{child, dir, file, with_quota, d, d_f, d_q_g, rows, locked}
use Rattle.inode_ops.proofs.ExampleLemmas.{at_d, at_d_q_g, none_in_root, none_in_d, put_there, moved_away, owns_d, others, was_not, was_none, refused_row, refused_place, refused_gap}
use Rattle.inode_ops.proofs.examples.one_row_may_move.Goals as goal

pub returns-clause-moves : goal.returns-clause-moves
returns-clause-moves c = keeps_moved locked 6 (Some (record { 0 = 3 })) rows (record { 0 = 2 }) (codes "f") (record { 0 = 2 }) (codes "e") (file 3) refl owns_d owns_d

pub returns-clause-moves_none : goal.returns-clause-moves_none
returns-clause-moves_none c = refused_row None (map.insert (map.remove rows d_f) (child 2 (codes "e")) (file 3)) (child 2 (codes "e")) (file 3) (put_there (map.remove rows d_f) (child 2 (codes "e")) (file 3)) (was_none (child 2 (codes "e")) (file 3) none_in_d) (omega arith) (λ none. let bad = none in cc)

pub returns-clause-moves_another : goal.returns-clause-moves_another
returns-clause-moves_another c = refused_row (Some (record { 0 = 5 })) (map.insert (map.remove rows d_f) (child 2 (codes "e")) (file 3)) (child 2 (codes "e")) (file 3) (put_there (map.remove rows d_f) (child 2 (codes "e")) (file 3)) (was_none (child 2 (codes "e")) (file 3) none_in_d) (omega arith) (others (record { 0 = 5 }) (record { 0 = 3 }) (λ same. omega arith))

pub returns-clause-into_shared : goal.returns-clause-into_shared
returns-clause-into_shared c = refused_place (Some (record { 0 = 3 })) (map.insert (map.remove rows d_f) (child 1 (codes "e")) (file 3)) 1 (codes "e") (file 3) (put_there (map.remove rows d_f) (child 1 (codes "e")) (file 3)) none_in_root (omega arith) (λ same. omega arith)

pub returns-clause-from_unlocked : goal.returns-clause-from_unlocked
returns-clause-from_unlocked c = refused_gap (Some (record { 0 = 4 })) (map.insert (map.remove rows d_q_g) (child 2 (codes "e")) (file 4)) 5 (codes "g") (file 4) at_d_q_g moved_away (λ same. omega arith)

pub returns-clause-quota : goal.returns-clause-quota
returns-clause-quota c = keeps_marked locked 6 (Some (record { 0 = 2 })) rows d (dir 2) (with_quota (dir 2)) at_d refl

pub returns-clause-quota_of_another : goal.returns-clause-quota_of_another
returns-clause-quota_of_another c = refused_row (Some (record { 0 = 3 })) (map.insert rows d (with_quota (dir 2))) d (with_quota (dir 2)) (put_there rows d (with_quota (dir 2))) (was_not d (dir 2) (with_quota (dir 2)) at_d (λ id kind quota. let bad = quota refl in cc)) (omega arith) (others (record { 0 = 3 }) (record { 0 = 2 }) (λ same. omega arith))
