use Rattle.std.proofs.Common.{codes, None, inl, inr, arith}
use Rattle.std.specs.FinMap as map
use Rattle.db_state.proofs.EffectLaws.{keeps_all, keeps_grown}
use Rattle.inode_ops.specs.Examples.{child, dir, file, rows, locked}
use Rattle.inode_ops.proofs.ExampleLemmas.{none_in_root, none_in_d, none_in_q, put_there, owns_d, was_none, refused_row, refused_place}
use Rattle.inode_ops.proofs.examples.rows_come_into_owned_directories.Goals as goal

pub returns-clause-owned : goal.returns-clause-owned
returns-clause-owned c = keeps_grown locked 6 None rows rows (record { 0 = 2 }) (codes "e") (dir 6) (keeps_all locked 6 None rows) (omega arith) (inr owns_d)

pub returns-clause-below_new : goal.returns-clause-below_new
returns-clause-below_new c = keeps_grown locked 6 None rows (map.insert rows (child 2 (codes "e")) (dir 6)) (record { 0 = 6 }) (codes "f") (file 7) (keeps_grown locked 6 None rows rows (record { 0 = 2 }) (codes "e") (dir 6) (keeps_all locked 6 None rows) (omega arith) (inr owns_d)) (omega arith) (inl (omega arith))

pub returns-clause-given_id : goal.returns-clause-given_id
returns-clause-given_id c = refused_row None (map.insert rows (child 2 (codes "e")) (file 5)) (child 2 (codes "e")) (file 5) (put_there rows (child 2 (codes "e")) (file 5)) (was_none (child 2 (codes "e")) (file 5) none_in_d) (omega arith) (λ none. let bad = none in cc)

pub returns-clause-shared : goal.returns-clause-shared
returns-clause-shared c = refused_place None (map.insert rows (child 1 (codes "e")) (dir 6)) 1 (codes "e") (dir 6) (put_there rows (child 1 (codes "e")) (dir 6)) none_in_root (omega arith) (λ same. omega arith)

pub returns-clause-unlocked : goal.returns-clause-unlocked
returns-clause-unlocked c = refused_place None (map.insert rows (child 5 (codes "e")) (dir 6)) 5 (codes "e") (dir 6) (put_there rows (child 5 (codes "e")) (dir 6)) none_in_q (omega arith) (λ same. omega arith)
