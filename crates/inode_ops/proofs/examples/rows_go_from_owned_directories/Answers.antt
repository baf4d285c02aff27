use Rattle.std.proofs.Common.{codes, None, arith}
use Rattle.std.specs.FinMap as map
use Rattle.db_state.proofs.EffectLaws.{keeps_removed}
use Rattle.inode_ops.specs.Examples.{dir, file, d, d_q_g, rows, locked}
use Rattle.inode_ops.proofs.ExampleLemmas.{at_d, at_d_q_g, gone_there, owns_d, refused_gap}
use Rattle.inode_ops.proofs.examples.rows_go_from_owned_directories.Goals as goal

pub returns-clause-owned : goal.returns-clause-owned
returns-clause-owned c = keeps_removed locked 6 None rows (record { 0 = 2 }) (codes "f") owns_d

pub returns-clause-shared : goal.returns-clause-shared
returns-clause-shared c = refused_gap None (map.remove rows d) 1 (codes "d") (dir 2) at_d (gone_there rows d) (λ same. omega arith)

pub returns-clause-unlocked : goal.returns-clause-unlocked
returns-clause-unlocked c = refused_gap None (map.remove rows d_q_g) 5 (codes "g") (file 4) at_d_q_g (gone_there rows d_q_g) (λ same. omega arith)
