use Rattle.std.proofs.Common.{arith}
use Rattle.db_state.specs.ReadSamples.{d_key, x_key, d_row, x_row, rows}
use Rattle.db_state.proofs.ReadSampleLemmas.{d_is, x_is, is_there, stands_whole}
use Rattle.db_state.proofs.read_examples.reads_stand_as_they_were_read.Goals as goal

pub returns-clause-whole : goal.returns-clause-whole
returns-clause-whole c = stands_whole (rows d_row x_row) 2 d_row x_row (omega arith) (is_there _ _ x_key x_row (x_is d_row x_row), tt) (x_is d_row x_row)

pub returns-clause-all_rows : goal.returns-clause-all_rows
returns-clause-all_rows c = stands_whole (rows d_row x_row) 1 d_row x_row (omega arith) (is_there _ _ d_key d_row (d_is d_row x_row), (is_there _ _ x_key x_row (x_is d_row x_row), tt)) (x_is d_row x_row)
