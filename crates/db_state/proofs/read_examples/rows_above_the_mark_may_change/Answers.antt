use Rattle.std.proofs.Common.{arith}
use Rattle.db_state.specs.ReadSamples.{x_key, d_row, x_row, with_id, rows, rows_without_d}
use Rattle.db_state.proofs.ReadSampleLemmas.{x_is, x_stays, is_there, stands_whole}
use Rattle.db_state.proofs.read_examples.rows_above_the_mark_may_change.Goals as goal

pub returns-clause-gone : goal.returns-clause-gone
returns-clause-gone c = stands_whole (rows_without_d x_row) 2 d_row x_row (omega arith) (is_there _ _ x_key x_row (x_stays x_row), tt) (x_stays x_row)

pub returns-clause-another : goal.returns-clause-another
returns-clause-another c = stands_whole (rows (with_id 7 d_row) x_row) 2 d_row x_row (omega arith) (is_there _ _ x_key x_row (x_is (with_id 7 d_row) x_row), tt) (x_is (with_id 7 d_row) x_row)
