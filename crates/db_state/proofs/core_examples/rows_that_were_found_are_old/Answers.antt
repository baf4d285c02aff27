use Rattle.std.proofs.Common.{◌<◌, arith}
use Rattle.hops_base.specs.Ids.{session}
use Rattle.db_state.specs.Steps.{start}
use Rattle.db_state.specs.ReadSamples.{d_row, x_row, whole}
use Rattle.db_state.specs.CoreSamples.{first_at}
use Rattle.db_state.specs.MoveSamples.{finds, down_to, has_whole}
use Rattle.db_state.proofs.OldRowsLaws.{HasOldRows}
use Rattle.db_state.proofs.OpeningCoreLaws.{no_session}
use Rattle.db_state.proofs.CoreSampleLemmas.{first_there, only_one}
use Rattle.db_state.proofs.core_examples.rows_that_were_found_are_old.Goals as goal

pub returns-clause-below : goal.returns-clause-below
returns-clause-below c = only_one (HasOldRows 3) (first_at (finds (down_to d_row))) ((let root : 1 < 3 = omega arith in root), ((let low : 2 < 3 = omega arith in low), tt))

pub returns-clause-not_below : goal.returns-clause-not_below
returns-clause-not_below c are = let bad : 2 < 2 = (are (session 1) (first_at (finds (down_to d_row))) (first_there (first_at (finds (down_to d_row))))).1.0 in omega arith

pub returns-clause-of_a_whole_place : goal.returns-clause-of_a_whole_place
returns-clause-of_a_whole_place c are = let bad : 3 < 3 = (are (session 1) (first_at (has_whole (whole d_row x_row))) (first_there (first_at (has_whole (whole d_row x_row))))).1.1.0 in omega arith

pub returns-clause-nothing_found : goal.returns-clause-nothing_found
returns-clause-nothing_found c = only_one (HasOldRows 0) (first_at start) tt

pub returns-clause-no_session : goal.returns-clause-no_session
returns-clause-no_session c s doing e = absurd (let none = no_session s in cc)
