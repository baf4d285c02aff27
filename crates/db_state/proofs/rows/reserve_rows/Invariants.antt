use Rattle.std.proofs.Common.{◌≡◌, true, take}
use Rattle.std.specs.List.{list_all}
use Rattle.db_state.specs.Places.{rows_of, is_placed}
use Rattle.db_state.proofs.rows.reserve_rows.Given as goal

abbrev pub invariant-loop-write : goal.invariant-loop-write
invariant-loop-write l = record { rows : rows_of l.tables ≡ rows_of l.initial.tables; placed : list_all (is_placed l.tables) (take l.write-index l.writes) ≡ true }
