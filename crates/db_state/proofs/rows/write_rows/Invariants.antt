use Rattle.std.specs.Vec.Iter.{into_iter_items}
use Rattle.db_state.specs.Places.{rows_of}
use Rattle.db_state.proofs.PlaceLemmas.{IsLeft}
use Rattle.db_state.proofs.rows.write_rows.Given as goal

abbrev pub invariant-loop-write : goal.invariant-loop-write
invariant-loop-write l = IsLeft (rows_of l.initial.tables) l.fn.writes.items l.tables (into_iter_items l.write-iterator)
