use Rattle.std.specs.Vec.Iter.{into_iter_items}
use Rattle.db_state.specs.Places.{rows_of}
use Rattle.db_state.proofs.PlaceLemmas.{first_placed, rest_left}
use Rattle.db_state.proofs.rows.write_rows.Goals as goal

pub write_row-requires : goal.write_row-requires
write_row-requires c = first_placed (rows_of c.args.tables.now) c.args.writes.items c.loop-write.tables (into_iter_items c.loop-write.write-iterator) (into_iter_items c.next.new.self) c.in-Some.write c.loop-write.invariant c.in-Some.ensures.steps.0

pub loop-write-preserved : goal.loop-write-preserved
loop-write-preserved c = rest_left (rows_of c.args.tables.now) c.args.writes.items c.loop-write.tables c.write_row.new.tables (into_iter_items c.loop-write.write-iterator) (into_iter_items c.next.new.self) c.in-Some.write c.loop-write.invariant c.in-Some.ensures.steps.0 c.write_row.ensures.rows c.write_row.ensures.places
