use Rattle.std.proofs.Common.{◌∙◌, take}
use Rattle.db_state.proofs.PlaceLemmas.{placed_more, placed_next}
use Rattle.db_state.proofs.rows.reserve_rows.Goals as goal

pub loop-write-preserved : goal.loop-write-preserved
loop-write-preserved c = record {
  rows = c.in_ok-reserve_row.ensures.rows ∙ c.loop-write.invariant.rows;
  placed = placed_next c.reserve_row.new.tables c.args.writes.now c.loop-write.write-index c.write-item.result c.loop-write-test.true c.write-item.is (placed_more c.loop-write.tables c.reserve_row.new.tables (take c.loop-write.write-index c.args.writes.now) c.in_ok-reserve_row.ensures.others c.loop-write.invariant.placed) c.in_ok-reserve_row.ensures.here;
}
