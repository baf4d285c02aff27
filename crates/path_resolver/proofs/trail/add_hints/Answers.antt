use Rattle.path_resolver.proofs.TrailLemmas.{more_hints}
use Rattle.path_resolver.proofs.trail.add_hints.Goals as goal

pub loop-row-preserved : goal.loop-row-preserved
loop-row-preserved c = more_hints c.args.rows.now c.loop-row.row-index c.row-item.result c.args.hints.now.items c.loop-row.hints.items c.add_hint.new.hints.items c.loop-row-test.true c.row-item.is c.loop-row.invariant (c.in_ok-add_hint.ensures)
