use Rattle.hops_base.proofs.PathLemmas.{len_grows}
use Rattle.hops_base.proofs.path.text_len.Goals as goal

pub loop-name-preserved : goal.loop-name-preserved
loop-name-preserved c =
    let grows = len_grows c.args.names.now c.loop-name.name-index c.loop-name.len c.name-item.result c.text.result.now c.loop-name-test.true c.name-item.is c.text.ensures.text c.text.ensures.name c.loop-name.invariant.counted c.loop-name.invariant.few in
    record { counted = grows.0; few = grows.1 }
