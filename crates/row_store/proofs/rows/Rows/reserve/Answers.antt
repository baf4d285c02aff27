use Rattle.std.proofs.Common.{◌<◌, take, length, refl, arith}
use Rattle.std.proofs.lemmas.List.{take_more}
use Rattle.row_store.proofs.ReadyLemmas.{ready_with-none, ready_with-keeps, ready_with-some, ready_with-step}
use Rattle.row_store.proofs.rows.Rows.reserve.Goals as goal

pub loop-key-init : goal.loop-key-init
loop-key-init g c = record { rows = refl; ready = ready_with-none c.args.self.now }

pub loop-key-preserved : goal.loop-key-preserved
loop-key-preserved g c =
    let in_range : c.loop-key.key-index < length c.args.keys.now = omega arith in
    let next = take_more c.args.keys.now c.loop-key.key-index c.key-item.result in_range in
    let step = ready_with-step c.args.self.now c.loop-key.self c.reserve_one.new.self (take c.loop-key.key-index c.args.keys.now) c.key-item.result c.loop-key.invariant.rows c.loop-key.invariant.ready c.reserve_one.ensures.rows c.in_ok-reserve_one.ensures.ok in
    record { rows = step.0; ready = rw (next, ← c.key-item.is) step.1 }

pub returns-in_err-reserve_one-clause-kept : goal.returns-in_err-reserve_one-clause-kept
returns-in_err-reserve_one-clause-kept g c = rw (c.in_err-reserve_one.ensures.err, c.loop-key.invariant.ready) (ready_with-keeps c.args.self.now _)

pub returns-in_err-reserve_one-clause-added : goal.returns-in_err-reserve_one-clause-added
returns-in_err-reserve_one-clause-added g c = rw (c.in_err-reserve_one.ensures.err, c.loop-key.invariant.ready) (ready_with-some c.args.self.now c.args.keys.now c.loop-key.key-index)

pub returns-clause-kept : goal.returns-clause-kept
returns-clause-kept g c = rw c.loop-key.invariant.ready (ready_with-keeps c.args.self.now _)

pub returns-clause-added : goal.returns-clause-added
returns-clause-added g c = rw c.loop-key.invariant.ready (ready_with-some c.args.self.now c.args.keys.now c.loop-key.key-index)
