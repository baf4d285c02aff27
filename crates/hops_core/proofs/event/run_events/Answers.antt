use Rattle.std.proofs.Common.{◌≡◌, ◌+◌, ◌≤◌, ◌∷◌, ◌++◌, [], List, length, take, sym, ap, subst, ◌∙◌, arith, length-append}
use Rattle.hops_base.specs.Roomy.{Roomy}
use Rattle.hops_core.specs.declared.event.EventAnswer.{EventAnswer}
use Rattle.hops_core.specs.Events.{Runs}
use Rattle.hops_core.proofs.RunLaws.{runs_next}
use Rattle.hops_core.proofs.event.run_events.Goals as goal

pub loop-event-preserved : goal.loop-event-preserved
loop-event-preserved c =
    let items = ap (λ (told : Roomy EventAnswer). told.items) c.push.ensures in
    let room = ap (λ (told : Roomy EventAnswer). told.room) c.push.ensures in
    let long : length c.push.new.self.items ≡ length c.loop-event.told.items + 1 = ap length items ∙ length-append c.loop-event.told.items (c.happen-answer.result ∷ []) in
    let fits : length c.args.events.now ≤ c.loop-event.told.room = c.loop-event.invariant.room in
    record {
      runs = subst (λ (told : List EventAnswer). Runs c.args.core.now (take (c.loop-event.event-index + 1) c.args.events.now) told c.happen-answer.new.core) (sym items)
          (runs_next c.args.core.now c.loop-event.core c.happen-answer.new.core c.args.events.now c.loop-event.event-index c.loop-event.told.items c.event-item.result c.happen-answer.result
          c.loop-event-test.true c.event-item.is c.loop-event.invariant.runs c.happen-answer.ensures c.kept-in-loop-event.ensures);
      told = long ∙ ap (λ n. n + 1) c.loop-event.invariant.told;
      room = omega arith;
    }
