use Rattle.std.proofs.Common.{List, arith, map, sym, subst, ◌∙◌}
use Rattle.std.specs.List.{AllZip}
use Rattle.std.proofs.lemmas.List.{length_push, take_all}
use Rattle.serde_json.specs.View.{view}
use Rattle.serde_json.specs.declared.value.Value.{Value}
use Rattle.script_text.proofs.ViewLemmas.{zip_more}
use Rattle.core_replay.proofs.ReadLists.{SaysHint, hints_said, no_hints}
use Rattle.core_replay.proofs.event.hints_of.Goals as goal

pub returns-in-None : goal.returns-in-None
returns-in-None c = sym (no_hints c.args.values.now c.loop-value.value-index c.value-item.result c.loop-value-test.true c.value-item.is (sym c.in_ok-hint.ensures ∙ c.in-None.is))

pub loop-value-preserved : goal.loop-value-preserved
loop-value-preserved c =
    let before = c.loop-value.invariant in
    let grown = length_push c.loop-value.hints.items c.in-Some.hint in
    let count = before.count in
    let room = before.room in
    rw c.push.ensures (
    record {
      said = zip_more SaysHint c.args.values.now c.loop-value.hints.items c.loop-value.value-index c.value-item.result c.in-Some.hint c.loop-value-test.true c.value-item.is before.said (sym c.in_ok-hint.ensures ∙ c.in-Some.is);
      count = omega arith;
      room = omega arith;
    })

pub returns : goal.returns
returns c =
    let whole = take_all c.loop-value.value-index c.args.values.now (omega arith) in
    sym (hints_said (map view c.args.values.now) c.loop-value.hints.items (subst (λ (values : List Value). AllZip SaysHint (map view values) c.loop-value.hints.items) whole c.loop-value.invariant.said))
