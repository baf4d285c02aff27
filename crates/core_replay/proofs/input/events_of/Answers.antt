use Rattle.std.proofs.Common.{◌≡◌, ℕ, List, Some, None, arith, map, option_map, sym, ap, subst, ◌∙◌}
use Rattle.std.specs.List.{AllZip}
use Rattle.std.proofs.lemmas.List.{length_push, take_all}
use Rattle.serde_json.specs.View.{view}
use Rattle.serde_json.specs.declared.value.Value.{Value}
use Rattle.script_text.proofs.ViewLemmas.{zip_more}
use Rattle.core_replay.specs.declared.fault.InputFault.TheVariants.{Event}
use Rattle.core_replay.specs.Events.{as_listed, event_of}
use Rattle.core_replay.specs.Input.{SaysEvent, bad_event}
use Rattle.core_replay.proofs.ReadLists.{first_bad, none_bad}
use Rattle.core_replay.proofs.input.events_of.Goals as goal

pub returns-in-None : goal.returns-in-None
returns-in-None c =
    let none : event_of (view c.index-values-at.result) ≡ None = sym c.in_ok-event.ensures ∙ ap (option_map as_listed) c.in-None.is in
    let bad : bad_event (map view c.args.values.now) ≡ Some c.loop-at.at =
    first_bad event_of as_listed 0 c.args.values.now c.loop-at.events.items c.loop-at.at c.index-values-at.result c.loop-at-test.true c.index-values-at.is c.loop-at.invariant.said none ∙ ap Some (omega arith) in
    ap (option_map (λ (at : ℕ). Event at)) bad

pub loop-at-preserved : goal.loop-at-preserved
loop-at-preserved c =
    let before = c.loop-at.invariant in
    let grown = length_push c.loop-at.events.items c.in-Some.event in
    let count = before.count in
    let room = before.room in
    let says : SaysEvent (view c.index-values-at.result) c.in-Some.event = sym c.in_ok-event.ensures ∙ ap (option_map as_listed) c.in-Some.is in
    rw c.push.ensures (
    record {
      said = zip_more SaysEvent c.args.values.now c.loop-at.events.items c.loop-at.at c.index-values-at.result c.in-Some.event c.loop-at-test.true c.index-values-at.is before.said says;
      count = omega arith;
      room = omega arith;
    })

pub returns : goal.returns
returns c =
    let whole = take_all c.loop-at.at c.args.values.now (omega arith) in
    let said : AllZip SaysEvent (map view c.args.values.now) c.loop-at.events.items = subst (λ (values : List Value). AllZip SaysEvent (map view values) c.loop-at.events.items) whole c.loop-at.invariant.said in
    (ap (option_map (λ (at : ℕ). Event at)) (none_bad event_of as_listed 0 (map view c.args.values.now) c.loop-at.events.items said), said)
