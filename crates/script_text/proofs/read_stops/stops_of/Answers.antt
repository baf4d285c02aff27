use Rattle.std.proofs.Common.{ℕ, List, Some, arith, map, sym, ap, ◌∙◌}
use Rattle.std.proofs.lemmas.List.{length_push}
use Rattle.serde_json.specs.View.{view}
use Rattle.hops_base.specs.declared.ids.NodeNo.{NodeNo}
use Rattle.script_text.specs.Form.{stop_data}
use Rattle.script_text.specs.Faults.{stop_after}
use Rattle.script_text.proofs.Exact.{after_told}
use Rattle.script_text.proofs.Reading.{bad_here, bad_later, stops_more}
use Rattle.script_text.proofs.read_stops.stops_of.Goals as goal

pub returns-in-None : goal.returns-in-None
returns-in-None c =
    let before = c.loop-at.invariant in
    bad_here c.args.namenodes c.args.values.now c.loop-at.stops.items c.loop-at.at c.index-values-at.result c.loop-at-test.true c.index-values-at.is before.said
    (ap (λ (l : List (NodeNo × ℕ)). stop_after c.args.namenodes (map stop_data l) (view c.index-values-at.result)) (sym c.as_slice.ensures.items) ∙ sym c.next_stop.ensures ∙ c.in-None.is) before.fault ∙ ap Some (sym c.new.ensures)

pub loop-at-preserved : goal.loop-at-preserved
loop-at-preserved c =
    let before = c.loop-at.invariant in
    let grown = length_push c.loop-at.stops.items c.in-Some.stop in
    let count = before.count in
    let room = before.room in
    let after = ap (λ (l : List (NodeNo × ℕ)). stop_after c.args.namenodes (map stop_data l) (view c.index-values-at.result)) (sym c.as_slice.ensures.items) ∙ sym c.next_stop.ensures ∙ c.in-Some.is in
    let told = after_told c.args.namenodes (map stop_data c.loop-at.stops.items) (view c.index-values-at.result) c.in-Some.stop after in
    rw c.push.ensures (
    record {
      said = stops_more c.args.values.now c.loop-at.stops.items c.loop-at.at c.index-values-at.result c.in-Some.stop c.loop-at-test.true c.index-values-at.is before.said told.0;
      fault = bad_later c.args.namenodes c.args.values.now c.loop-at.stops.items c.loop-at.at c.index-values-at.result c.loop-at-test.true c.index-values-at.is before.said c.in-Some.stop _ after before.fault;
      count = omega arith;
      room = omega arith;
    })
