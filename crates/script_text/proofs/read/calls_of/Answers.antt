use Rattle.std.proofs.Common.{◌+◌, map, arith}
use Rattle.std.proofs.lemmas.List.{length_push}
use Rattle.std.specs.List.{AllZip, enumerate_from}
use Rattle.hops_base.specs.First.{first_some}
use Rattle.serde_json.specs.View.{view}
use Rattle.script_text.specs.Faults.{call_fault}
use Rattle.script_text.specs.Grammar.{SaysCall}
use Rattle.script_text.proofs.ViewLemmas.{zip_more}
use Rattle.script_text.proofs.Reading.{passed_on, fault_here, fault_later}
use Rattle.script_text.proofs.read.calls_of.Goals as goal

pub loop-i-preserved : goal.loop-i-preserved
loop-i-preserved c =
    let before = c.loop-i.invariant in
    let grown = length_push c.loop-i.calls.items c.in_ok-read_call.field-0 in
    let count = before.count in
    let room = before.room in
    rw c.push.ensures (
    record {
      said = zip_more SaysCall c.args.values.now c.loop-i.calls.items c.loop-i.i c.index-values-i.result c.in_ok-read_call.field-0 c.loop-i-test.true c.index-values-i.is before.said c.in_ok-read_call.ensures.1;
      fault = fault_later (call_fault c.args.at) (c.loop-i.i + 1) c.args.values.now c.loop-i.i c.index-values-i.result _ c.loop-i-test.true c.index-values-i.is before.fault c.in_ok-read_call.ensures.0;
      count = omega arith;
      room = omega arith;
    })

pub returns-in_err-read_call : goal.returns-in_err-read_call
returns-in_err-read_call c =
    passed_on (call_fault c.args.at (c.loop-i.i + 1, view c.index-values-i.result)) (first_some (map (call_fault c.args.at) (enumerate_from 1 (map view c.args.values.now)))) (SaysCall (view c.index-values-i.result)) (λ calls. AllZip SaysCall (map view c.args.values.now) calls.items) c.read_call.result c.from_residual-in_err-read_call.result c.in_err-read_call.field-0.0 c.read_call.ensures c.in_err-read_call.was c.from_residual-in_err-read_call.ensures
    (λ f. fault_here (call_fault c.args.at) (c.loop-i.i + 1) c.args.values.now c.loop-i.i c.index-values-i.result _ f c.loop-i-test.true c.index-values-i.is c.loop-i.invariant.fault)
