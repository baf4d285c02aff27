use Rattle.std.proofs.Common.{map, arith}
use Rattle.std.proofs.lemmas.List.{length_push}
use Rattle.std.specs.List.{AllZip, enumerate_from}
use Rattle.hops_base.specs.First.{first_some}
use Rattle.serde_json.specs.View.{view}
use Rattle.script_text.specs.Faults.{client_fault}
use Rattle.script_text.specs.Grammar.{SaysClient}
use Rattle.script_text.proofs.ViewLemmas.{zip_more}
use Rattle.script_text.proofs.Reading.{passed_on, fault_here, fault_later}
use Rattle.script_text.proofs.read.clients_of.Goals as goal

pub loop-at-preserved : goal.loop-at-preserved
loop-at-preserved c =
    let before = c.loop-at.invariant in
    let grown = length_push c.loop-at.clients.items c.in_ok-client_in.field-0 in
    let count = before.count in
    let room = before.room in
    rw c.push.ensures (
    record {
      said = zip_more SaysClient c.args.values.now c.loop-at.clients.items c.loop-at.at c.index-values-at.result c.in_ok-client_in.field-0 c.loop-at-test.true c.index-values-at.is before.said c.in_ok-client_in.ensures.1;
      fault = fault_later client_fault c.loop-at.at c.args.values.now c.loop-at.at c.index-values-at.result _ c.loop-at-test.true c.index-values-at.is before.fault c.in_ok-client_in.ensures.0;
      count = omega arith;
      room = omega arith;
    })

pub returns-in_err-client_in : goal.returns-in_err-client_in
returns-in_err-client_in c =
    passed_on (client_fault (c.loop-at.at, view c.index-values-at.result)) (first_some (map client_fault (enumerate_from 0 (map view c.args.values.now)))) (SaysClient (view c.index-values-at.result)) (λ clients. AllZip SaysClient (map view c.args.values.now) clients.items) c.client_in.result c.from_residual-in_err-client_in.result c.in_err-client_in.field-0.0 c.client_in.ensures c.in_err-client_in.was c.from_residual-in_err-client_in.ensures
    (λ f. fault_here client_fault c.loop-at.at c.args.values.now c.loop-at.at c.index-values-at.result _ f c.loop-at-test.true c.index-values-at.is c.loop-at.invariant.fault)
