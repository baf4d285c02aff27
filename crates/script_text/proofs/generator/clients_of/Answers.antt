use Rattle.std.proofs.Common.{◌++◌, ◌∷◌, [], sym, ap, ◌∙◌, arith, map}
use Rattle.std.proofs.lemmas.List.{length_push}
use Rattle.std.proofs.lemmas.List.FromFn.{map-range_with_len_more}
use Rattle.std.specs.List.{range_with_len}
use Rattle.script_text.specs.Generator.{client_generated}
use Rattle.script_text.proofs.generator.clients_of.Goals as goal

pub loop-client-preserved : goal.loop-client-preserved
loop-client-preserved c =
    let before = c.loop-client.invariant in
    let test = c.loop-client-test.true in
    let one = c.in_ok-client_of.field-0 in
    let grown = length_push c.loop-client.list.items one in
    let count = before.count in
    let room = before.room in
    let f = client_generated c.args.seed c.args.calls in
    rw c.push.ensures (
    record {
      made = ap (λ l. l ++ one ∷ []) before.made ∙ ap (λ o. map f (range_with_len 0 c.loop-client.client) ++ o ∷ []) c.in_ok-client_of.ensures ∙ sym (map-range_with_len_more f 0 c.loop-client.client c.loop-client.client (omega arith));
      count = omega arith;
      room = omega arith;
    })
