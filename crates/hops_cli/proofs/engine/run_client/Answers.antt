use Rattle.std.proofs.Common.{◌≡◌, ◌≤◌, ◌<◌, ◌∷◌, ◌++◌, ◌+◌, [], List, length, get_or, ap, sym, subst, ◌∙◌, arith}
use Rattle.std.specs.Cmp.{second_so}
use Rattle.name_space.specs.declared.call.Call.{Call}
use Rattle.name_space.specs.Call.{is_valid}
use Rattle.commit_log.specs.declared.answer.AnswerLine.{AnswerLine}
use Rattle.hops_base.specs.Ids.{client}
use Rattle.db_state.specs.Settings.{Settings}
use Rattle.hops_core.specs.Built.{is_built}
use Rattle.hops_cli.proofs.LoopLemmas.{passes_at, none_turned, can_begin, turned, few_calls}
use Rattle.hops_cli.proofs.engine.run_client.Goals as goal

pub loop-i-init : goal.loop-i-init
loop-i-init c = none_turned c.args.client.now.user c.args.client.now.calls c.args.core.now c.args.answers.now.items c.requires.new

pub run_call-requires-clause-one : goal.run_call-requires-clause-one
run_call-requires-clause-one c = ap (λ (s : Settings). length s.users) c.loop-i.invariant.settings_are ∙ ap length c.requires.new.acting

pub run_call-requires-clause-can : goal.run_call-requires-clause-can
run_call-requires-clause-can c =
    let within : c.loop-i.i < length c.args.client.now.calls = subst (λ (cs : List Call). c.loop-i.i < length cs) c.calls-call-items.ensures c.loop-i-test.true in
    let most : length c.args.client.now.calls ≤ 65536 = few_calls c.args.client.now c.requires.valid in
    let is : get_or c.args.client.now.calls c.loop-i.i c.call-item.result ≡ c.call-item.result = sym (c.call-item.is ∙ ap (λ (cs : List Call). get_or cs c.loop-i.i c.call-item.result) c.calls-call-items.ensures) in
    can_begin c.args.core.now.stored.settings c.args.client.now.calls c.loop-i.i c.loop-i.core c.loop-i.answers.items c.call-item.result c.loop-i.invariant (ap length c.requires.new.acting) c.requires.new.namenodes (omega arith)
    (passes_at is_valid c.args.client.now.calls c.loop-i.i c.call-item.result (second_so _ _ c.requires.valid) within is)
    (passes_at is_built c.args.client.now.calls c.loop-i.i c.call-item.result c.requires.small within is)

pub loop-i-preserved : goal.loop-i-preserved
loop-i-preserved c =
    let within : c.loop-i.i < length c.args.client.now.calls = subst (λ (cs : List Call). c.loop-i.i < length cs) c.calls-call-items.ensures c.loop-i-test.true in
    let is : get_or c.args.client.now.calls c.loop-i.i c.call-item.result ≡ c.call-item.result = sym (c.call-item.is ∙ ap (λ (cs : List Call). get_or cs c.loop-i.i c.call-item.result) c.calls-call-items.ensures) in
    turned c.args.core.now.stored.settings c.args.client.now.calls c.loop-i.i c.loop-i.core c.run_call.new.core c.loop-i.answers.items c.push.new.self.items c.call-item.result c.in_ok-end.end within is c.loop-i.invariant c.in_ok-end.ensures
    (ap (λ r. r.items) c.push.ensures ∙ ap (λ (xs : List AnswerLine). xs ++ record { client = client 0; call = c.loop-i.i + 1; end = c.in_ok-end.end } ∷ []) (ap (λ r. r.items) c.in_ok-reserve.ensures.ok))
