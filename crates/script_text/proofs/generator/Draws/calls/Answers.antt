use Rattle.std.proofs.Common.{◌≡◌, ◌+◌, ◌-◌, suc, arith}
use Rattle.std.proofs.lemmas.List.{length_push}
use Rattle.script_text.specs.Generator.{any_call}
use Rattle.script_text.proofs.Generated.{drawn_more, drawn_all}
use Rattle.script_text.proofs.generator.Draws.calls.Goals as goal

pub loop-preserved : goal.loop-preserved
loop-preserved c =
    let before = c.loop.invariant in
    let test = c.loop-test.true in
    let grown = length_push c.loop.list.items c.in_ok-call.field-0 in
    let count = before.count in
    let room = before.room in
    let is : c.args.calls - c.loop.counter ≡ suc (c.args.calls - (c.loop.counter + 1)) = omega arith in
    rw c.push.ensures (
    record {
      drawn = drawn_more any_call _ _ c.loop.list.items c.loop.self.state _ c.in_ok-call.field-0 _ is c.in_ok-call.ensures before.drawn;
      count = omega arith;
      room = omega arith;
    })

pub returns : goal.returns
returns c =
    let test = c.loop-test.false in
    let none : c.args.calls - c.loop.counter ≡ 0 = omega arith in
    drawn_all any_call _ c.loop.list.items c.loop.self.state _ none c.loop.invariant.drawn
