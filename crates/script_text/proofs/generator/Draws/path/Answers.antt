use Rattle.std.proofs.Common.{◌≡◌, ◌+◌, ◌-◌, suc, ap, ◌∙◌, arith}
use Rattle.script_text.specs.Generator.{any_name, times}
use Rattle.script_text.proofs.Generated.{drawn_none, drawn_more, drawn_all}
use Rattle.script_text.proofs.generator.Draws.path.Goals as goal

pub loop-init : goal.loop-init
loop-init c = let names = 1 + c.below-names.result in let all : names - 0 ≡ names = omega arith in drawn_none any_name _ names _ _ c.root-path.ensures all

pub loop-preserved : goal.loop-preserved
loop-preserved c =
    let names = 1 + c.below-names.result in
    let test = c.loop-test.true in
    let is : names - c.loop.counter ≡ suc (names - (c.loop.counter + 1)) = omega arith in
    rw c.in_ok-path.ensures (drawn_more any_name _ _ c.loop.path c.loop.self.state _ c.in_ok-name.name _ is c.in_ok-name.ensures c.loop.invariant)

pub returns : goal.returns
returns c =
    let names = 1 + c.below-names.result in
    let test = c.loop-test.false in
    let none : names - c.loop.counter ≡ 0 = omega arith in
    drawn_all any_name _ c.loop.path c.loop.self.state _ none c.loop.invariant ∙ ap (λ p. times (1 + p.0) any_name p.1) c.below-names.ensures.drawn
