use Rattle.std.proofs.Common.{arith, ℕ, ◌≡◌, ◌+◌, true, false, Some, None, ap, ap₂, get_or, ◌∙◌}
use Rattle.name_space.specs.declared.call.Call.TheVariants as call
use Rattle.script_text.specs.Generator.{kinds, made_of, any_path, any_truth, any_to, any_below}
use Rattle.script_text.proofs.Generated.{call_of, with_path, with_more, of_two, of_three}
use Rattle.script_text.proofs.generator.Draws.call.Goals.{in-5, in-6, in-7, in-10, in-11, in-12, in-13+in_ok-path-in-13, in-14, in-0, in-3, in-8, in_default}
use Rattle.script_text.proofs.generator.Draws.call.Goals as goal

pub returns : goal.returns
returns c =
    let before = c.below-kind.new.self.state in
    let after = c.path.new.self.state in
    let path = c.in_ok-path.path in
    let drawn = c.in_ok-path.ensures in
    let last = c.match-kind.self.state in
    let made = c.match-kind.result in
    let drawn_as : ℕ → Type 0 = λ (kind : ℕ). (made, last) ≡ get_or kinds kind (made_of call.Mkdirs any_path) before in
    call_of c.below-kind.result c.args.self.now.state before last made c.below-kind.ensures.drawn (elim c.match-kind.branch [
      | in-5 w ↦ rw w.in-5.is (with_path call.Append before after last path made drawn w.result-is (ap (λ s. s.state) w.self-is))
      | in-6 w ↦ rw w.in-6.is (with_more call.Grow (any_to 1000) before after last path w.from.result made drawn (ap₂ (λ n s. (n, s)) w.from.ensures (ap (λ s. s.state) w.self-is) ∙ ap (λ p. (1 + p.0, p.1)) w.below.ensures.drawn) w.result-is)
      | in-7 w ↦ rw w.in-7.is (with_path call.Close before after last path made drawn w.result-is (ap (λ s. s.state) w.self-is))
      | in-10 w ↦ rw w.in-10.is (with_path call.List before after last path made drawn w.result-is (ap (λ s. s.state) w.self-is))
      | in-11 w ↦ rw w.in-11.is (with_path (λ p. call.Delete p true) before after last path made drawn w.result-is (ap (λ s. s.state) w.self-is))
      | in-12 w ↦ rw w.in-12.is (with_path (λ p. call.Delete p false) before after last path made drawn w.result-is (ap (λ s. s.state) w.self-is))
      | in-13+in_ok-path-in-13 w ↦
          rw w.in-13.is (with_more call.Rename any_path before after last path w.in_ok-path-in-13.field-0 made drawn (ap (λ s. (w.in_ok-path-in-13.field-0, s.state)) w.self-is ∙ w.in_ok-path-in-13.ensures) w.result-is)
      | in-14 w ↦ rw w.in-14.is (with_more call.Chmod (any_below 512) before after last path w.below-in-14.result made drawn (ap (λ s. (w.below-in-14.result, s.state)) w.self-is ∙ w.below-in-14.ensures.drawn) w.result-is)
      | in-0 w ↦
          let one = with_path call.Mkdirs before after last path made drawn w.result-is (ap (λ s. s.state) w.self-is) in
          of_three drawn_as c.below-kind.result (omega (arith, w.in-0)) one one one
      | in-3 w ↦
          let one = with_more call.Create any_truth before after last path w.truth.result made drawn (ap (λ s. (w.truth.result, s.state)) w.self-is ∙ w.truth.ensures) w.result-is in
          of_two drawn_as 3 c.below-kind.result (omega (arith, w.in-3)) (omega (arith, w.in-3)) one one
      | in-8 w ↦
          let one = with_path call.Stat before after last path made drawn w.result-is (ap (λ s. s.state) w.self-is) in
          of_two drawn_as 8 c.below-kind.result (omega (arith, w.in-8)) (omega (arith, w.in-8)) one one
      | in_default w ↦
          let is : c.below-kind.result ≡ 15 = omega (arith, w.in_default, c.below-kind.ensures.less) in
          rw is (with_more (λ p names. call.SetQuota p (Some names) None) (any_to 50) before after last path w.from-in_default.result made drawn (ap₂ (λ n s. (n, s)) w.from-in_default.ensures (ap (λ s. s.state) w.self-is) ∙ ap (λ p. (1 + p.0, p.1)) w.below-in_default.ensures.drawn) w.result-is)
    ])
