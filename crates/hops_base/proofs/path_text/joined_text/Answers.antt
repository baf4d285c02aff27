use Rattle.std.proofs.Common.{ap, ◌∙◌, ◌++◌, List, ℕ, lit<, string_bytes}
use Rattle.hops_base.proofs.PathLemmas.{text_grows}
use Rattle.hops_base.proofs.path_text.joined_text.Goals as goal

pub loop-name-preserved : goal.loop-name-preserved
loop-name-preserved c = text_grows c.args.names.now c.loop-name.name-index c.name-item.result _ _ _ c.text.result.now c.loop-name-test.true c.name-item.is c.text.ensures.text c.loop-name.invariant (c.in_ok-push.ensures.bytes ∙ ap (λ (s : List ℕ). string_bytes c.loop-name.text ++ s) (c.push.ensures.ascii (lit< tt))) c.in_ok-push_str.ensures.bytes
