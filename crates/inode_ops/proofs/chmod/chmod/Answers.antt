use Rattle.std.proofs.Common.{sym, ◌∙◌}
use Rattle.name_space.specs.declared.call.Call.TheVariants.{Chmod}
use Rattle.inode_ops.proofs.ChmodLemmas.{root_result, missing_result, mode_result}
use Rattle.inode_ops.proofs.KeepOutcomes.{mode_keeps, told_keeps}
use Rattle.inode_ops.proofs.OwnOutcomes.{mode_own, told_own}
use Rattle.inode_ops.proofs.chmod.chmod.Goals as goal

pub returns-then-len-eq0 : goal.returns-then-len-eq0
returns-then-len-eq0 c = record {
  table = root_result c.args.view.now c.args.path.now c.args.mode c.refused.result (sym c.len.ensures ∙ c.if-len-eq0.true) c.refused.ensures;
  own = told_own c.args.view.now (Chmod c.args.path.now c.args.mode) _ c.refused.result c.refused.ensures;
  keeps = told_keeps c.args.view.now (Chmod c.args.path.now c.args.mode) _ c.refused.result c.refused.ensures;
}

pub returns-then-not-is_whole : goal.returns-then-not-is_whole
returns-then-not-is_whole c = record {
  table = missing_result c.args.view.now c.args.path.now c.args.mode c.only_place-place.result.now c.refused-then-not-is_whole.result c.requires c.only_place-place.ensures (λ none. c.if-len-eq0.false (c.len.ensures ∙ none)) (sym c.is_whole.ensures ∙ c.if-not-is_whole.true) c.refused-then-not-is_whole.ensures;
  own = told_own c.args.view.now (Chmod c.args.path.now c.args.mode) _ c.refused-then-not-is_whole.result c.refused-then-not-is_whole.ensures;
  keeps = told_keeps c.args.view.now (Chmod c.args.path.now c.args.mode) _ c.refused-then-not-is_whole.result c.refused-then-not-is_whole.ensures;
}

pub returns : goal.returns
returns c = record {
  table = mode_result c.args.view.now c.args.path.now c.args.mode c.only_place-place.result.now c.set_mode.result c.requires c.only_place-place.ensures (λ none. c.if-len-eq0.false (c.len.ensures ∙ none)) (sym c.is_whole.ensures ∙ c.if-not-is_whole.false) c.set_mode.ensures;
  own = mode_own c.args.view.now c.args.path.now c.args.mode c.only_place-place.result.now c.set_mode.result c.requires c.only_place-place.ensures c.set_mode.ensures;
  keeps = mode_keeps c.args.view.now c.args.path.now c.args.mode c.only_place-place.result.now c.set_mode.result c.requires c.only_place-place.ensures c.set_mode.ensures;
}
