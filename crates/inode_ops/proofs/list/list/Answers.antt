use Rattle.std.proofs.Common.{option_copied, sym, ap, ◌∙◌, inl, inr}
use Rattle.name_space.specs.declared.call.Call.TheVariants as call
use Rattle.inode_ops.proofs.ListLemmas.{no_last, missing_result, children_result, file_result}
use Rattle.inode_ops.proofs.KeepOutcomes.{told_keeps}
use Rattle.inode_ops.proofs.OwnOutcomes.{told_own}
use Rattle.inode_ops.proofs.list.list.Goals as goal
use Rattle.inode_ops.proofs.list.list.Goals.{in_default-via-in-File+in_default, in_default-via-in_default}

pub returns-then-not-is_whole : goal.returns-then-not-is_whole
returns-then-not-is_whole c = record {
  table = missing_result c.args.view.now c.args.path.now c.only_place-place.result.now c.refused.result c.requires c.only_place-place.ensures (sym c.is_whole.ensures ∙ c.if-not-is_whole.true) c.refused.ensures;
  own = told_own c.args.view.now (call.List c.args.path.now) _ c.refused.result c.refused.ensures;
  keeps = told_keeps c.args.view.now (call.List c.args.path.now) _ c.refused.result c.refused.ensures;
}

pub returns-in_ok-alone-in-File-Some : goal.returns-in_ok-alone-in-File-Some
returns-in_ok-alone-in-File-Some c = record {
  table =
      file_result c.args.view.now c.args.path.now c.only_place-place.result.now c.deepest-last.result.now c.in-File-Some.name.now c.in_ok-alone-in-File-Some.field-0 c.told.result c.requires c.only_place-place.ensures
      (sym c.is_whole.ensures ∙ c.if-not-is_whole.false) c.deepest-last.ensures c.in-File-Some.is-0 (sym c.last.ensures ∙ ap option_copied c.in-File-Some.is-1) c.in_ok-alone-in-File-Some.ensures c.told.ensures;
  own = told_own c.args.view.now (call.List c.args.path.now) _ c.told.result c.told.ensures;
  keeps = told_keeps c.args.view.now (call.List c.args.path.now) _ c.told.result c.told.ensures;
}

pub returns-in_ok-copy_listing-in_default : goal.returns-in_ok-copy_listing-in_default
returns-in_ok-copy_listing-in_default c = record {
  table =
      children_result c.args.view.now c.args.path.now c.only_place-place.result.now c.deepest-last.result.now c.in_ok-copy_listing-in_default.field-0 c.told-in_default.result c.requires c.only_place-place.ensures
      (sym c.is_whole.ensures ∙ c.if-not-is_whole.false) c.deepest-last.ensures (elim c.in_default.branch [
        | in_default-via-in-File+in_default w ↦ inr (w.in_default.is-0, no_last c.args.path.now (sym c.last.ensures ∙ ap option_copied w.in_default.is-1))
        | in_default-via-in_default w ↦ inl w.in_default.is-0
      ]) c.in_ok-copy_listing-in_default.ensures c.told-in_default.ensures;
  own = told_own c.args.view.now (call.List c.args.path.now) _ c.told-in_default.result c.told-in_default.ensures;
  keeps = told_keeps c.args.view.now (call.List c.args.path.now) _ c.told-in_default.result c.told-in_default.ensures;
}
