use Rattle.std.proofs.Common.{length, sym, ◌∙◌}
use Rattle.inode_ops.specs.QuotaSteps.{first_full}
use Rattle.inode_ops.specs.Steps.{missing_names}
use Rattle.inode_ops.proofs.MissingLemmas.{names_are}
use Rattle.inode_ops.proofs.FileRowLemmas.{refused_file}
use Rattle.inode_ops.proofs.create.make_file.Goals as goal

pub returns-in-Some : goal.returns-in-Some
returns-in-Some c =
    let names = names_are c.args.place.now c.names.result.now c.len.result c.names.ensures.names c.len.ensures in
    refused_file _ c.in-Some.exception c.args.last.now c.args.place.now c.args.view.now c.args.client c.args.user.now (missing_names c.args.place.now) c.refused.result
    ((λ i. first_full c.args.place.now.path c.args.place.now.found.items (sym c.as_slice-quotas.ensures.items i) (length (sym names i))) ∙ sym c.in_ok-exception.ensures ∙ c.in-Some.is) c.refused.ensures
