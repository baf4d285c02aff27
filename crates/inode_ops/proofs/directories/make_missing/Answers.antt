use Rattle.std.proofs.Common.{ℕ, List, length, sym, ap, ◌∙◌}
use Rattle.inode_ops.specs.QuotaSteps.{first_full}
use Rattle.inode_ops.specs.Steps.{missing_names}
use Rattle.inode_ops.proofs.MissingLemmas.{names_are, refused_full}
use Rattle.inode_ops.proofs.directories.make_missing.Goals as goal

pub returns-in-Some : goal.returns-in-Some
returns-in-Some c =
    let names = names_are c.args.place.now c.names.result.now c.len.result c.names.ensures.names c.len.ensures in
    refused_full _ c.in-Some.exception c.args.last.now c.args.place.now c.args.quotas.now c.args.next.0 c.args.user.now (missing_names c.args.place.now) c.refused.result
    (ap (λ (names : List (List ℕ)). first_full c.args.place.now.path c.args.place.now.found.items c.args.quotas.now (length names)) (sym names) ∙ sym c.in_ok-exception.ensures ∙ c.in-Some.is) c.refused.ensures
