use Rattle.std.proofs.Common.{◌≡◌, [], ◌∷◌, List, sym, subst, ◌∙◌}
use Rattle.hops_base.specs.declared.key.Key.{Key}
use Rattle.inode_table.specs.declared.inode.Inode.{Inode}
use Rattle.name_space.specs.Namespace.{Path}
use Rattle.path_resolver.specs.declared.step.Step.{Step}
use Rattle.path_resolver.specs.Stepping.{IsStepOf}
use Rattle.path_resolver.proofs.ReadLemmas.{step_made}
use Rattle.path_resolver.proofs.read.step_of.Goals as goal

pub returns : goal.returns
returns c = λ path found unresolved.
    let paths : c.path_of-path.result.now ∷ [] ≡ path ∷ [] = sym c.path_of-path.ensures ∙ unresolved.one in
    let one : c.path_of-path.result.now ≡ path = cc in
    let made = step_made c.args.db.now.stored c.args.doing.now c.path_of-path.result.now c.found_by-found.result.now.items c.rows_in-rows.result.now c.in_ok-begun.begun c.in_ok-look.look c.way_after.result c.in_ok-end.end c.since_by.result c.reads_by.result
    c.since_by.ensures c.reads_by.ensures c.in_ok-begun.ensures c.rows_in-rows.ensures c.in_ok-look.ensures c.way_after.ensures c.in_ok-end.ensures in
    let step : Step = record { since = c.since_by.result; reads = c.reads_by.result; begun = c.in_ok-begun.begun; look = c.in_ok-look.look; end = c.in_ok-end.end } in
    subst (λ (p : Path). IsStepOf c.args.db.now.stored c.args.doing.now p found step) one
    (subst (λ (rows : List (Key × Inode)). IsStepOf c.args.db.now.stored c.args.doing.now c.path_of-path.result.now rows step) (c.found_by-found.ensures path found unresolved) made)
