use Rattle.std.proofs.Common.{◌≡◌, ◌∙◌, sym, true, map}
use Rattle.std.specs.List.{list_all}
use Rattle.hops_base.specs.Name.{is_name}
use Rattle.hops_base.proofs.PathLemmas.{names_good}
use Rattle.hops_base.proofs.path.read_names.Goals as goal

pub good_names-requires : goal.good_names-requires
good_names-requires c = names_good 0 (map (λ name. name.now) c.args.names.now) (sym c.first_fault.ensures ∙ c.in_default.is) c.requires.pieces c.requires.texts

pub invariant_of-result : goal.invariant_of-result
invariant_of-result c =
    let good : list_all is_name (map (λ name. name.now) c.args.names.now) ≡ true = names_good 0 (map (λ name. name.now) c.args.names.now) (sym c.first_fault.ensures ∙ c.in_default.is) c.requires.pieces c.requires.texts in
    rw c.in-Ok.ensures good
