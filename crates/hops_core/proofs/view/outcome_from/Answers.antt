use Rattle.std.proofs.Common.{◌≡◌, refl, ap, ◌∙◌}
use Rattle.db_state.specs.declared.view.Place.{Place}
use Rattle.db_state.specs.Reads.{Reads}
use Rattle.hops_base.specs.Roomy.{Roomy}
use Rattle.hops_core.specs.Views.{with_child}
use Rattle.hops_core.proofs.ViewLemmas.{outcome_by}
use Rattle.hops_core.proofs.view.outcome_from.Goals as goal

pub outcome-outcome-requires : goal.outcome-outcome-requires
outcome-outcome-requires c =
    let places : c.from_vec.result.items ≡ with_child c.args.asked.has_child c.args.reads.places =
    ap (λ (l : Roomy Place). l.items) c.from_vec.ensures
    ∙ c.tell_child-said.ensures.new
    ∙ ap (with_child c.args.asked.has_child) (c.into_vec-places.ensures ∙ ap (λ (r : Reads). r.places) c.reads.view_is) in
    c.requires (record { places = c.from_vec.result; quotas = c.reads.inside.quotas; children = c.args.asked.children; next = c.args.asked.next })
    (record { places = places; quotas = ap (λ (r : Reads). r.quotas) c.reads.view_is; children = refl; next = refl })

pub returns-clause-outcome : goal.returns-clause-outcome
returns-clause-outcome c =
    let places : c.from_vec.result.items ≡ with_child c.args.asked.has_child c.args.reads.places =
    ap (λ (l : Roomy Place). l.items) c.from_vec.ensures
    ∙ c.tell_child-said.ensures.new
    ∙ ap (with_child c.args.asked.has_child) (c.into_vec-places.ensures ∙ ap (λ (r : Reads). r.places) c.reads.view_is) in
    outcome_by c.args.reads c.args.asked (record { places = c.from_vec.result; quotas = c.reads.inside.quotas; children = c.args.asked.children; next = c.args.asked.next }) c.outcome-outcome.result
    (record { places = places; quotas = ap (λ (r : Reads). r.quotas) c.reads.view_is; children = refl; next = refl })
    c.outcome-outcome.ensures.table c.outcome-outcome.ensures.own c.outcome-outcome.ensures.keeps
