use Rattle.std.proofs.Common.{◌≡◌, ◌+◌, ◌<◌, IsSome, refl, ap, sym, subst, ◌∙◌}
use denote.Enum.Bare.{same_true, same_false}
use Rattle.db_state.specs.contracts.session.Phase.{the_type}
use Rattle.db_state.specs.Stages.{phase_of}
use Rattle.hops_cli.specs.Turning.{rank, IsUnderway}
use Rattle.hops_cli.proofs.NearerLemmas.{nearer}
use Rattle.hops_cli.proofs.PhaseLemmas.{behind, only_more}
use Rattle.hops_cli.proofs.WayLemmas.{further, goes}
use Rattle.hops_cli.proofs.turn.leave.Goals as goal

pub loop-s-init : goal.loop-s-init
loop-s-init c = λ start u. u

pub phase-requires : goal.phase-requires
phase-requires c =
    let u : IsUnderway c.requires.comes.0 c.args.s (rank c.args.phase) c.loop-s.core = c.loop-s.invariant c.requires.comes.0 c.requires.comes.1 in
    subst IsSome (sym u.runs.there) refl

pub advance-requires : goal.advance-requires
advance-requires c =
    let u : IsUnderway c.requires.comes.0 c.args.s (rank c.args.phase) c.loop-s.core = c.loop-s.invariant c.requires.comes.0 c.requires.comes.1 in
    (u.doing, u.runs)

pub loop-s-smaller : goal.loop-s-smaller
loop-s-smaller c =
    let u : IsUnderway c.requires.comes.0 c.args.s (rank c.args.phase) c.loop-s.core = c.loop-s.invariant c.requires.comes.0 c.requires.comes.1 in
    let here : phase_of u.doing.stage ≡ c.args.phase = sym (c.phase.ensures u.doing u.runs.there) ∙ same_true the_type tt c.phase.result c.args.phase (sym c.eq.ensures ∙ c.loop-s-test.true) in
    nearer c.args.phase c.loop-s.core c.advance.new.self c.args.s u.doing u.doing.stage u.runs refl (ap rank here) (c.in-More.ensures.made u.doing u.runs)

pub loop-s-preserved : goal.loop-s-preserved
loop-s-preserved c = λ start v.
    (let u : IsUnderway start c.args.s (rank c.args.phase) c.loop-s.core = c.loop-s.invariant start v in
    goes start c.args.s (rank c.args.phase) c.loop-s.core c.advance.new.self u u.doing.stage refl (c.in-More.ensures.made u.doing u.runs))

pub unreachable-requires : goal.unreachable-requires
unreachable-requires c =
    let u : IsUnderway c.requires.comes.0 c.args.s (rank c.args.phase) c.loop-s.core = c.loop-s.invariant c.requires.comes.0 c.requires.comes.1 in
    let here : phase_of u.doing.stage ≡ c.args.phase = sym (c.phase.ensures u.doing u.runs.there) ∙ same_true the_type tt c.phase.result c.args.phase (sym c.eq.ensures ∙ c.loop-s-test.true) in
    only_more c.requires.comes.0 c.args.s (rank c.args.phase) c.loop-s.core c.advance.new.self u c.kept.ensures (subst (λ at. rank at < 4) (sym here) c.requires.goes)
    c.advance.result (c.advance.ensures.made u.doing u.runs) c.in_default.not-More c.in_default.not-NoMemory

pub returns : goal.returns
returns c = λ start v.
    (let u : IsUnderway start c.args.s (rank c.args.phase) c.loop-s.core = c.loop-s.invariant start v in
    let apart : phase_of u.doing.stage ≡ c.args.phase → ⊥ = λ same. same_false the_type c.phase.result c.args.phase (sym c.eq.ensures ∙ c.loop-s-test.false) (c.phase.ensures u.doing u.runs.there ∙ same) in
    further start c.args.s (rank c.args.phase) (rank c.args.phase + 1) c.loop-s.core u (behind c.args.phase (phase_of u.doing.stage) u.comes apart))
