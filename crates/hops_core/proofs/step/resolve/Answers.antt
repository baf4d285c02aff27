use Rattle.std.proofs.Common.{◌≡◌, subst}
use Rattle.db_state.specs.declared.session.Phase.TheVariants as phase
use Rattle.db_state.specs.declared.session.Session.{Session}
use Rattle.db_state.specs.Stages.{phase_of}
use Rattle.path_resolver.specs.declared.resolve.Resolve.{Resolve}
use Rattle.path_resolver.specs.Resolving.{IsResolveStep}
use Rattle.hops_core.proofs.StageLaws.{same_session}
use Rattle.hops_core.proofs.StepLaws.{unresolved, resolves, resolves_unflagged}
use Rattle.hops_core.proofs.step.resolve.Goals as goal

pub resolve_step-requires : goal.resolve_step-requires
resolve_step-requires c =
    let un = unresolved c.args.db.now c.args.s c.requires.doing c.requires.runs c.requires.steady c.requires.here in
    (c.requires.doing, un.0, un.1, c.requires.runs, un.2)

pub unreachable-requires : goal.unreachable-requires
unreachable-requires c =
    let un = unresolved c.args.db.now c.args.s c.requires.doing c.requires.runs c.requires.steady c.requires.here in
    let made = c.resolve_step.ensures c.requires.doing un.0 un.1 c.requires.runs un.2 in
    resolves_unflagged c.args.db.now c.args.s c.requires.doing c.requires.runs c.core.ensures.stored.flags un.0 un.1 c.in-Flagged.field-0 c.resolve_step.new.db
    (subst (λ (told : Resolve). IsResolveStep c.args.db.now c.args.s c.requires.doing un.0 un.1 told c.resolve_step.new.db) c.in-Flagged.is made)

pub returns-in-More : goal.returns-in-More
returns-in-More c = λ doing runs.
    let here = subst (λ (d : Session). phase_of d.stage ≡ phase.Resolve) (same_session c.args.db.now c.args.s c.requires.doing doing c.requires.runs runs) c.requires.here in
    let un = unresolved c.args.db.now c.args.s doing runs c.requires.steady here in
    resolves c.args.db.now c.args.s doing runs un.0 un.1 c.resolve_step.result c.resolve_step.new.db un.2 c.in-More.is (c.resolve_step.ensures doing un.0 un.1 runs un.2)

pub returns-in-NoMemory : goal.returns-in-NoMemory
returns-in-NoMemory c = λ doing runs.
    let here = subst (λ (d : Session). phase_of d.stage ≡ phase.Resolve) (same_session c.args.db.now c.args.s c.requires.doing doing c.requires.runs runs) c.requires.here in
    let un = unresolved c.args.db.now c.args.s doing runs c.requires.steady here in
    subst (λ (told : Resolve). IsResolveStep c.args.db.now c.args.s doing un.0 un.1 told c.resolve_step.new.db) c.in-NoMemory.is (c.resolve_step.ensures doing un.0 un.1 runs un.2)
