use Rattle.std.proofs.Common.{◌≡◌, false, sym, subst}
use Rattle.db_state.specs.declared.session.Phase.TheVariants as phase
use Rattle.db_state.specs.declared.session.Session.{Session}
use Rattle.db_state.specs.Callers.{IsBehind}
use Rattle.db_state.specs.Stages.{phase_of}
use Rattle.db_state.specs.State.{State}
use Rattle.chain_check.specs.declared.reread.Reread.{Reread}
use Rattle.chain_check.specs.Rereading.{IsRereadStep}
use Rattle.hops_core.specs.Steps.{IsChanging}
use Rattle.hops_core.proofs.StageLaws.{same_session}
use Rattle.hops_core.proofs.StepLaws.{has_left, rereads, rereads_unflagged, differs_again, meets_rereading}
use Rattle.hops_core.proofs.step.reread.Goals as goal

pub reread_step-requires : goal.reread_step-requires
reread_step-requires c =
    let left = has_left c.args.db.now c.args.s c.requires.doing c.requires.runs c.requires.steady c.requires.here in
    (c.requires.doing, left.0, left.1, c.requires.runs, left.2)

pub change-requires : goal.change-requires
change-requires c =
    let left = has_left c.args.db.now c.args.s c.requires.doing c.requires.runs c.requires.steady c.requires.here in
    let made = subst (λ (told : Reread). IsRereadStep c.args.db.now c.args.s c.requires.doing left.0 left.1 told c.reread_step.new.db) c.in-Changed.is
    (c.reread_step.ensures c.requires.doing left.0 left.1 c.requires.runs left.2) in
    subst (λ (x : State). IsBehind x c.args.s false) (sym made.3)
    (c.requires.doing, differs_again c.args.db.now c.args.s c.requires.doing c.requires.runs c.requires.steady left.0 left.1 c.reread_step.new.db left.2 made)

pub unreachable-requires : goal.unreachable-requires
unreachable-requires c =
    let left = has_left c.args.db.now c.args.s c.requires.doing c.requires.runs c.requires.steady c.requires.here in
    rereads_unflagged c.args.db.now c.args.s c.requires.doing c.requires.runs c.core.ensures.stored.flags left.0 left.1 c.in-Flagged.field-0 c.reread_step.new.db
    (subst (λ (told : Reread). IsRereadStep c.args.db.now c.args.s c.requires.doing left.0 left.1 told c.reread_step.new.db) c.in-Flagged.is (c.reread_step.ensures c.requires.doing left.0 left.1 c.requires.runs left.2))

pub returns-in-More : goal.returns-in-More
returns-in-More c = λ doing runs.
    let here = subst (λ (d : Session). phase_of d.stage ≡ phase.Reread) (same_session c.args.db.now c.args.s c.requires.doing doing c.requires.runs runs) c.requires.here in
    let left = has_left c.args.db.now c.args.s doing runs c.requires.steady here in
    rereads c.args.db.now c.args.s doing runs left.0 left.1 c.reread_step.result c.reread_step.new.db left.2 c.in-More.is (c.reread_step.ensures doing left.0 left.1 runs left.2)

pub returns-in-Changed : goal.returns-in-Changed
returns-in-Changed c = λ doing runs.
    let here = subst (λ (d : Session). phase_of d.stage ≡ phase.Reread) (same_session c.args.db.now c.args.s c.requires.doing doing c.requires.runs runs) c.requires.here in
    let left = has_left c.args.db.now c.args.s doing runs c.requires.steady here in
    let made = subst (λ (told : Reread). IsRereadStep c.args.db.now c.args.s doing left.0 left.1 told c.reread_step.new.db) c.in-Changed.is (c.reread_step.ensures doing left.0 left.1 runs left.2) in
    meets_rereading c.args.db.now c.args.s doing runs here c.change.result c.change.new.db (subst (λ (x : State). IsChanging x c.args.s c.change.result c.change.new.db) made.3 c.change.ensures)
