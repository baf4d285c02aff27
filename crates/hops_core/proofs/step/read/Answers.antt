use Rattle.std.proofs.Common.{◌≡◌, false, sym, subst}
use Rattle.db_state.specs.declared.session.Phase.TheVariants as phase
use Rattle.db_state.specs.declared.session.Session.{Session}
use Rattle.db_state.specs.Callers.{IsBehind}
use Rattle.db_state.specs.Stages.{phase_of}
use Rattle.db_state.specs.State.{State}
use Rattle.hops_core.specs.declared.read.Locked.{Locked}
use Rattle.hops_core.specs.ReadLocked.{IsLocked}
use Rattle.hops_core.specs.Steps.{IsChanging}
use Rattle.hops_core.proofs.StageLaws.{same_session}
use Rattle.hops_core.proofs.StepLaws.{differs, goes_reading, meets_reading}
use Rattle.hops_core.proofs.step.read.Goals as goal

pub change-requires : goal.change-requires
change-requires c =
    let made = subst (λ (told : Locked). IsLocked c.args.db.now c.args.s c.requires.doing told c.read_step.new.db) c.in-Changed.is (c.read_step.ensures c.requires.doing c.requires.runs) in
    subst (λ (x : State). IsBehind x c.args.s false) (sym made.1)
    (c.requires.doing, differs c.args.db.now c.args.s c.requires.doing c.requires.runs c.requires.steady made.0)

pub returns-in-AsFound : goal.returns-in-AsFound
returns-in-AsFound c = λ doing runs.
    let here = subst (λ (d : Session). phase_of d.stage ≡ phase.Read) (same_session c.args.db.now c.args.s c.requires.doing doing c.requires.runs runs) c.requires.here in
    goes_reading c.args.db.now c.args.s doing runs here c.read_step.new.db
    (subst (λ (told : Locked). IsLocked c.args.db.now c.args.s doing told c.read_step.new.db) c.in-AsFound.is (c.read_step.ensures doing runs))

pub returns-in-Changed : goal.returns-in-Changed
returns-in-Changed c = λ doing runs.
    let here = subst (λ (d : Session). phase_of d.stage ≡ phase.Read) (same_session c.args.db.now c.args.s c.requires.doing doing c.requires.runs runs) c.requires.here in
    let made = subst (λ (told : Locked). IsLocked c.args.db.now c.args.s doing told c.read_step.new.db) c.in-Changed.is (c.read_step.ensures doing runs) in
    meets_reading c.args.db.now c.args.s doing runs here c.change.result c.change.new.db (subst (λ (x : State). IsChanging x c.args.s c.change.result c.change.new.db) made.1 c.change.ensures)

pub returns-in-NoMemory : goal.returns-in-NoMemory
returns-in-NoMemory c = λ doing runs. subst (λ (told : Locked). IsLocked c.args.db.now c.args.s doing told c.read_step.new.db) c.in-NoMemory.is (c.read_step.ensures doing runs)
