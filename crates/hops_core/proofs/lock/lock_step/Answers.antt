use Rattle.std.proofs.Common.{sym, subst, ◌≡◌}
use Rattle.hops_base.specs.declared.ids.Mode.{Mode}
use Rattle.hops_base.specs.declared.key.Key.{Key}
use Rattle.row_locks.specs.declared.ask.Ask.{Ask}
use Rattle.db_state.specs.declared.session.Phase.TheVariants as phase
use Rattle.db_state.specs.declared.session.Session.{Session}
use Rattle.db_state.specs.Callers.{IsTaken}
use Rattle.db_state.specs.Stages.{phase_of}
use Rattle.db_state.specs.State.{State}
use Rattle.db_state.specs.Steps.{CanMeet}
use Rattle.hops_core.specs.Steps.{IsMeeting}
use Rattle.hops_core.proofs.LockLaws.{asks, takes, meets}
use Rattle.hops_core.proofs.StageLaws.{same_session}
use Rattle.hops_core.proofs.lock.lock_step.Goals as goal

pub meet-requires : goal.meet-requires
meet-requires c =
    let k = asks c.args.db.now c.args.s c.requires.doing c.requires.runs c.requires.here c.core.ensures in
    let took = c.take.ensures c.requires.doing k.0 c.requires.runs.there k.1 in
    let busy = subst (λ (a : Ask). IsTaken c.args.db.now c.args.s c.requires.doing k.0 a c.take.new.self) c.in-Busy.is took in
    subst (λ (x : State). (doing : Session) × (k : Key × Mode) × CanMeet x c.args.s doing k c.in-Busy.holder) (sym busy.1)
    (c.requires.doing, k.0, record { there = c.requires.runs.there; next = k.1; busy = busy.0 })

pub returns-in-Held : goal.returns-in-Held
returns-in-Held c = λ doing runs.
    let here = subst (λ (d : Session). phase_of d.stage ≡ phase.Lock) (same_session c.args.db.now c.args.s c.requires.doing doing c.requires.runs runs) c.requires.here in
    let k = asks c.args.db.now c.args.s doing runs here c.core.ensures in
    let took = subst (λ (a : Ask). IsTaken c.args.db.now c.args.s doing k.0 a c.take.new.self) c.in-Held.is (c.take.ensures doing k.0 runs.there k.1) in
    takes c.args.db.now c.args.s doing runs here k.0 c.take.new.self k.1 took.0 took.1

pub returns-in-Busy : goal.returns-in-Busy
returns-in-Busy c = λ doing runs.
    let here = subst (λ (d : Session). phase_of d.stage ≡ phase.Lock) (same_session c.args.db.now c.args.s c.requires.doing doing c.requires.runs runs) c.requires.here in
    let k = asks c.args.db.now c.args.s doing runs here c.core.ensures in
    let took = subst (λ (a : Ask). IsTaken c.args.db.now c.args.s doing k.0 a c.take.new.self) c.in-Busy.is (c.take.ensures doing k.0 runs.there k.1) in
    meets c.args.db.now c.args.s doing runs here k.0 c.in-Busy.holder c.meet.result c.meet.new.db k.1 took.0
    (subst (λ (x : State). IsMeeting x c.args.s c.in-Busy.holder c.meet.result c.meet.new.db) took.1 c.meet.ensures)

pub returns-in-NoMemory : goal.returns-in-NoMemory
returns-in-NoMemory c = λ doing runs.
    let here = subst (λ (d : Session). phase_of d.stage ≡ phase.Lock) (same_session c.args.db.now c.args.s c.requires.doing doing c.requires.runs runs) c.requires.here in
    let k = asks c.args.db.now c.args.s doing runs here c.core.ensures in
    subst (λ (a : Ask). IsTaken c.args.db.now c.args.s doing k.0 a c.take.new.self) c.in-NoMemory.is (c.take.ensures doing k.0 runs.there k.1)
