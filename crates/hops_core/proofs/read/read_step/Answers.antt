use Rattle.std.proofs.Common.{Err, inr, refl, sym, subst}
use Rattle.hops_core.specs.declared.read.Locked.{Locked}
use Rattle.hops_core.specs.declared.read.Halt.{Halt}
use Rattle.hops_core.specs.ReadLocked.{IsLocked, IsUnchanged, IsLook}
use Rattle.hops_core.proofs.ReadStepLaws.{differs, goes, has_one, rows_fit, same_one}
use Rattle.hops_core.proofs.read.read_step.Goals as goal

pub look-requires : goal.look-requires
look-requires c = (c.requires.doing, c.requires.runs, has_one c.args.db.now c.args.s c.core.ensures c.requires)

pub go_on-requires-clause-may : goal.go_on-requires-clause-may
go_on-requires-clause-may c = λ doing runs.
    let one = same_one c.args.db.now c.args.s doing c.requires.doing runs c.requires.runs (has_one c.args.db.now c.args.s c.core.ensures c.requires) in
    let again = c.in-Ok.ensures doing one.0 one.1 runs one.2 in
    (one.0, one.1, one.2, rows_fit c.args.db.now c.args.s doing one.0 one.1 c.core.ensures runs one.2 c.requires.steady c.in-Ok.again again)

pub go_on-requires-clause-goes : goal.go_on-requires-clause-goes
go_on-requires-clause-goes c = λ doing new told runs post.
    let one = same_one c.args.db.now c.args.s doing c.requires.doing runs c.requires.runs (has_one c.args.db.now c.args.s c.core.ensures c.requires) in
    let again = c.in-Ok.ensures doing one.0 one.1 runs one.2 in
    inr (goes c.args.db.now c.args.s doing one.0 one.1 c.core.ensures runs one.2 c.requires.steady c.in-Ok.again again new told (post.1 one.0 one.1 one.2))

pub returns-in-Ok : goal.returns-in-Ok
returns-in-Ok c = λ doing runs.
    let one = same_one c.args.db.now c.args.s doing c.requires.doing runs c.requires.runs (has_one c.args.db.now c.args.s c.core.ensures c.requires) in
    let again = c.in-Ok.ensures doing one.0 one.1 runs one.2 in
    let went = c.go_on.ensures doing runs in
    let gone = went.1.1 one.0 one.1 one.2 in
    subst (λ (told : Locked). IsLocked c.args.db.now c.args.s doing told c.go_on.new.self) (sym gone.answer) (record {
      after = _;
      can = goes c.args.db.now c.args.s doing one.0 one.1 c.core.ensures runs one.2 c.requires.steady c.in-Ok.again again went.0 c.go_on.result gone;
      moved = went.2;
    })

pub returns-in-Err-Changed : goal.returns-in-Err-Changed
returns-in-Err-Changed c = λ doing runs.
    let one = same_one c.args.db.now c.args.s doing c.requires.doing runs c.requires.runs (has_one c.args.db.now c.args.s c.core.ensures c.requires) in
    let told : IsUnchanged c.args.db.now c.args.s one.0 → ⊥ = subst (λ (why : Halt). IsLook c.args.db.now c.args.s one.0 doing.since (Err why)) c.in-Err-Changed.field-0-is (c.in-Err-Changed.ensures doing one.0 one.1 runs one.2) in
    (differs c.args.db.now c.args.s doing one.0 one.1 c.core.ensures runs one.2 told, refl)
