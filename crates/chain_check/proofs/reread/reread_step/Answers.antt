use Rattle.std.proofs.Common.{inr, sym, subst}
use Rattle.db_state.specs.State.{State}
use Rattle.chain_check.specs.declared.reread.Reread.{Reread}
use Rattle.chain_check.specs.Rereading.{IsRereadStep}
use Rattle.chain_check.proofs.StepLaws.{passes, halts, same_left, has_mark}
use Rattle.chain_check.proofs.reread.reread_step.Goals as goal

pub go_on-requires-clause-may : goal.go_on-requires-clause-may
go_on-requires-clause-may c = λ doing runs.
    let is = c.requires in
    let left = same_left c.args.db.now c.args.s doing is.0 is.1 is.2 runs is.3 is.4 in
    (is.1, is.2, left.stage, has_mark c.args.db.now c.args.s is.1 c.in-Ok.passed (c.in-Ok.ensures doing is.1 is.2 runs left))

pub go_on-requires-clause-goes : goal.go_on-requires-clause-goes
go_on-requires-clause-goes c = λ doing new told runs post.
    let is = c.requires in
    let left = same_left c.args.db.now c.args.s doing is.0 is.1 is.2 runs is.3 is.4 in
    inr (passes c.args.db.now c.args.s doing is.1 is.2 c.core.ensures runs left.stage c.in-Ok.passed (c.in-Ok.ensures doing is.1 is.2 runs left) new told (post.1 is.1 is.2 left.stage)).0

pub returns-in-Ok : goal.returns-in-Ok
returns-in-Ok c = λ doing reads keys runs left.
    let went = c.go_on.ensures doing runs in
    let step = passes c.args.db.now c.args.s doing reads keys c.core.ensures runs left.stage c.in-Ok.passed (c.in-Ok.ensures doing reads keys runs left) went.0 c.go_on.result (went.1.1 reads keys left.stage) in
    subst (λ (new : State). IsRereadStep c.args.db.now c.args.s doing reads keys c.go_on.result new) (sym went.2) step.1

pub returns-in-Err : goal.returns-in-Err
returns-in-Err c = λ doing reads keys runs left.
    let step = halts c.args.db.now c.args.s doing reads keys c.core.ensures runs left.stage c.in-Err.halt (c.in-Err.ensures doing reads keys runs left) in
    subst (λ (told : Reread). IsRereadStep c.args.db.now c.args.s doing reads keys told c.args.db.now) (sym c.told_of.ensures) step
