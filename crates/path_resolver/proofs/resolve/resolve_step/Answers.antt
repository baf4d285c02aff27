use Rattle.std.proofs.Common.{◌≡◌, inr, refl, sym, ap, subst, ◌∙◌}
use Rattle.db_state.specs.declared.session.Position.{Position}
use Rattle.db_state.specs.Stages.{position_of, with_position}
use Rattle.db_state.specs.Steps.{CanMove, moved_by}
use Rattle.path_resolver.specs.declared.resolve.Resolve as answer
use Rattle.path_resolver.specs.Resolving.{IsResolveStep}
use Rattle.path_resolver.specs.Stepping.{taken, told_by}
use Rattle.path_resolver.proofs.TakeLaws.{resolves, step_for, has_room, step_goes}
use Rattle.path_resolver.proofs.resolve.resolve_step.Goals as goal

pub go_on-requires-clause-may : goal.go_on-requires-clause-may
go_on-requires-clause-may c = λ doing runs.
    let un = resolves c.args.db.now c.args.s doing c.requires runs in
    has_room c.args.db.now c.args.s doing un.0 un.1 c.core.ensures runs un.2 c.in-Ok.step (step_for c.args.db.now c.args.s doing c.in-Some.doing.now un.0 un.1 c.in-Ok.step c.in-Some.ensures runs c.in-Ok.ensures un.2)

pub go_on-requires-clause-goes : goal.go_on-requires-clause-goes
go_on-requires-clause-goes c = λ doing new told runs post.
    let un = resolves c.args.db.now c.args.s doing c.requires runs in
    let is = step_for c.args.db.now c.args.s doing c.in-Some.doing.now un.0 un.1 c.in-Ok.step c.in-Some.ensures runs c.in-Ok.ensures un.2 in
    let position : new ≡ taken c.in-Ok.step (position_of doing) = ap (λ (p : Position × answer.Resolve). p.0) post.1 in
    let goes = step_goes c.args.db.now c.args.s doing un.0 un.1 c.core.ensures runs un.2 c.in-Ok.step is (moved_by c.args.db.now c.args.s (with_position doing (taken c.in-Ok.step (position_of doing)))) refl in
    inr (subst (λ (p : Position). CanMove c.args.db.now c.args.s doing (with_position doing p)) (sym position) goes.0)

pub returns : goal.returns
returns c = λ doing path found runs un.
    let is = step_for c.args.db.now c.args.s doing c.in-Some.doing.now path found c.in-Ok.step c.in-Some.ensures runs c.in-Ok.ensures un in
    let went = c.go_on.ensures doing runs in
    let position : went.0 ≡ taken c.in-Ok.step (position_of doing) = ap (λ (p : Position × answer.Resolve). p.0) went.1.1 in
    let told : c.go_on.result ≡ told_by c.in-Ok.step.end = ap (λ (p : Position × answer.Resolve). p.1) went.1.1 ∙ c.told_by-told.ensures in
    let moved : c.go_on.new.self ≡ moved_by c.args.db.now c.args.s (with_position doing (taken c.in-Ok.step (position_of doing))) = went.2 ∙ ap (λ (p : Position). moved_by c.args.db.now c.args.s (with_position doing p)) position in
    let goes = step_goes c.args.db.now c.args.s doing path found c.core.ensures runs un c.in-Ok.step is c.go_on.new.self moved in
    subst (λ (answered : answer.Resolve). IsResolveStep c.args.db.now c.args.s doing path found answered c.go_on.new.self) (sym told) goes.1
