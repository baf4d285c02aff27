use Rattle.std.proofs.Common.{◌≡◌, Some, sym, subst, ◌∙◌}
use Rattle.db_state.specs.declared.session.Session.{Session}
use Rattle.db_state.specs.declared.view.Place.{Place}
use Rattle.hops_core.specs.ReadLocked.{IsOne, IsLook}
use Rattle.hops_core.proofs.read.look.Goals as goal

pub returns : goal.returns
returns c = λ doing place keys runs one.
    let there : Some c.in-Some.doing.now ≡ Some doing = c.in-Some.ensures ∙ runs.there in
    let same : c.in-Some.doing.now ≡ doing = cc in
    let at : c.place_of.result.now ≡ place = c.place_of.ensures place keys (subst (λ (d : Session). IsOne d.stage place keys) (sym same) one) in
    subst (λ (d : Session). IsLook c.args.db.now c.args.s place d.since c.look_at.result) same
    (subst (λ (p : Place). IsLook c.args.db.now c.args.s p c.in-Some.doing.now.since c.look_at.result) at c.look_at.ensures)
