use Rattle.std.proofs.Common.{◌≡◌, false, Some, IsTrue, sym, subst, ◌∙◌}
use Rattle.db_state.specs.declared.session.Session.{Session}
use Rattle.db_state.specs.Callers.{IsOpen}
use Rattle.db_state.specs.Stages.{is_over}
use Rattle.db_state.specs.State.{State}
use Rattle.hops_core.proofs.shared.Core.is_open.Goals as goal

pub returns-in-Some : goal.returns-in-Some
returns-in-Some c =
    subst (λ (x : State). (IsTrue c.is_running.result → IsOpen x c.args.s) × (IsOpen x c.args.s → IsTrue c.is_running.result)) c.self.view_is (
      λ so. (c.in-Some.doing.now, record { there = sym c.in-Some.ensures; running = c.is_running.ensures.0 so }),
      λ is.
          let there : Some is.0 ≡ Some c.in-Some.doing.now = sym is.1.there ∙ sym c.in-Some.ensures in
          let same : is.0 ≡ c.in-Some.doing.now = cc in
          c.is_running.ensures.1 (subst (λ (d : Session). is_over d.stage ≡ false) same is.1.running),
    )
