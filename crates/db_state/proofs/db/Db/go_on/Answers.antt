use Rattle.std.proofs.Common.{◌≡◌, ◌⊎◌, IsSome, ap, refl, sym, subst, ◌∙◌}
use Rattle.std.specs.FinMap as map
use Rattle.db_state.specs.Inside.{whole_state}
use Rattle.db_state.specs.Stages.{with_position}
use Rattle.db_state.specs.State.{State}
use Rattle.db_state.specs.Steps.{moved_by, CanMove}
use Rattle.db_state.proofs.DbLaws.{running_at, moved_inside}
use Rattle.db_state.proofs.db.Db.go_on.Goals as goal

pub change-requires-clause-there : goal.change-requires-clause-there
change-requires-clause-there g c = subst IsSome (sym (ap (λ (state : State). map.get state.sessions c.args.s.0) c.self.view_is ∙ c.requires.running.1.there)) refl

pub change-requires-clause-may : goal.change-requires-clause-may
change-requires-clause-may g c = λ doing there.
    c.requires.may doing (running_at c.args.self.now c.args.s doing c.requires.running (sym (ap (λ (state : State). map.get state.sessions c.args.s.0) c.self.view_is) ∙ there))

pub invariant_of-self : goal.invariant_of-self
invariant_of-self g c =
    let doing = c.requires.running.0 in
    let runs = c.requires.running.1 in
    let there = ap (λ (state : State). map.get state.sessions c.args.s.0) c.self.view_is ∙ runs.there in
    let changed = c.change.ensures doing there in
    let goes = subst (λ (state : State). (with_position doing changed.0 ≡ doing) ⊎ CanMove state c.args.s doing (with_position doing changed.0)) (sym c.self.view_is) (c.requires.goes doing changed.0 c.change.result runs changed.1) in
    rw changed.2 (moved_inside _ _ _ _ _ c.self.invariant c.args.s doing (with_position doing changed.0) there goes)

pub returns : goal.returns
returns g c = λ doing runs.
    let there = ap (λ (state : State). map.get state.sessions c.args.s.0) c.self.view_is ∙ runs.there in
    let changed = c.change.ensures doing there in (
      changed.0,
      changed.1,
      ap (λ sessions. whole_state c.self.inside.tables c.self.inside.settings c.self.inside.book.notes c.self.inside.next c.self.inside.locks c.self.inside.seats.items sessions) changed.2
          ∙ ap (λ (state : State). moved_by state c.args.s (with_position doing changed.0)) c.self.view_is,
    )
