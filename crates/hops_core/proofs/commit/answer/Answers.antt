use Rattle.std.proofs.Common.{◌≡◌, length, Some, sym, ap, subst, ◌∙◌}
use Rattle.std.specs.FinMap as map
use Rattle.db_state.specs.declared.session.Session.{Session}
use Rattle.db_state.specs.Callers.{IsAnswer}
use Rattle.db_state.specs.State.{State}
use Rattle.db_state.specs.Steps.{Completes}
use Rattle.hops_core.proofs.CommitStepLemmas.{has_answered, may_answer, no_operation}
use Rattle.hops_core.proofs.commit.answer.Goals as goal

pub unreachable-requires : goal.unreachable-requires
unreachable-requires c =
    no_operation c.args.db.now c.args.s c.requires c.core.ensures c.in_ok-outcome.outcome c.in_ok-outcome.ensures.outcome c.plain_keeps_a_namespace.ensures c.in_default.field-0 c.in_default.is

pub answer-requires : goal.answer-requires
answer-requires c = subst (λ (state : State). IsAnswer state c.args.s c.in-Answer.writes.items c.in-Answer.reply) (sym c.in_ok-outcome.ensures.same)
    (may_answer c.args.db.now c.args.s c.requires c.core.ensures c.in_ok-outcome.outcome c.in_ok-outcome.ensures.outcome c.plain_keeps_a_namespace.ensures c.in-Answer.reply c.in-Answer.writes c.in-Answer.is)

pub returns-clause-ok : goal.returns-clause-ok
returns-clause-ok c =
    let same : c.outcome_of.new.db ≡ c.args.db.now = c.in_ok-outcome.ensures.same in
    let completes : (doing : Session) → map.get c.args.db.now.sessions c.args.s.0 ≡ Some doing → Completes c.args.db.now c.answer.new.self c.args.s doing c.in-Answer.writes.items c.in-Answer.reply =
    subst (λ (state : State). (doing : Session) → map.get state.sessions c.args.s.0 ≡ Some doing → Completes state c.answer.new.self c.args.s doing c.in-Answer.writes.items c.in-Answer.reply) same c.in_ok-answer.ensures.ok in
    let counted : c.len-note.result ≡ length c.args.db.now.stored.notes = c.len-note.ensures ∙ ap length c.book.ensures ∙ ap (λ (state : State). length state.stored.notes) same in
    has_answered c.args.db.now c.args.s c.requires c.core.ensures c.in_ok-outcome.outcome c.in_ok-outcome.ensures.outcome c.plain_keeps_a_namespace.ensures c.in-Answer.reply c.in-Answer.writes c.in-Answer.is
    c.answer.new.self c.len-note.result c.in_ok-told.told completes counted c.in_ok-told.ensures
