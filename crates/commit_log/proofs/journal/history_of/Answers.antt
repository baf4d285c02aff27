use Rattle.std.proofs.Common.{ap, sym, ◌∙◌, ◌++◌, ◌∷◌, [], cond, append-nil, Bool}
use Rattle.commit_log.proofs.FlagMarkLemmas.{journal-next}
use Rattle.commit_log.proofs.journal.history_of.Goals.{then-tells_history+in_ok-push, else-tells_history}
use Rattle.commit_log.proofs.journal.history_of.Goals as goal

pub loop-i-preserved : goal.loop-i-preserved
loop-i-preserved c =
    let next = journal-next c.args.notes.now c.loop-i.i c.index-notes-i.result c.loop-i.numbers.items _ c.loop-i-test.true c.index-notes-i.is c.loop-i.invariant in
    elim c.if-tells_history.branch [
      | then-tells_history+in_ok-push w ↦ next (ap (λ v. v.items) w.numbers-is ∙ w.in_ok-push.ensures.items ∙ ap (λ (b : Bool). c.loop-i.numbers.items ++ cond b (c.loop-i.i ∷ []) []) (sym w.if-tells_history.true ∙ c.tells_history.ensures))
      | else-tells_history w ↦ next (ap (λ v. v.items) w.numbers-is ∙ sym (append-nil c.loop-i.numbers.items) ∙ ap (λ (b : Bool). c.loop-i.numbers.items ++ cond b (c.loop-i.i ∷ []) []) (sym w.if-tells_history.false ∙ c.tells_history.ensures))
    ]
