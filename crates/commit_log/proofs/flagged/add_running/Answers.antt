use Rattle.std.proofs.Common.{sym, ◌∙◌}
use Rattle.commit_log.proofs.FlagMarkLemmas.{added, passed_over}
use Rattle.commit_log.proofs.flagged.add_running.Goals as goal

pub returns-in_ok-insert : goal.returns-in_ok-insert
returns-in_ok-insert c = record { ok = λ op. added c.args.marks.now c.args.flag.0 op c.args.flag.1 _ _ (sym c.is_running.ensures ∙ c.if-is_running.true) (c.in_ok-insert.ensures.updates.0 op) }

pub returns-else-is_running : goal.returns-else-is_running
returns-else-is_running c = record { ok = λ op. passed_over c.args.marks.now c.args.flag.0 op c.args.flag.1 _ (sym c.is_running.ensures ∙ c.if-is_running.false) }
