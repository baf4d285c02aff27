use Rattle.std.proofs.Common.{◌++◌, ◌∷◌, []}
use Rattle.hops_cli.specs.Turning.{opens, Start, IsUnderway}
use Rattle.hops_cli.proofs.AnswerLemmas.{if_turned}
use Rattle.hops_cli.proofs.turn.run_call.Goals as goal

pub returns : goal.returns
returns c =
    let start : Start = record { before = c.args.core.now.stored.notes ++ opens c.in_ok-s.s c.args.number ∷ []; settings = c.args.core.now.stored.settings; number = c.args.number; call = c.args.call.now } in
    let begun : IsUnderway start c.in_ok-s.s 0 c.begin.new.core = c.in_ok-s.ensures in
    let found : IsUnderway start c.in_ok-s.s 1 c.leave.new.core = c.in_ok-leave.ensures start begun in
    let locked : IsUnderway start c.in_ok-s.s 2 c.leave-2.new.core = c.in_ok-leave-2.ensures start found in
    let read : IsUnderway start c.in_ok-s.s 3 c.leave-3.new.core = c.in_ok-leave-3.ensures start locked in
    let reread : IsUnderway start c.in_ok-s.s 4 c.leave-4.new.core = c.in_ok-leave-4.ensures start read in
    if_turned c.args.core.now c.leave-4.new.core c.answer.new.core c.args.number c.args.call.now c.in_ok-s.s reread c.answer.result c.answer.ensures
