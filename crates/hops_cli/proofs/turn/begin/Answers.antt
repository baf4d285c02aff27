use Rattle.hops_cli.proofs.AnswerLemmas.{begun}
use Rattle.hops_cli.proofs.turn.begin.Goals as goal

pub returns-in-Ok : goal.returns-in-Ok
returns-in-Ok c = begun c.args.core.now c.begin.new.self c.args.number c.args.call.now c.in-Ok.s c.requires.one c.in-Ok.ensures.0 c.in-Ok.ensures.1
