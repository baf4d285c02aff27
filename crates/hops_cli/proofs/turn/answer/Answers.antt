use Rattle.hops_cli.proofs.AnswerLemmas.{answered}
use Rattle.hops_cli.proofs.turn.answer.Goals as goal

pub returns-in-Done : goal.returns-in-Done
returns-in-Done c = λ start u. answered start c.args.s 4 c.args.core.now c.advance.new.self c.in-Done.i c.in-Done.reply u c.kept.ensures (c.in-Done.ensures.made u.doing u.runs)
