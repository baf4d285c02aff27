use Rattle.hops_cli.proofs.WordLemmas.{numeral}
use Rattle.hops_cli.proofs.words.value_of.Goals as goal

pub unreachable-requires : goal.unreachable-requires
unreachable-requires c = c.in-Err.ensures.value.0 (numeral c.args.word.now c.requires)
