use Rattle.core_replay.proofs.EndLaws.{any_words}
use Rattle.core_replay.proofs.top.Goals as goal

pub returns-in_default : goal.returns-in_default
returns-in_default g c = any_words _ c.args.words.now _ _ c.in_default.len_at_least
