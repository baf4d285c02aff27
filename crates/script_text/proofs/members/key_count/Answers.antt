use Rattle.std.proofs.Common.{sym, ◌∙◌}
use Rattle.script_text.proofs.ViewLemmas.{key_count}
use Rattle.script_text.proofs.members.key_count.Goals as goal

pub returns : goal.returns
returns c = c.len.ensures.len ∙ sym (key_count c.args.members.now.entries)
