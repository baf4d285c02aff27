use Rattle.script_text.proofs.Canonical.{canonical}
use Rattle.script_text.proofs.laws.written_value_is_read.Goals as goal

pub returns : goal.returns
returns c = canonical
