use Rattle.script_text.proofs.WrittenText.{canonical_read}
use Rattle.script_text.proofs.laws.canonical_text_is_read.Goals as goal

pub returns : goal.returns
returns c = canonical_read
