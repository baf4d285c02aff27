use Rattle.script_text.proofs.WrittenText.{one_canonical}
use Rattle.script_text.proofs.laws.canonical_text_is_of_one_script.Goals as goal

pub returns : goal.returns
returns c = one_canonical
