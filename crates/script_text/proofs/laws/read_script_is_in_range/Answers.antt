use Rattle.script_text.proofs.ScriptLaws.{script_when_read}
use Rattle.script_text.proofs.laws.read_script_is_in_range.Goals as goal

pub returns : goal.returns
returns c = script_when_read
