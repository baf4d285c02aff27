use Rattle.script_text.proofs.GeneratedScripts.{generated_good}
use Rattle.script_text.proofs.laws.generated_is_a_script.Goals as goal

pub returns : goal.returns
returns c = generated_good
