use Rattle.script_text.proofs.Exact.{exact}
use Rattle.script_text.proofs.laws.no_fault_is_a_script.Goals as goal

pub returns : goal.returns
returns c = exact
