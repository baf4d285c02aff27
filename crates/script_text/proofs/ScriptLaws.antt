-- What is known of scripts that were read.
use Rattle.std.proofs.Common.{ℕ, List, subst}
use Rattle.name_space.specs.Script.{Script, IsScript}
use Rattle.script_text.specs.Grammar.{IsScriptText}
use Rattle.script_text.proofs.Exact.{exact}
use Rattle.script_text.proofs.OneScript.{one_script}

-- such a script is within its ranges
pub script_when_read : (bytes : List ℕ) (script : Script) → IsScriptText bytes script → IsScript script
script_when_read bytes script text = let other = exact bytes text.good in subst IsScript (one_script bytes other.0 script other.2 text) other.1
