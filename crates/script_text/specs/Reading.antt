-- What readers of parts of a script answer. This project's own.
use Rattle.std.specs.Prelude.{◌≡◌, ℕ, false, List, Option, Some, None, option_and_then, codes, Result, Ok, Err, ⊤}
use Rattle.std.specs.List.{list_all}
use Rattle.std.specs.Option.{option_map_or}
use Rattle.hops_base.specs.User.{is_user}
use Rattle.name_space.specs.Call.{form_of, is_in_range}
use Rattle.name_space.specs.Script.{Script}
use Rattle.name_space.specs.declared.call.Call.{Call}
use Rattle.serde_json.specs.Data.{Data, object, Members}
use Rattle.serde_json.specs.Find.{as_str}
use Rattle.script_text.specs.declared.fault.ScriptError.{ScriptError}
use Rattle.script_text.specs.declared.fault.ScriptError.TheVariants.{Bad, NoMemory}
use Rattle.script_text.specs.declared.fault.ScriptFault.{ScriptFault}
use Rattle.script_text.specs.Json.{at_key}
use Rattle.script_text.specs.CallForms.{arguments_at, kinds_named}
use Rattle.script_text.specs.Faults.{only_if}
use Rattle.script_text.specs.Grammar.{Says}

-- what a reader of a part answers: something that the part says, where it has no fault, or its fault; want of memory is free
abbrev pub IsReadOf : {T : Type 0} → Option ScriptFault → (T → Type 0) → Result T ScriptError → Type 0
IsReadOf fault Is (Ok read) = (fault ≡ None) × Is read
IsReadOf fault Is (Err (Bad told)) = fault ≡ Some told
IsReadOf fault Is (Err NoMemory) = ⊤

-- the call of this name with these values behind it; where there is none, no call is named so or something is out of its range
abbrev pub IsCallMade : List ℕ → List Data → Option Call → Type 0
IsCallMade name values (Some call) = (name ≡ codes (form_of call).word) × ((form_of call).arguments ≡ arguments_at 0 (form_of call).arguments values)
IsCallMade name values None = option_map_or (λ kinds. list_all is_in_range (arguments_at 0 kinds values)) (kinds_named name) false ≡ false

-- the value says the script
abbrev pub SaysScript : Data → Script → Type 0
SaysScript value script = (ms : Members) × (value ≡ object ms) × Says ms script

-- the user that the members of a client tell
abbrev pub user_in : Members → Option (List ℕ)
user_in ms = only_if is_user (option_and_then as_str (at_key "user" ms))
