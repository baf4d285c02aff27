-- Which bytes are which script. This project's own.
use Rattle.std.specs.Prelude.{◌≡◌, ℕ, true, List, [], map, Some, None, unwrap_or, Result, Ok, Err, ⊤}
use Rattle.std.specs.List.{AllZip}
use Rattle.name_space.specs.Script.{ClientCalls, Script, default_tries, default_grace}
use Rattle.name_space.specs.declared.call.Call.{Call}
use Rattle.name_space.specs.Call.{is_valid}
use Rattle.serde_json.specs.Data.{Data, boolean, string, object, Members}
use Rattle.script_text.specs.declared.fault.ScriptError.{ScriptError}
use Rattle.script_text.specs.declared.fault.ScriptError.TheVariants.{Bad, NoMemory}
use Rattle.script_text.specs.Json.{whole, row, at_key}
use Rattle.script_text.specs.Form.{call_data, stop_data}
use Rattle.script_text.specs.Faults.{value_of, script_fault}

-- the value says the call: it is what is written for the call, and the call is valid
abbrev pub SaysCall : Data → Call → Type 0
SaysCall value call = (value ≡ call_data call) × (is_valid call ≡ true)

-- the members say these calls
abbrev pub HasCalls : Members → List Call → Type 0
HasCalls ms calls = (values : List Data) × (at_key "calls" ms ≡ Some (row values)) × AllZip SaysCall values calls

-- the members say the client
abbrev pub HasClient : Members → ClientCalls → Type 0
HasClient ms client = (at_key "user" ms ≡ Some (string client.user)) × HasCalls ms client.calls

-- the value says the client
abbrev pub SaysClient : Data → ClientCalls → Type 0
SaysClient value client = (ms : Members) × (value ≡ object ms) × HasClient ms client

-- the members say these clients
abbrev pub HasClients : Members → List ClientCalls → Type 0
HasClients ms clients = (values : List Data) × (at_key "clients" ms ≡ Some (row values)) × AllZip SaysClient values clients

-- the members say the script; four of them may be absent, and each has then the value that is given here
pub record Says (ms : Members) (script : Script) : Type 0 where
  pub namenodes : at_key "namenodes" ms ≡ Some (whole script.namenodes)
  pub clients : HasClients ms script.clients
  pub stops : unwrap_or (at_key "stops" ms) (row []) ≡ row (map stop_data script.stops)
  pub tries : unwrap_or (at_key "tries" ms) (whole default_tries) ≡ whole script.tries
  pub grace : unwrap_or (at_key "grace" ms) (whole default_grace) ≡ whole script.grace
  pub persist : unwrap_or (at_key "persist" ms) (boolean true) ≡ boolean script.persist

-- the bytes are a text of the script: they break no rule and say it
pub record IsScriptText (bytes : List ℕ) (script : Script) : Type 0 where
  pub good : script_fault bytes ≡ None
  pub says : (ms : Members) × (value_of bytes ≡ Some (object ms)) × Says ms script

-- what a reader answers: the script of which the bytes are a text, or why they are none's; want of memory is free
abbrev pub IsScriptRead : List ℕ → Result Script ScriptError → Type 0
IsScriptRead bytes (Ok script) = IsScriptText bytes script
IsScriptRead bytes (Err (Bad told)) = script_fault bytes ≡ Some told
IsScriptRead bytes (Err NoMemory) = ⊤
