-- The values of scripts and calls have no float.
use Rattle.std.proofs.Common.{◌≡◌, ℕ, false, List, [], ◌∷◌, map, Option, Some, None, refl}
use Rattle.hops_base.specs.declared.ids.NodeNo.{NodeNo}
use Rattle.name_space.specs.Call.{Argument, a_path, a_truth, a_number, a_quota, form_of}
use Rattle.name_space.specs.Script.{ClientCalls, Script}
use Rattle.name_space.specs.declared.call.Call.{Call}
use Rattle.serde_json.specs.Data.{Data}
use Rattle.serde_json.specs.View.{items_of}
use Rattle.serde_json.specs.Written.{has_float, items_have_float}
use Rattle.script_text.specs.Json.{optional}
use Rattle.script_text.specs.Form.{argument_data, call_data, client_data, stop_data, script_data}

-- a row of values that have none
pub no_float_in_map : {T : Type 0} (f : T → Data) → ((t : T) → has_float (f t) ≡ false) → (ts : List T) → items_have_float (items_of (map f ts)) ≡ false
no_float_in_map f none [] = refl
no_float_in_map f none (t ∷ ts) = rw (none t) (no_float_in_map f none ts)

pub no_float_in_optional : (n : Option ℕ) → has_float (optional n) ≡ false
no_float_in_optional None = refl
no_float_in_optional (Some n) = refl

no_float_in_argument : (one : Argument) → has_float (argument_data one) ≡ false
no_float_in_argument (a_path path) = refl
no_float_in_argument (a_truth truth) = refl
no_float_in_argument (a_number least most number) = refl
no_float_in_argument (a_quota limit) = no_float_in_optional limit

pub no_float_in_call : (asked : Call) → has_float (call_data asked) ≡ false
no_float_in_call asked = no_float_in_map argument_data no_float_in_argument (form_of asked).arguments

no_float_in_client : (client : ClientCalls) → has_float (client_data client) ≡ false
no_float_in_client client = rw (no_float_in_map call_data no_float_in_call client.calls) refl

no_float_in_stop : (stop : NodeNo × ℕ) → has_float (stop_data stop) ≡ false
no_float_in_stop stop = refl

pub no_float_in_script : (script : Script) → has_float (script_data script) ≡ false
no_float_in_script script = rw (no_float_in_map client_data no_float_in_client script.clients, no_float_in_map stop_data no_float_in_stop script.stops) refl
