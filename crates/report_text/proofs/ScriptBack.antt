-- A script of paths of names is read back from its value.
use Rattle.std.proofs.Common.{◌≡◌, ℕ, true, List, [], ◌∷◌, map, refl, ap}
use Rattle.std.specs.List.{list_all}
use Rattle.std.proofs.lemmas.Bool.{and_parts, and_from}
use Rattle.hops_base.specs.Name.{is_name}
use Rattle.hops_base.specs.Path.{is_short}
use Rattle.hops_base.specs.declared.ids.NodeNo.{NodeNo}
use Rattle.name_space.specs.Call.{a_path, is_in_range, is_valid, paths_of}
use Rattle.name_space.specs.Script.{ClientCalls, Script, IsScript, is_client}
use Rattle.name_space.specs.declared.call.Call.{Call}
use Rattle.name_space.specs.declared.call.Call.TheVariants as call
use Rattle.name_space.proofs.CallForms.{valid_paths}
use Rattle.serde_json.specs.Data.{Data}
use Rattle.script_text.specs.Json.{values_in, as_whole, text_in, number_in, truth_in}
use Rattle.script_text.specs.Form.{call_data, client_data, stop_data, script_data}
use Rattle.report_text.specs.OneReport.{are_of_names}
use Rattle.report_text.proofs.Decoding.{value_placed, field_at, path_said, under, optional_back, row_back, row_back_of, path_back}

-- the call that a value says
abbrev pub call_in : Data → Call
call_in value =
    under (call.Usage (path_said (value_placed 1 value))) (value_placed 0 value) (
    ("mkdirs", call.Mkdirs (path_said (value_placed 1 value)))
    ∷ ("create", call.Create (path_said (value_placed 1 value)) (truth_in (value_placed 2 value)))
    ∷ ("append", call.Append (path_said (value_placed 1 value)))
    ∷ ("grow", call.Grow (path_said (value_placed 1 value)) (number_in (value_placed 2 value)))
    ∷ ("close", call.Close (path_said (value_placed 1 value)))
    ∷ ("stat", call.Stat (path_said (value_placed 1 value)))
    ∷ ("list", call.List (path_said (value_placed 1 value)))
    ∷ ("delete", call.Delete (path_said (value_placed 1 value)) (truth_in (value_placed 2 value)))
    ∷ ("rename", call.Rename (path_said (value_placed 1 value)) (path_said (value_placed 2 value)))
    ∷ ("chmod", call.Chmod (path_said (value_placed 1 value)) (number_in (value_placed 2 value)))
    ∷ ("set_quota", call.SetQuota (path_said (value_placed 1 value)) (as_whole (value_placed 2 value)) (as_whole (value_placed 3 value)))
    ∷ []
    )

pub call_back : (asked : Call) → are_of_names (paths_of asked) ≡ true → call_in (call_data asked) ≡ asked
call_back (call.Mkdirs path) named = ap call.Mkdirs (path_back path [] named)
call_back (call.Create path overwrite) named = ap (λ p. call.Create p overwrite) (path_back path [] named)
call_back (call.Append path) named = ap call.Append (path_back path [] named)
call_back (call.Grow path bytes) named = ap (λ p. call.Grow p bytes) (path_back path [] named)
call_back (call.Close path) named = ap call.Close (path_back path [] named)
call_back (call.Stat path) named = ap call.Stat (path_back path [] named)
call_back (call.List path) named = ap call.List (path_back path [] named)
call_back (call.Delete path recursive) named = ap (λ p. call.Delete p recursive) (path_back path [] named)
call_back (call.Rename source target) named =
    let first = path_back source (target ∷ []) named in
    let second = path_back target [] (and_parts (list_all is_name source) (are_of_names (target ∷ [])) named).1 in
    λ i. call.Rename (first i) (second i)
call_back (call.Chmod path mode) named = ap (λ p. call.Chmod p mode) (path_back path [] named)
call_back (call.SetQuota path names bytes) named = let first = path_back path [] named in λ i. call.SetQuota (first i) (optional_back names i) (optional_back bytes i)
call_back (call.Usage path) named = ap call.Usage (path_back path [] named)

-- paths in their ranges consist of names
of_names : (paths : List (List (List ℕ))) → list_all (λ (path : List (List ℕ)). is_in_range (a_path path)) paths ≡ true → are_of_names paths ≡ true
of_names [] all = refl
of_names (path ∷ paths) all =
    let p = and_parts (is_in_range (a_path path)) (list_all (λ (path : List (List ℕ)). is_in_range (a_path path)) paths) all in
    and_from (list_all is_name path) (are_of_names paths) (and_parts (list_all is_name path) (is_short path) p.0).0 (of_names paths p.1)

-- the client that a value says
abbrev client_in : Data → ClientCalls
client_in value = record { user = text_in (field_at "user" value); calls = map call_in (values_in (field_at "calls" value)) }

client_back : (client : ClientCalls) → is_client client ≡ true → client_in (client_data client) ≡ client
client_back client good =
    let valid = (and_parts _ (list_all is_valid client.calls) good).1 in
    let calls = row_back_of call_data call_in is_valid (λ asked range. call_back asked (of_names (paths_of asked) (valid_paths asked range))) client.calls valid in
    ap (λ (calls : List Call). record { user = client.user; calls = calls }) calls

-- the stop that a value says
abbrev stop_in : Data → NodeNo × ℕ
stop_in value = (record { 0 = number_in (value_placed 0 value) }, number_in (value_placed 1 value))

-- the script that a value says
abbrev pub script_in : Data → Script
script_in value =
    record {
      namenodes = number_in (field_at "namenodes" value);
      clients = map client_in (values_in (field_at "clients" value));
      stops = map stop_in (values_in (field_at "stops" value));
      tries = number_in (field_at "tries" value);
      grace = number_in (field_at "grace" value);
      persist = truth_in (field_at "persist" value);
    }

pub script_back : (script : Script) → IsScript script → script_in (script_data script) ≡ script
script_back script within =
    let clients = row_back_of client_data client_in is_client client_back script.clients within.clients.1 in
    let stops = row_back stop_data stop_in (λ stop. refl) script.stops in
    λ i. record { namenodes = script.namenodes; clients = clients i; stops = stops i; tries = script.tries; grace = script.grace; persist = script.persist }
