-- What is wrong with bytes that are no script: the first of these rules that they break. This project's own.
use Prim.Native.String.{String}
use Rattle.std.specs.Prelude.{ℕ, Bool, true, false, not, ◌&&◌, ◌==◌, nat_le, if◌then◌else◌, List, [], ◌∷◌, map, length, take, find, Option, Some, None, is_some, option_map, option_and_then, unwrap_or, bytes_eq, codes}
use Rattle.std.specs.List.{list_all, list_any, enumerate_from}
use Rattle.std.specs.Option.{option_map_or, option_zip}
use Rattle.std.specs.Str.{is_utf8}
use Rattle.hops_base.specs.First.{first_some}
use Rattle.hops_base.specs.User.{is_user}
use Rattle.hops_base.specs.declared.ids.NodeNo.{NodeNo}
use Rattle.hops_base.specs.declared.path_text.PathFault.{PathFault}
use Rattle.name_space.specs.Script.{most_namenodes, most_clients, most_calls, is_count, is_stop}
use Rattle.serde_json.specs.Data.{Data, Members}
use Rattle.serde_json.specs.Find.{as_bool, as_str, as_array, as_object}
use Rattle.serde_json.specs.Read.{read}
use Rattle.script_text.specs.declared.fault.ScriptFault.{ScriptFault}
use Rattle.script_text.specs.Json.{values_of, values_in, keys_of, at_key, as_whole, is_from_to}
use Rattle.script_text.specs.CallForms.{has_form, refused_path, has_range}

-- the fault by a rule at a place and a call; no path is refused
abbrev pub fault : ℕ → ℕ → ℕ → ScriptFault
fault rule at call = record { rule = rule; at = at; call = call; path = None }

-- the fault, where the rule doesn't hold
abbrev pub fault_unless : Bool → ScriptFault → Option ScriptFault
fault_unless holds told = if holds then None else Some told

-- a thing that is there and passes the test
abbrev pub only_if : {T : Type 0} → (T → Bool) → Option T → Option T
only_if test None = None
only_if test (Some x) = if test x then Some x else None

-- there is a value, and it passes the test
abbrev pub has_in : (Data → Bool) → Option Data → Bool
has_in test value = option_map_or test value false

-- where there is a value, it passes the test
abbrev pub may_have_in : (Data → Bool) → Option Data → Bool
may_have_in test value = option_map_or test value true

-- there is a value at the key, and it passes the test
abbrev pub has : String → (Data → Bool) → Members → Bool
has key test ms = has_in test (at_key key ms)

-- where there is a value at the key, it passes the test
abbrev pub may_have : String → (Data → Bool) → Members → Bool
may_have key test ms = may_have_in test (at_key key ms)

-- the value is a count
abbrev pub is_count_data : Data → Bool
is_count_data value = option_map_or is_count (as_whole value) false

-- the value is an array of at most so many values
abbrev pub is_short_array : ℕ → Data → Bool
is_short_array most value = option_map_or (λ items. nat_le (length (values_of items)) most) (as_array value) false

-- the values in the array at a key
abbrev pub values_at : String → Members → List Data
values_at key ms = option_map_or values_in (at_key key ms) []

-- ---- the calls of a client, numbered from 1

-- the fault of a path that is refused
abbrev pub bad_path : ℕ → ℕ → PathFault → ScriptFault
bad_path at call why = record { rule = 15; at = at; call = call; path = Some why }

-- what is wrong with a client's call: the first of rules 14, 15 and 16
abbrev pub call_fault : ℕ → ℕ × Data → Option ScriptFault
call_fault at (call, value) = first_some (fault_unless (has_form value) (fault 14 at call) ∷ option_map (bad_path at call) (refused_path value) ∷ fault_unless (has_range value) (fault 16 at call) ∷ [])

-- ---- the clients, numbered from 0

-- rule 11: it has a user and calls, and nothing else
abbrev pub has_both_keys : Members → Bool
has_both_keys ms = is_some (at_key "user" ms) && is_some (at_key "calls" ms) && length (keys_of ms) == 2

-- rule 12: the user of a client is one
abbrev pub has_user : Members → Bool
has_user = has "user" (λ value. option_map_or is_user (as_str value) false)

-- rule 13: the calls of a client are an array of at most 65,536
abbrev pub has_calls : Members → Bool
has_calls = has "calls" (is_short_array most_calls)

-- what is wrong with the calls of the client at a place: rule 13, and then the first bad call
abbrev pub calls_fault : ℕ → Members → Option ScriptFault
calls_fault at ms = first_some (fault_unless (has_calls ms) (fault 13 at 0) ∷ first_some (map (call_fault at) (enumerate_from 1 (values_at "calls" ms))) ∷ [])

-- what is wrong with the members of a client: the first of rules 11 and 12, and then its calls
abbrev pub client_members_fault : ℕ → Members → Option ScriptFault
client_members_fault at ms = first_some (fault_unless (has_both_keys ms) (fault 11 at 0) ∷ fault_unless (has_user ms) (fault 12 at 0) ∷ calls_fault at ms ∷ [])

-- what is wrong with a client; it breaks rule 11 also where it is no object
abbrev pub client_fault : ℕ × Data → Option ScriptFault
client_fault (at, value) = option_map_or (client_members_fault at) (as_object value) (Some (fault 11 at 0))

-- ---- the stops

-- the namenode and the commit of an array of two whole numbers
abbrev pub stop_from : List Data → Option (NodeNo × ℕ)
stop_from [] = None
stop_from (node ∷ []) = None
stop_from (node ∷ commit ∷ []) = option_zip (option_map (λ n. record { 0 = n }) (as_whole node)) (as_whole commit)
stop_from (node ∷ commit ∷ other ∷ rest) = None

-- the stop that a value is
abbrev pub stop_of : Data → Option (NodeNo × ℕ)
stop_of value = stop_from (values_in value)

-- the value is a stop of this namenode
abbrev pub stops_node : NodeNo → Data → Bool
stops_node node value = option_map_or (λ (stop : NodeNo × ℕ). stop.0.0 == node.0) (stop_of value) false

-- the stop that a value is, where it is in its ranges
abbrev pub stop_within : ℕ → Data → Option (NodeNo × ℕ)
stop_within namenodes value = only_if (is_stop namenodes) (stop_of value)

-- the stop in its ranges that a value is, where none of the values before it is a stop of the same namenode
abbrev pub stop_after : ℕ → List Data → Data → Option (NodeNo × ℕ)
stop_after namenodes before value = only_if (λ stop. not (list_any (stops_node stop.0) before)) (stop_within namenodes value)

-- rule 9: each value is such a stop behind those before it; else the place of the first that is none
abbrev pub bad_stop : ℕ → List Data → Option ℕ
bad_stop namenodes values = option_map (λ (p : ℕ × Data). p.0) (find (λ (p : ℕ × Data). not (is_some (stop_after namenodes (take p.0 values) p.1))) (enumerate_from 0 values))

-- what is wrong with stops: they break rule 9, also where they are no array
abbrev pub stops_fault : ℕ → Data → Option ScriptFault
stops_fault namenodes value = option_map_or (λ items. option_map (λ at. fault 9 at 0) (bad_stop namenodes (values_of items))) (as_array value) (Some (fault 9 0 0))

-- ---- the script

-- the keys that a script may have
abbrev pub script_keys : List (List ℕ)
script_keys = map codes ("clients" ∷ "grace" ∷ "namenodes" ∷ "persist" ∷ "stops" ∷ "tries" ∷ "version" ∷ [])

-- rule 3: every key is one of them
abbrev pub has_known_keys : Members → Bool
has_known_keys ms = list_all (λ key. list_any (bytes_eq key) script_keys) (keys_of ms)

-- rule 4: the version is 1
abbrev pub has_version : Members → Bool
has_version = has "version" (is_from_to 1 1)

-- rule 5: there are 1 to 16 namenodes
abbrev pub has_namenodes : Members → Bool
has_namenodes = has "namenodes" (is_from_to 1 most_namenodes)

-- rules 6 and 7, of tries and grace: where the key is there, its value is a count
abbrev pub may_count : String → Members → Bool
may_count key = may_have key is_count_data

-- rule 8: where it is said whether calls persist, it is by a truth value
abbrev pub may_persist : Members → Bool
may_persist = may_have "persist" (λ value. is_some (as_bool value))

-- how many namenodes a script has
abbrev pub namenodes_in : Members → ℕ
namenodes_in ms = unwrap_or (option_and_then as_whole (at_key "namenodes" ms)) 0

-- rule 10: the clients are an array of at most 64
abbrev pub has_clients : Members → Bool
has_clients = has "clients" (is_short_array most_clients)

-- what is wrong with the settings of a script: the first of rules 3 to 8
abbrev pub settings_fault : Members → Option ScriptFault
settings_fault ms =
    first_some (
    fault_unless (has_known_keys ms) (fault 3 0 0)
    ∷ fault_unless (has_version ms) (fault 4 0 0)
    ∷ fault_unless (has_namenodes ms) (fault 5 0 0)
    ∷ fault_unless (may_count "tries" ms) (fault 6 0 0)
    ∷ fault_unless (may_count "grace" ms) (fault 7 0 0)
    ∷ fault_unless (may_persist ms) (fault 8 0 0)
    ∷ []
    )

-- what is wrong with the clients of a script: rule 10, and then the first bad client
abbrev pub clients_fault : Members → Option ScriptFault
clients_fault ms = first_some (fault_unless (has_clients ms) (fault 10 0 0) ∷ first_some (map client_fault (enumerate_from 0 (values_at "clients" ms))) ∷ [])

-- what is wrong with the members of a script: its settings, its stops (rule 9), and then its clients
abbrev pub members_fault : Members → Option ScriptFault
members_fault ms = first_some (settings_fault ms ∷ option_and_then (stops_fault (namenodes_in ms)) (at_key "stops" ms) ∷ clients_fault ms ∷ [])

-- what is wrong with a value; rule 2: it is an object
abbrev pub data_fault : Data → Option ScriptFault
data_fault value = option_map_or members_fault (as_object value) (Some (fault 2 0 0))

-- the value of JSON that bytes are: UTF-8, with arrays and objects nested to 127
abbrev pub value_of : List ℕ → Option Data
value_of bytes = if is_utf8 bytes then read bytes else None

-- what is wrong with bytes as a script; rule 1: they are a value
abbrev pub script_fault : List ℕ → Option ScriptFault
script_fault bytes = option_map_or data_fault (value_of bytes) (Some (fault 1 (length bytes) 0))
