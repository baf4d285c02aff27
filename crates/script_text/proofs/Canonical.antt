-- The value that is written for a script breaks no rule and says the script.
use Rattle.std.proofs.Common.{◌≡◌, ℕ, ◌+◌, true, false, not, ◌&&◌, nat_le, List, [], ◌∷◌, ◌++◌, map, length, take, Some, None, is_some, unwrap_or, refl, ap, ◌∙◌, le-leb, find, ◌==◌, append_assoc, length-append}
use Rattle.std.specs.List.{AllByRecursion, AllZip, enumerate_from, list_all, list_any, IsDistinct}
use Rattle.std.specs.Option.{option_map_or}
use Rattle.std.proofs.lemmas.Bool.{and_parts}
use Rattle.std.proofs.lemmas.List.{length-map}
use Rattle.std.proofs.lemmas.List.Folds.{list_any-append}
use Rattle.hops_base.specs.First.{first_some}
use Rattle.hops_base.specs.User.{is_user}
use Rattle.hops_base.specs.declared.ids.NodeNo.{NodeNo}
use Rattle.name_space.specs.Call.{is_valid}
use Rattle.name_space.specs.Script.{ClientCalls, Script, most_namenodes, most_clients, most_calls, is_client, is_stop, differ, IsScript}
use Rattle.name_space.specs.declared.call.Call.{Call}
use Rattle.serde_json.specs.Data.{Data, Members, no_members}
use Rattle.serde_json.specs.Find.{as_object}
use Rattle.script_text.specs.Form.{call_data, client_data, stop_data, script_data}
use Rattle.script_text.specs.Faults.{fault, call_fault, client_fault, data_fault, value_of, stops_node, stop_after}
use Rattle.script_text.specs.Grammar.{SaysCall, SaysClient, Says, IsScriptText}
use Rattle.script_text.proofs.ValueFacts.{values_of-items_of}
use Rattle.script_text.proofs.Calls.{call_good}

-- the values of valid calls have no fault
calls_good : (at n : ℕ) (calls : List Call) → list_all is_valid calls ≡ true → first_some (map (call_fault at) (enumerate_from n (map call_data calls))) ≡ None
calls_good at n [] valid = refl
calls_good at n (call ∷ calls) valid = let parts = and_parts (is_valid call) (list_all is_valid calls) valid in rw (call_good at n call parts.0) (calls_good at (n + 1) calls parts.1)

-- a client's user, the count of its calls, and its calls are in their ranges
pub client_parts : (client : ClientCalls) → is_client client ≡ true → (is_user client.user ≡ true) × (nat_le (length client.calls) most_calls ≡ true) × (list_all is_valid client.calls ≡ true)
client_parts client good =
    let last = and_parts (is_user client.user && nat_le (length client.calls) most_calls) (list_all is_valid client.calls) good in
    let first = and_parts (is_user client.user) (nat_le (length client.calls) most_calls) last.0 in
    (first.0, first.1, last.1)

-- nor has that of a client
client_good : (at : ℕ) (client : ClientCalls) → is_client client ≡ true → client_fault (at, client_data client) ≡ None
client_good at client good =
    let parts = client_parts client good in
    rw (values_of-items_of (map call_data client.calls), length-map client.calls call_data, parts.0, parts.1, calls_good at 1 client.calls parts.2) refl

-- nor have those of clients
clients_good : (at : ℕ) (clients : List ClientCalls) → list_all is_client clients ≡ true → first_some (map client_fault (enumerate_from at (map client_data clients))) ≡ None
clients_good at [] good = refl
clients_good at (client ∷ clients) good = let parts = and_parts (is_client client) (list_all is_client clients) good in rw (client_good at client parts.0) (clients_good (at + 1) clients parts.1)

-- ---- stops

-- no value of these stops the namenode of a stop of those
unfoldable pub NoneStops : List Data → List (NodeNo × ℕ) → Type 0
NoneStops before stops = AllByRecursion (λ (stop : NodeNo × ℕ). list_any (stops_node stop.0) before ≡ false) stops

-- one value more stands before, and it is a stop of none of their namenodes
none_stops-push : (before : List Data) (stop : NodeNo × ℕ) (stops : List (NodeNo × ℕ)) → NoneStops before stops → AllByRecursion (λ (other : NodeNo × ℕ). (stop.0.0 == other.0.0) ≡ false) stops → NoneStops (before ++ stop_data stop ∷ []) stops
unfolding NoneStops
none_stops-push before stop [] none differ = tt
none_stops-push before stop (other ∷ stops) none differ = (rw (list_any-append (stops_node other.0) before (stop_data stop ∷ []), none.0, differ.0) refl, none_stops-push before stop stops none.1 differ.1)

-- what stands before a value
pub take-before : (before : List Data) (rest : List Data) → take (length before) (before ++ rest) ≡ before
take-before [] rest = refl
take-before (value ∷ before) rest = ap (λ more. value ∷ more) (take-before before rest)

-- none of the stops is bad
stops_good : (namenodes : ℕ) (before : List Data) (stops : List (NodeNo × ℕ)) → list_all (is_stop namenodes) stops ≡ true → differ stops → NoneStops before stops
    → find (λ (p : ℕ × Data). not (is_some (stop_after namenodes (take p.0 (before ++ map stop_data stops)) p.1))) (enumerate_from (length before) (map stop_data stops)) ≡ None
unfolding NoneStops IsDistinct
stops_good namenodes before [] good apart none = refl
stops_good namenodes before (stop ∷ stops) good apart none =
    let parts = and_parts (is_stop namenodes stop) (list_all (is_stop namenodes) stops) good in
    let more = stops_good namenodes (before ++ stop_data stop ∷ []) stops parts.1 apart.1 (none_stops-push before stop stops none.1 apart.0) in
    rw (take-before before (stop_data stop ∷ map stop_data stops), parts.0, none.0) (rw (append_assoc before (stop_data stop ∷ []) (map stop_data stops), length-append before (stop_data stop ∷ [])) at more)

-- nothing stands before the first stop
none_stops-start : (stops : List (NodeNo × ℕ)) → NoneStops [] stops
unfolding NoneStops
none_stops-start [] = tt
none_stops-start (stop ∷ stops) = (refl, none_stops-start stops)

-- ---- scripts

-- the value of a script breaks no rule
pub script_good : (script : Script) → IsScript script → data_fault (script_data script) ≡ None
script_good script in_range =
    let least = le-leb 1 script.namenodes in_range.namenodes.0 in
    let most = le-leb script.namenodes most_namenodes in_range.namenodes.1 in
    let stops = stops_good script.namenodes [] script.stops in_range.stops.0 in_range.stops.1 (none_stops-start script.stops) in
    let clients = clients_good 0 script.clients in_range.clients.1 in
    let few = le-leb (length script.clients) most_clients in_range.clients.0 in
    rw (values_of-items_of (map client_data script.clients), values_of-items_of (map stop_data script.stops), length-map script.clients client_data, least, most, in_range.tries, in_range.grace, stops, few, clients) refl

-- the values of valid calls say them
calls_said : (calls : List Call) → list_all is_valid calls ≡ true → AllZip SaysCall (map call_data calls) calls
calls_said [] valid = tt
calls_said (call ∷ calls) valid = let parts = and_parts (is_valid call) (list_all is_valid calls) valid in ((refl, parts.0), calls_said calls parts.1)

-- the members of an object
pub members_in : Data → Members
members_in value = unwrap_or (as_object value) no_members

-- the values of clients say them
clients_said : (clients : List ClientCalls) → list_all is_client clients ≡ true → AllZip SaysClient (map client_data clients) clients
unfolding members_in
clients_said [] good = tt
clients_said (client ∷ clients) good =
    let parts = and_parts (is_client client) (list_all is_client clients) good in
    ((members_in (client_data client), refl, (refl, (map call_data client.calls, refl, calls_said client.calls (client_parts client parts.0).2))), clients_said clients parts.1)

-- the members of the value of a script
abbrev pub script_members : Script → Members
script_members script = members_in (script_data script)

-- they say it
pub script_said : (script : Script) → IsScript script → Says (script_members script) script
unfolding members_in
script_said script in_range =
    record {
      namenodes = refl;
      clients = (map client_data script.clients, refl, clients_said script.clients in_range.clients.1);
      stops = refl;
      tries = refl;
      grace = refl;
      persist = refl;
    }

-- bytes that are the value of a script are a text of it
pub canonical : (bytes : List ℕ) (script : Script) → IsScript script → value_of bytes ≡ Some (script_data script) → IsScriptText bytes script
unfolding members_in
canonical bytes script in_range is =
    record {
      good = ap (λ value. option_map_or data_fault value (Some (fault 1 (length bytes) 0))) is ∙ script_good script in_range;
      says = (script_members script, is, script_said script in_range);
    }
