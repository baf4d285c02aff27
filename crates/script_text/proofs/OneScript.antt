-- A text denotes at most one script: what a value says can be told from the value.
use Prim.Native.String.{String}
use Rattle.std.proofs.Common.{◌≡◌, ℕ, true, List, [], ◌∷◌, map, Option, Some, option_and_then, unwrap_or, refl, sym, ap, ◌∙◌}
use Rattle.std.specs.List.{AllZip}
use Rattle.std.specs.Option.{option_map_or}
use Rattle.hops_base.specs.declared.ids.NodeNo.{NodeNo}
use Rattle.name_space.specs.Script.{ClientCalls, Script, default_tries, default_grace}
use Rattle.serde_json.specs.Data.{Data, null, boolean, Members, no_members}
use Rattle.serde_json.specs.Find.{as_object}
use Rattle.script_text.specs.Json.{whole, row, values_in, at_key, as_whole, text_in, truth_in, number_in}
use Rattle.script_text.specs.Form.{stop_data}
use Rattle.script_text.specs.CallForms.{value_at}
use Rattle.script_text.specs.Faults.{values_at, namenodes_in}
use Rattle.script_text.specs.Grammar.{SaysCall, HasClient, SaysClient, Says, IsScriptText}
use Rattle.script_text.proofs.ValueFacts.{values_of-items_of}
use Rattle.script_text.proofs.Calls.{call_in, call_in-says}

-- what each of the values says, where each says one thing
each_in : {T : Type 0} (S : Data → T → Type 0) (told : Data → T) → ((value : Data) (x : T) → S value x → told value ≡ x) → (values : List Data) (xs : List T) → AllZip S values xs → map told values ≡ xs
each_in S told one [] [] s = refl
each_in S told one [] (x ∷ xs) s = absurd s
each_in S told one (value ∷ values) [] s = absurd s
each_in S told one (value ∷ values) (x ∷ xs) s = λ i. one value x s.0 i ∷ each_in S told one values xs s.1 i

-- the values at a key that has an array of these
values_at-row : (key : String) (ms : Members) (values : List Data) → at_key key ms ≡ Some (row values) → values_at key ms ≡ values
values_at-row key ms values e = ap (λ o. option_map_or values_in o []) e ∙ values_of-items_of values

-- ---- clients

-- the client that members say
abbrev client_from : Members → ClientCalls
client_from ms = record { user = text_in (unwrap_or (at_key "user" ms) null); calls = map call_in (values_at "calls" ms) }

-- it is the client that the members were said to say
client_from-has : (ms : Members) (client : ClientCalls) → HasClient ms client → client_from ms ≡ client
client_from-has ms client h =
    let user = ap (λ o. text_in (unwrap_or o null)) h.0 in
    let calls = ap (map call_in) (values_at-row "calls" ms h.1.0 h.1.1) ∙ each_in SaysCall call_in call_in-says h.1.0 client.calls h.1.2 in
    λ i. record { user = user i; calls = calls i }

-- the client that a value says
abbrev client_in : Data → ClientCalls
client_in value = client_from (unwrap_or (as_object value) no_members)

-- it is the client that the value was said to say
client_in-says : (value : Data) (client : ClientCalls) → SaysClient value client → client_in value ≡ client
client_in-says value client s = ap client_in s.1 ∙ client_from-has s.0 client s.2

-- ---- stops

-- the stop that a value says
abbrev stop_in : Data → NodeNo × ℕ
stop_in value = (record { 0 = number_in (value_at 0 (values_in value)) }, number_in (value_at 1 (values_in value)))

-- they are the stops of which the values were made
stops_in-say : (stops : List (NodeNo × ℕ)) → map stop_in (map stop_data stops) ≡ stops
stops_in-say [] = refl
stops_in-say (stop ∷ stops) = ap (λ rest. stop ∷ rest) (stops_in-say stops)

-- ---- scripts

-- the script that members say
abbrev script_from : Members → Script
script_from ms =
    record {
      namenodes = namenodes_in ms;
      clients = map client_in (values_at "clients" ms);
      stops = map stop_in (values_in (unwrap_or (at_key "stops" ms) (row [])));
      tries = number_in (unwrap_or (at_key "tries" ms) (whole default_tries));
      grace = number_in (unwrap_or (at_key "grace" ms) (whole default_grace));
      persist = truth_in (unwrap_or (at_key "persist" ms) (boolean true));
    }

-- it is the script that the members were said to say
script_from-says : (ms : Members) (script : Script) → Says ms script → script_from ms ≡ script
script_from-says ms script s =
    let namenodes = ap (λ o. unwrap_or (option_and_then as_whole o) 0) s.namenodes in
    let clients = ap (map client_in) (values_at-row "clients" ms s.clients.0 s.clients.1) ∙ each_in SaysClient client_in client_in-says s.clients.0 script.clients s.clients.2 in
    let stops = ap (λ value. map stop_in (values_in value)) s.stops ∙ ap (map stop_in) (values_of-items_of (map stop_data script.stops)) ∙ stops_in-say script.stops in
    λ i. record { namenodes = namenodes i; clients = clients i; stops = stops i; tries = number_in (s.tries i); grace = number_in (s.grace i); persist = truth_in (s.persist i) }

-- the members of an object
abbrev members_in : Option Data → Members
members_in value = unwrap_or (as_object (unwrap_or value null)) no_members

-- two scripts that the same members say are one
pub one_of_members : (ms : Members) (p q : Script) → Says ms p → Says ms q → p ≡ q
one_of_members ms p q a b = sym (script_from-says ms p a) ∙ script_from-says ms q b

-- two scripts of one text are one
pub one_script : (bytes : List ℕ) (p q : Script) → IsScriptText bytes p → IsScriptText bytes q → p ≡ q
one_script bytes p q a b =
    let same = ap members_in (sym a.says.1 ∙ b.says.1) in
    sym (script_from-says a.says.0 p a.says.2) ∙ ap script_from same ∙ script_from-says b.says.0 q b.says.2
