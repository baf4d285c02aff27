-- Where a value breaks no rule, a script is said by it.
use Rattle.std.proofs.Common.{◌≡◌, ℕ, suc, ◌+◌, Bool, true, false, not, ◌&&◌, ◌||◌, ◌==◌, if◌then◌else◌, nat_le, List, [], ◌∷◌, ◌++◌, map, length, take, find, option_and_then, option_map, is_some, Option, Some, None, unwrap_or, refl, sym, ap, subst, ◌∙◌, leb-true, append_assoc, length-append}
use Prim.Native.String.{String}
use Rattle.std.proofs.lemmas.Bool.{false≢true, not-true, and_parts}
use Rattle.std.proofs.lemmas.List.Folds.{list_any-append}
use Rattle.std.specs.List.{AllByRecursion, AllZip, enumerate_from, list_all, list_any, IsDistinct}
use Rattle.std.specs.Option.{option_map_or, option_zip}
use Rattle.hops_base.specs.First.{first_some}
use Rattle.hops_base.specs.User.{is_user}
use Rattle.hops_base.specs.declared.ids.NodeNo.{NodeNo}
use Rattle.name_space.specs.Call.{is_valid}
use Rattle.name_space.specs.Script.{ClientCalls, Script, IsScript, most_namenodes, most_clients, most_calls, default_tries, default_grace, is_count, is_client, is_stop, differ}
use Rattle.name_space.specs.declared.call.Call.{Call}
use Rattle.serde_json.specs.Data.{Data, null, boolean, number, string, array, object, Items, no_items, item, Members}
use Rattle.serde_json.specs.Find.{as_bool, as_str, as_array}
use Rattle.script_text.specs.declared.fault.ScriptFault.{ScriptFault}
use Rattle.script_text.specs.Json.{whole, row, values_of, values_in, at_key, as_whole, is_from_to}
use Rattle.script_text.specs.Form.{stop_data}
use Rattle.script_text.specs.Faults.{script_fault, value_of, data_fault, members_fault, has_known_keys, has_version, has_namenodes, may_count, may_persist, namenodes_in, has_clients, stops_fault, bad_stop, fault, stop_of, stops_node, stop_within, stop_after, fault_unless, has, is_short_array, values_at, call_fault, has_both_keys, has_user, has_calls, calls_fault, client_members_fault, client_fault, settings_fault, clients_fault}
use Rattle.script_text.specs.Grammar.{SaysCall, SaysClient, Says, IsScriptText}
use Rattle.script_text.proofs.ValueFacts.{unless-none, option_or-none, option_map-none, if_there, if_let, holds, is_truth, is_array, is_string, whole_is, items_of-values_of}
use Rattle.script_text.proofs.Calls.{call_said}
use Rattle.script_text.proofs.Canonical.{NoneStops, take-before}

-- ---- calls

-- calls without a fault are said
calls_exact : (at n : ℕ) (values : List Data) → first_some (map (call_fault at) (enumerate_from n values)) ≡ None
    → (calls : List Call) × AllZip SaysCall values calls × (list_all is_valid calls ≡ true) × (length calls ≡ length values)
calls_exact at n [] h = ([], tt, refl, refl)
calls_exact at n (value ∷ values) h =
    let both = option_or-none (call_fault at (n, value)) _ h in
    let one = call_said at n value both.0 in
    let more = calls_exact at (n + 1) values both.1 in
    (one.0 ∷ more.0, (one.1, more.1), rw (one.1.1, more.2) refl, ap suc more.3)

-- ---- clients

-- the array at a key
array_at : (key : String) (most : ℕ) (ms : Members) → has key (is_short_array most) ms ≡ true → (values : List Data) × (at_key key ms ≡ Some (row values)) × (nat_le (length values) most ≡ true) × (values_at key ms ≡ values)
array_at key most ms h =
    let v = if_there (is_short_array most) (at_key key ms) h in
    let i = if_there (λ (items : Items). nat_le (length (values_of items)) most) (as_array v.0) v.2 in
    let value = is_array v.0 i.0 i.1 in
    let at = v.1 ∙ ap Some (value ∙ ap array (sym (items_of-values_of i.0))) in
    (values_of i.0, at, i.2, ap (λ (o : Option Data). option_map_or values_in o []) (v.1 ∙ ap Some value))

-- the value says some client in its ranges
ClientSaid : Data → Type 0
ClientSaid value = (client : ClientCalls) × SaysClient value client × (is_client client ≡ true)

-- the members of a client without a fault say it
client_members_exact : (at : ℕ) (ms : Members) → client_members_fault at ms ≡ None → ClientSaid (object ms)
unfolding ClientSaid
client_members_exact at ms h =
    let a = option_or-none (fault_unless (has_both_keys ms) (fault 11 at 0)) _ h in
    let b = option_or-none (fault_unless (has_user ms) (fault 12 at 0)) _ a.1 in
    let both = option_or-none (calls_fault at ms) None b.1 in
    let c = option_or-none (fault_unless (has_calls ms) (fault 13 at 0)) _ both.0 in
    let d = option_or-none (first_some (map (call_fault at) (enumerate_from 1 (values_at "calls" ms)))) None c.1 in
    let u = if_there (λ value. option_map_or is_user (as_str value) false) (at_key "user" ms) (unless-none _ _ b.0) in
    let t = if_there is_user (as_str u.0) u.2 in
    let v = array_at "calls" most_calls ms (unless-none _ _ c.0) in
    let calls = calls_exact at 1 v.0 (subst (λ (vs : List Data). first_some (map (call_fault at) (enumerate_from 1 vs)) ≡ None) v.3 d.0) in
    (record { user = t.0; calls = calls.0 }, (ms, refl, (u.1 ∙ ap Some (is_string u.0 t.0 t.1), (v.0, v.1, calls.1))), rw (t.2, calls.3, v.2, calls.2) refl)

-- a client without a fault is said
client_exact : (at : ℕ) (value : Data) → client_fault (at, value) ≡ None → ClientSaid value
client_exact at null h = cc
client_exact at (boolean b) h = cc
client_exact at (number n) h = cc
client_exact at (string text) h = cc
client_exact at (array items) h = cc
client_exact at (object ms) h = client_members_exact at ms h

-- clients without a fault are said
clients_exact : (at : ℕ) (values : List Data) → first_some (map client_fault (enumerate_from at values)) ≡ None
    → (clients : List ClientCalls) × AllZip SaysClient values clients × (list_all is_client clients ≡ true) × (length clients ≡ length values)
unfolding ClientSaid
clients_exact at [] h = ([], tt, refl, refl)
clients_exact at (value ∷ values) h =
    let both = option_or-none (client_fault (at, value)) _ h in
    let one = client_exact at value both.0 in
    let more = clients_exact (at + 1) values both.1 in
    (one.0 ∷ more.0, (one.1, more.1), rw (one.2, more.2) refl, ap suc more.3)

-- ---- stops

-- the namenode of a number
abbrev node_no : ℕ → NodeNo
node_no n = record { 0 = n }

-- the value is the stop that it is read as
pub stop_is : (value : Data) (stop : NodeNo × ℕ) → stop_of value ≡ Some stop → value ≡ stop_data stop
stop_is null stop h = cc
stop_is (boolean b) stop h = cc
stop_is (number n) stop h = cc
stop_is (string text) stop h = cc
stop_is (array no_items) stop h = cc
stop_is (array (item node no_items)) stop h = cc
stop_is (array (item node (item commit no_items))) stop h = two node commit (as_whole node) (as_whole commit) refl refl h
  where
    two : (node commit : Data) (a b : Option ℕ) → as_whole node ≡ a → as_whole commit ≡ b → option_zip (option_map node_no a) b ≡ Some stop → array (item node (item commit no_items)) ≡ stop_data stop
    two node commit None b e f h = cc
    two node commit (Some m) None e f h = cc
    two node commit (Some m) (Some n) e f h =
        let is : (node_no m, n) ≡ stop = cc in
        let first_is = whole_is node m e in
        let second_is = whole_is commit n f in
        (λ i. array (item (first_is i) (item (second_is i) no_items))) ∙ ap stop_data is
stop_is (array (item node (item commit (item other rest)))) stop h = cc
stop_is (object ms) stop h = cc

-- a test that failed, and what comes after it
find-none : {T : Type 0} (test : T → Bool) (x : T) (xs : List T) → find test (x ∷ xs) ≡ None → (test x ≡ false) × (find test xs ≡ None)
find-none {T} test x xs h = by (test x) refl h
  where
    by : (b : Bool) → test x ≡ b → (if b then Some x else find test xs) ≡ None → (test x ≡ false) × (find test xs ≡ None)
    by true e f = cc
    by false e f = (e, f)

-- of what doesn't stand before, nor the value itself
either-false : (a b : Bool) → (a || b) ≡ false → (a ≡ false) × (b ≡ false)
either-false false b h = (refl, h)
either-false true b h = absurd (false≢true (sym h))

-- stops that stand apart from more values stand apart from each of them
split_none : (before : List Data) (value : Data) (stop : NodeNo × ℕ) → value ≡ stop_data stop → (stops : List (NodeNo × ℕ)) → NoneStops (before ++ value ∷ []) stops
    → NoneStops before stops × AllByRecursion (λ (other : NodeNo × ℕ). (stop.0.0 == other.0.0) ≡ false) stops
unfolding NoneStops
split_none before value stop is [] none = (tt, tt)
split_none before value stop is (other ∷ stops) none =
    let parts = either-false (list_any (stops_node other.0) before) _ (sym (list_any-append (stops_node other.0) before (value ∷ [])) ∙ none.0) in
    let apart = either-false (stops_node other.0 value) false parts.1 in
    let more = split_none before value stop is stops none.1 in
    ((parts.0, more.0), (ap (stops_node other.0) (sym is) ∙ apart.0, more.1))

-- a stop that stands behind others is in its ranges, and none of those is of its namenode
pub after_told : (namenodes : ℕ) (before : List Data) (value : Data) (stop : NodeNo × ℕ) → stop_after namenodes before value ≡ Some stop
    → (value ≡ stop_data stop) × (is_stop namenodes stop ≡ true) × (list_any (stops_node stop.0) before ≡ false)
after_told namenodes before value stop h =
    let a = if_let (λ (s : NodeNo × ℕ). not (list_any (stops_node s.0) before)) (stop_within namenodes value) stop h in
    let b = if_let (is_stop namenodes) (stop_of value) stop a.0 in
    (stop_is value stop b.0, b.1, not-true _ a.1)

-- what is there
there : {T : Type 0} (o : Option T) → is_some o ≡ true → (x : T) × (o ≡ Some x)
there None h = cc
there (Some x) h = (x, refl)

-- where none of the values that follow these is bad, they are stops
stops_exact : (namenodes : ℕ) (before values : List Data)
    → find (λ (p : ℕ × Data). not (is_some (stop_after namenodes (take p.0 (before ++ values)) p.1))) (enumerate_from (length before) values) ≡ None
    → (stops : List (NodeNo × ℕ)) × (values ≡ map stop_data stops) × (list_all (is_stop namenodes) stops ≡ true) × differ stops × NoneStops before stops
unfolding NoneStops IsDistinct
stops_exact namenodes before [] h = ([], refl, refl, tt, tt)
stops_exact namenodes before (value ∷ values) h =
    let here = find-none (λ (p : ℕ × Data). not (is_some (stop_after namenodes (take p.0 (before ++ value ∷ values)) p.1))) (length before, value) (enumerate_from (length before + 1) values) h in
    let next : is_some (stop_after namenodes before value) ≡ true = holds _ (ap (λ b. not (is_some (stop_after namenodes b value))) (sym (take-before before (value ∷ values))) ∙ here.0) in
    let s = there (stop_after namenodes before value) next in
    let is = after_told namenodes before value s.0 s.1 in
    let more = stops_exact namenodes (before ++ value ∷ []) values (rw (append_assoc before (value ∷ []) values, length-append before (value ∷ [])) here.1) in
    let apart = split_none before value s.0 is.0 more.0 more.4 in
    (s.0 ∷ more.0, (λ i. is.0 i ∷ more.1 i), rw (is.1, more.2) refl, (apart.1, more.3), (is.2, apart.0))

-- ---- scripts

-- a count that is there, or the default
count_at : (o : Option Data) (default : ℕ) → is_count default ≡ true → option_map_or (λ value. option_map_or is_count (as_whole value) false) o true ≡ true
    → (n : ℕ) × (unwrap_or o (whole default) ≡ whole n) × (is_count n ≡ true)
count_at None default good h = (default, refl, good)
count_at (Some value) default good h = let n = if_there is_count (as_whole value) h in (n.0, whole_is value n.0 n.1, n.2)

-- a truth value that is there, or true
truth_at : (o : Option Data) → option_map_or (λ value. is_some (as_bool value)) o true ≡ true → (b : Bool) × (unwrap_or o (boolean true) ≡ boolean b)
truth_at None h = (true, refl)
truth_at (Some value) h = is_truth value h

-- stops in an array, or none
stops_in : (namenodes : ℕ) (value : Data) (o : Option Items) → as_array value ≡ o → option_map_or (λ items. option_map (λ at. fault 9 at 0) (bad_stop namenodes (values_of items))) o (Some (fault 9 0 0)) ≡ None
    → (stops : List (NodeNo × ℕ)) × (value ≡ row (map stop_data stops)) × (list_all (is_stop namenodes) stops ≡ true) × differ stops
stops_in namenodes value None is h = cc
stops_in namenodes value (Some items) is h =
    let none = option_map-none (λ (p : ℕ × Data). p.0) (find (λ (p : ℕ × Data). not (is_some (stop_after namenodes (take p.0 (values_of items)) p.1))) (enumerate_from 0 (values_of items))) (option_map-none (λ at. fault 9 at 0) (bad_stop namenodes (values_of items)) h) in
    let s = stops_exact namenodes [] (values_of items) none in
    (s.0, is_array value items is ∙ ap array (sym (items_of-values_of items)) ∙ ap row s.1, s.2, s.3)

-- stops without a fault at their key, or none
stops_at : (namenodes : ℕ) (o : Option Data) → option_and_then (stops_fault namenodes) o ≡ None
    → (stops : List (NodeNo × ℕ)) × (unwrap_or o (row []) ≡ row (map stop_data stops)) × (list_all (is_stop namenodes) stops ≡ true) × differ stops
unfolding IsDistinct
stops_at namenodes None h = ([], refl, refl, tt)
stops_at namenodes (Some value) h = stops_in namenodes value (as_array value) refl h

-- the members of a script without a fault say it
pub members_exact : (ms : Members) → members_fault ms ≡ None → (script : Script) × IsScript script × Says ms script
members_exact ms h =
    let settings = option_or-none (settings_fault ms) _ h in
    let stops = option_or-none (option_and_then (stops_fault (namenodes_in ms)) (at_key "stops" ms)) _ settings.1 in
    let all = option_or-none (clients_fault ms) None stops.1 in
    let keys = option_or-none (fault_unless (has_known_keys ms) (fault 3 0 0)) _ settings.0 in
    let version = option_or-none (fault_unless (has_version ms) (fault 4 0 0)) _ keys.1 in
    let namenodes = option_or-none (fault_unless (has_namenodes ms) (fault 5 0 0)) _ version.1 in
    let tries = option_or-none (fault_unless (may_count "tries" ms) (fault 6 0 0)) _ namenodes.1 in
    let grace = option_or-none (fault_unless (may_count "grace" ms) (fault 7 0 0)) _ tries.1 in
    let persist = option_or-none (fault_unless (may_persist ms) (fault 8 0 0)) None grace.1 in
    let clients = option_or-none (fault_unless (has_clients ms) (fault 10 0 0)) _ all.0 in
    let each = option_or-none (first_some (map client_fault (enumerate_from 0 (values_at "clients" ms)))) None clients.1 in
    let v = if_there (is_from_to 1 most_namenodes) (at_key "namenodes" ms) (unless-none _ _ namenodes.0) in
    let n = if_there (λ n. nat_le 1 n && nat_le n most_namenodes) (as_whole v.0) v.2 in
    let namenodes_parts = and_parts (nat_le 1 n.0) (nat_le n.0 most_namenodes) n.2 in
    let same : namenodes_in ms ≡ n.0 = ap (λ o. unwrap_or (option_and_then as_whole o) 0) v.1 ∙ ap (λ o. unwrap_or o 0) n.1 in
    let t = count_at (at_key "tries" ms) default_tries refl (unless-none _ _ tries.0) in
    let g = count_at (at_key "grace" ms) default_grace refl (unless-none _ _ grace.0) in
    let b = truth_at (at_key "persist" ms) (unless-none _ _ persist.0) in
    let s = stops_at (namenodes_in ms) (at_key "stops" ms) stops.0 in
    let a = array_at "clients" most_clients ms (unless-none _ _ clients.0) in
    let c = clients_exact 0 a.0 (subst (λ (vs : List Data). first_some (map client_fault (enumerate_from 0 vs)) ≡ None) a.3 each.0) in
    let script : Script = record { namenodes = n.0; clients = c.0; stops = s.0; tries = t.0; grace = g.0; persist = b.0 } in
    let few : nat_le (length c.0) most_clients ≡ true = rw c.3 a.2 in
    let in_range : IsScript script =
    record {
      namenodes = (leb-true 1 n.0 namenodes_parts.0, leb-true n.0 most_namenodes namenodes_parts.1);
      clients = (leb-true (length c.0) most_clients few, c.2);
      stops = (subst (λ (m : ℕ). list_all (is_stop m) s.0 ≡ true) same s.2, s.3);
      tries = t.2;
      grace = g.2;
    } in
    let says : Says ms script =
    record {
      namenodes = v.1 ∙ ap Some (whole_is v.0 n.0 n.1);
      clients = (a.0, a.1, c.1);
      stops = s.1;
      tries = t.1;
      grace = g.1;
      persist = b.1;
    } in
    (script, in_range, says)

-- a value without a fault is an object
data_exact : (value : Data) → data_fault value ≡ None → (ms : Members) × (value ≡ object ms) × (members_fault ms ≡ None)
data_exact null h = cc
data_exact (boolean b) h = cc
data_exact (number n) h = cc
data_exact (string text) h = cc
data_exact (array items) h = cc
data_exact (object ms) h = (ms, refl, h)

-- bytes without a fault have a value
value_exact : (o : Option Data) (told : ScriptFault) → option_map_or data_fault o (Some told) ≡ None → (value : Data) × (o ≡ Some value) × (data_fault value ≡ None)
value_exact None told h = cc
value_exact (Some value) told h = (value, refl, h)

-- bytes that break no rule are a text of a script
pub exact : (bytes : List ℕ) → script_fault bytes ≡ None → (script : Script) × IsScript script × IsScriptText bytes script
exact bytes h =
    let v = value_exact (value_of bytes) (fault 1 (length bytes) 0) h in
    let m = data_exact v.0 v.2 in
    let s = members_exact m.0 m.2 in
    (s.0, s.1, record { good = h; says = (m.0, v.1 ∙ ap Some m.1, s.2) })
