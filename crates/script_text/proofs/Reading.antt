-- What readers of parts of a script answer.
use Rattle.std.proofs.Common.{◌≡◌, ℕ, zero, suc, take, not, if◌then◌else◌, ◌+◌, ◌<◌, ◌≤◌, le-leb, length, drop, get_or, nat_le, true, List, [], ◌∷◌, map, Option, Some, None, Result, Ok, Err, option_and_then, option_map, find, is_some, ◌++◌, unwrap_or, refl, sym, ap, subst, ◌∙◌}
use Rattle.std.specs.List.{enumerate_from}
use Rattle.std.specs.Option.{option_or}
use Rattle.std.specs.Result.{IsErr, IsErrAnd}
use Rattle.std.proofs.lemmas.List.{drop_more, take_more, map-append, length-map}
use Rattle.hops_base.specs.First.{first_some}
use Rattle.hops_base.specs.declared.ids.NodeNo.{NodeNo}
use Rattle.name_space.specs.Script.{Script, IsScript, most_clients, most_calls, default_tries, default_grace}
use Rattle.serde_json.specs.Data.{Data, boolean, array, Items, Members}
use Rattle.serde_json.specs.Find.{as_array}
use Rattle.serde_json.specs.View.{view}
use Rattle.serde_json.specs.declared.value.Value.{Value}
use Rattle.script_text.specs.declared.fault.ScriptFault.{ScriptFault}
use Rattle.script_text.specs.declared.fault.ScriptError.{ScriptError}
use Rattle.script_text.specs.declared.fault.ScriptError.TheVariants.{Bad, NoMemory}
use Rattle.script_text.specs.Json.{whole, row, values_of, at_key, as_whole}
use Rattle.script_text.specs.Form.{stop_data}
use Rattle.script_text.specs.Faults.{fault, fault_unless, members_fault, settings_fault, clients_fault, calls_fault, has_known_keys, has_version, has_namenodes, may_count, may_persist, namenodes_in, stops_fault, bad_stop, call_fault, client_fault, stop_after}
use Rattle.script_text.specs.Grammar.{HasClients, Says}
use Rattle.script_text.specs.Reading.{IsReadOf}
use Rattle.script_text.proofs.ValueFacts.{unless-none, option_or-none, is_array, values_of-items_of, items_of-values_of}
use Rattle.script_text.proofs.OneScript.{one_of_members}
use Rattle.script_text.proofs.Exact.{members_exact}

-- the answer is this error
pub error_is : {T : Type 0} (r : Result T ScriptError) (told : ScriptError) → IsErr r × IsErrAnd r (λ e. e ≡ told) → r ≡ Err told
error_is (Ok x) told h = absurd h.1
error_is (Err e) told h = ap Err h.1

-- the fault of a part is passed on where it is the fault of the whole
pub passed_on : {T U : Type 0} (part whole : Option ScriptFault) (Is : T → Type 0) (Also : U → Type 0) (r : Result T ScriptError) (q : Result U ScriptError) (told : ScriptError) → IsReadOf part Is r → r ≡ Err told → IsErr q × IsErrAnd q (λ e. e ≡ told)
    → ((f : ScriptFault) → part ≡ Some f → whole ≡ Some f) → IsReadOf whole Also q
passed_on {T} {U} part whole Is Also r q told h is same more = subst (IsReadOf whole Also) (sym (error_is q told same)) (by told (subst (IsReadOf part Is) is h))
  where
    by : (told : ScriptError) → IsReadOf part Is (Err told) → IsReadOf whole Also (Err told)
    by (Bad f) bad = more f bad
    by NoMemory bad = tt

-- what is read of a part is read of the whole, where both have one fault
pub read_so : {T : Type 0} (part whole : Option ScriptFault) (Is Also : T → Type 0) (r : Result T ScriptError) → part ≡ whole → ((x : T) → Is x → Also x) → IsReadOf part Is r → IsReadOf whole Also r
read_so part whole Is Also (Ok x) same more h = (sym same ∙ h.0, more x h.1)
read_so part whole Is Also (Err (Bad f)) same more h = sym same ∙ h
read_so part whole Is Also (Err NoMemory) same more h = tt

-- ---- lists of values

-- the first fault of what is left of the values
pub fault_next : (f : ℕ × Data → Option ScriptFault) (n : ℕ) (values : List Value) (i : ℕ) (v : Value) → i < length values → v ≡ get_or values i v
    → first_some (map f (enumerate_from n (map view (drop i values)))) ≡ option_or (f (n, view v)) (first_some (map f (enumerate_from (n + 1) (map view (drop (i + 1) values)))))
fault_next f n values i v lt is =
    let next : drop i values ≡ v ∷ drop (i + 1) values = drop_more values i v lt ∙ ap (λ w. w ∷ drop (i + 1) values) (sym is) in
    ap (λ (l : List Value). first_some (map f (enumerate_from n (map view l)))) next

-- it is that of the next value, where that has one
pub fault_here : (f : ℕ × Data → Option ScriptFault) (n : ℕ) (values : List Value) (i : ℕ) (v : Value) (whole : Option ScriptFault) (told : ScriptFault) → i < length values → v ≡ get_or values i v
    → first_some (map f (enumerate_from n (map view (drop i values)))) ≡ whole → f (n, view v) ≡ Some told → whole ≡ Some told
fault_here f n values i v whole told lt is before here = sym before ∙ fault_next f n values i v lt is ∙ ap (λ (o : Option ScriptFault). option_or o (first_some (map f (enumerate_from (n + 1) (map view (drop (i + 1) values)))))) here

-- else that of the values behind it
pub fault_later : (f : ℕ × Data → Option ScriptFault) (n : ℕ) (values : List Value) (i : ℕ) (v : Value) (whole : Option ScriptFault) → i < length values → v ≡ get_or values i v
    → first_some (map f (enumerate_from n (map view (drop i values)))) ≡ whole → f (n, view v) ≡ None → first_some (map f (enumerate_from (n + 1) (map view (drop (i + 1) values)))) ≡ whole
fault_later f n values i v whole lt is before none = sym (ap (λ (o : Option ScriptFault). option_or o (first_some (map f (enumerate_from (n + 1) (map view (drop (i + 1) values)))))) none) ∙ sym (fault_next f n values i v lt is) ∙ before

-- values are as many as what is seen of them
pub few_seen : (most : ℕ) (values : List Value) → length values ≤ most → nat_le (length (map view values)) most ≡ true
few_seen most values few = rw (length-map values view) (le-leb (length values) most few)

-- ---- arrays at keys

-- the value is the array whose values were found
pub array_there : (o : Option Data) (values : List Data) → Some values ≡ option_map values_of (option_and_then as_array o) → o ≡ Some (row values)
array_there None values h = cc
array_there (Some value) values h = among (as_array value) refl h
  where
    among : (p : Option Items) → as_array value ≡ p → Some values ≡ option_map values_of p → Some value ≡ Some (row values)
    among None e f = cc
    among (Some items) e f = ap Some (is_array value items e ∙ ap array (sym (items_of-values_of items)) ∙ ap row (sym (ap (λ (p : Option (List Data)). unwrap_or p []) f)))

-- with nothing behind it, it is the first
first_alone : (o : Option ScriptFault) → option_or o None ≡ o
first_alone None = refl
first_alone (Some f) = refl

-- the fault of the calls at their key
pub calls_fault_is : (at : ℕ) (ms : Members) (values : List Data) → at_key "calls" ms ≡ Some (row values) → nat_le (length values) most_calls ≡ true
    → first_some (map (call_fault at) (enumerate_from 1 values)) ≡ calls_fault at ms
calls_fault_is at ms values there few = sym (rw (there, values_of-items_of values, few) (first_alone (first_some (map (call_fault at) (enumerate_from 1 values)))))

-- the fault of the clients at theirs
pub clients_fault_is : (ms : Members) (values : List Data) → at_key "clients" ms ≡ Some (row values) → nat_le (length values) most_clients ≡ true
    → first_some (map client_fault (enumerate_from 0 values)) ≡ clients_fault ms
clients_fault_is ms values there few = sym (rw (there, values_of-items_of values, few) (first_alone (first_some (map client_fault (enumerate_from 0 values)))))

-- ---- stops

-- the values before a place
take-seen : (values : List Value) (i : ℕ) → take i (map view values) ≡ map view (take i values)
take-seen [] zero = refl
take-seen [] (suc i) = refl
take-seen (v ∷ values) zero = refl
take-seen (v ∷ values) (suc i) = ap (λ l. view v ∷ l) (take-seen values i)

-- the first bad value of what is left of all, from this place on
abbrev pub find_bad : ℕ → List Data → ℕ → List Data → Option (ℕ × Data)
find_bad namenodes all n left = find (λ (p : ℕ × Data). not (is_some (stop_after namenodes (take p.0 all) p.1))) (enumerate_from n left)

-- what is read of the value at a place, behind the stops before it
stop_there : (namenodes : ℕ) (values : List Value) (stops : List (NodeNo × ℕ)) (i : ℕ) (v : Data) → map view (take i values) ≡ map stop_data stops
    → stop_after namenodes (take i (map view values)) v ≡ stop_after namenodes (map stop_data stops) v
stop_there namenodes values stops i v before = ap (λ (l : List Data). stop_after namenodes l v) (take-seen values i ∙ before)

-- the first bad value of what is left
bad_next : (namenodes : ℕ) (all : List Data) (values : List Value) (i : ℕ) (v : Value) → i < length values → v ≡ get_or values i v
    → find_bad namenodes all i (map view (drop i values)) ≡ (if not (is_some (stop_after namenodes (take i all) (view v))) then Some (i, view v) else find_bad namenodes all (i + 1) (map view (drop (i + 1) values)))
bad_next namenodes all values i v lt is =
    let next : drop i values ≡ v ∷ drop (i + 1) values = drop_more values i v lt ∙ ap (λ w. w ∷ drop (i + 1) values) (sym is) in
    ap (λ (l : List Value). find_bad namenodes all i (map view l)) next

module _ (namenodes : ℕ) (values : List Value) (stops : List (NodeNo × ℕ)) (i : ℕ) (v : Value) (lt : i < length values) (is : v ≡ get_or values i v) (before : map view (take i values) ≡ map stop_data stops) where
  -- the first bad value of what is left, by the stop that is read of the next one
  bad_by : (o : Option (NodeNo × ℕ)) → stop_after namenodes (map stop_data stops) (view v) ≡ o
      → find_bad namenodes (map view values) i (map view (drop i values)) ≡ (if not (is_some o) then Some (i, view v) else find_bad namenodes (map view values) (i + 1) (map view (drop (i + 1) values)))
  bad_by o read_as =
      bad_next namenodes (map view values) values i v lt is
      ∙ ap (λ (p : Option (NodeNo × ℕ)). if not (is_some p) then Some (i, view v) else find_bad namenodes (map view values) (i + 1) (map view (drop (i + 1) values))) (stop_there namenodes values stops i (view v) before ∙ read_as)

  -- where one is read, the first bad value is behind it
  pub bad_later : (stop : NodeNo × ℕ) (whole : Option (ℕ × Data)) → stop_after namenodes (map stop_data stops) (view v) ≡ Some stop
      → find_bad namenodes (map view values) i (map view (drop i values)) ≡ whole → find_bad namenodes (map view values) (i + 1) (map view (drop (i + 1) values)) ≡ whole
  bad_later stop whole read_as from = sym (bad_by (Some stop) read_as) ∙ from

  -- where none is, the next value is the first bad one
  pub bad_here : stop_after namenodes (map stop_data stops) (view v) ≡ None → find_bad namenodes (map view values) i (map view (drop i values)) ≡ find_bad namenodes (map view values) 0 (map view values)
      → option_map (λ at. fault 9 at 0) (bad_stop namenodes (map view values)) ≡ Some (fault 9 i 0)
  bad_here none from = ap (λ (o : Option (ℕ × Data)). option_map (λ at. fault 9 at 0) (option_map (λ (p : ℕ × Data). p.0) o)) (sym from ∙ bad_by None none)

-- more stops are said
pub stops_more : (values : List Value) (stops : List (NodeNo × ℕ)) (i : ℕ) (v : Value) (stop : NodeNo × ℕ) → i < length values → v ≡ get_or values i v → map view (take i values) ≡ map stop_data stops → view v ≡ stop_data stop → map view (take (i + 1) values) ≡ map stop_data (stops ++ stop ∷ [])
stops_more values stops i v stop lt is before here =
    let next : take (i + 1) values ≡ take i values ++ v ∷ [] = take_more values i v lt ∙ ap (λ w. take i values ++ w ∷ []) (sym is) in
    ap (map view) next ∙ map-append view (take i values) (v ∷ []) ∙ (λ k. before k ++ here k ∷ []) ∙ sym (map-append stop_data stops (stop ∷ []))

-- the value is the array of what is read of it
pub value_is : (value : Data) (values : List Data) → Some values ≡ option_map values_of (as_array value) → value ≡ row values
value_is value values found = ap (λ (o : Option Data). unwrap_or o value) (array_there (Some value) values found)

-- the fault of stops in an array
pub stops_fault_is : (namenodes : ℕ) (value : Data) (values : List Data) → value ≡ row values → option_map (λ at. fault 9 at 0) (bad_stop namenodes values) ≡ stops_fault namenodes value
stops_fault_is namenodes value values is = sym (ap (stops_fault namenodes) is ∙ ap (λ vs. option_map (λ at. fault 9 at 0) (bad_stop namenodes vs)) (values_of-items_of values))

-- ---- scripts

-- settings without a fault say by a truth value whether calls persist
pub settings_persist : (ms : Members) → settings_fault ms ≡ None → may_persist ms ≡ true
settings_persist ms h =
    let keys = option_or-none (fault_unless (has_known_keys ms) (fault 3 0 0)) _ h in
    let version = option_or-none (fault_unless (has_version ms) (fault 4 0 0)) _ keys.1 in
    let namenodes = option_or-none (fault_unless (has_namenodes ms) (fault 5 0 0)) _ version.1 in
    let tries = option_or-none (fault_unless (may_count "tries" ms) (fault 6 0 0)) _ namenodes.1 in
    let grace = option_or-none (fault_unless (may_count "grace" ms) (fault 7 0 0)) _ tries.1 in
    unless-none (may_persist ms) (fault 8 0 0) (option_or-none (fault_unless (may_persist ms) (fault 8 0 0)) None grace.1).0

-- the fault of the clients is that of the members where the settings and the stops have none
pub clients_later : (ms : Members) (told : ScriptFault) → settings_fault ms ≡ None → option_and_then (stops_fault (namenodes_in ms)) (at_key "stops" ms) ≡ None → clients_fault ms ≡ Some told → members_fault ms ≡ Some told
clients_later ms told settings stops clients = (λ i. option_or (settings i) (option_or (stops i) (option_or (clients i) None)))

-- the members have no fault where none of their parts has one
pub no_fault_joined : (ms : Members) → settings_fault ms ≡ None → option_and_then (stops_fault (namenodes_in ms)) (at_key "stops" ms) ≡ None → clients_fault ms ≡ None → members_fault ms ≡ None
no_fault_joined ms settings stops clients = (λ i. option_or (settings i) (option_or (stops i) (option_or (clients i) None)))

-- the members say the script that was read of them
pub members_read : (ms : Members) (script : Script) → members_fault ms ≡ None
    → script.namenodes ≡ unwrap_or (option_and_then as_whole (at_key "namenodes" ms)) 0
    → HasClients ms script.clients → unwrap_or (at_key "stops" ms) (row []) ≡ row (map stop_data script.stops)
    → script.tries ≡ unwrap_or (option_and_then as_whole (at_key "tries" ms)) default_tries
    → script.grace ≡ unwrap_or (option_and_then as_whole (at_key "grace" ms)) default_grace
    → unwrap_or (at_key "persist" ms) (boolean true) ≡ boolean script.persist
    → Says ms script × IsScript script
members_read ms script none namenodes clients stops tries grace persist =
    let other = members_exact ms none in
    let says = other.2 in
    let node : script.namenodes ≡ other.0.namenodes = namenodes ∙ ap (λ (o : Option Data). unwrap_or (option_and_then as_whole o) 0) says.namenodes in
    let said : Says ms script =
    record {
      namenodes = says.namenodes ∙ ap (λ n. Some (whole n)) (sym node);
      clients = clients;
      stops = stops;
      tries = count_back (at_key "tries" ms) default_tries script.tries other.0.tries tries says.tries;
      grace = count_back (at_key "grace" ms) default_grace script.grace other.0.grace grace says.grace;
      persist = persist;
    } in
    (said, subst IsScript (one_of_members ms other.0 script says said) other.1)
  where
    count_back : (o : Option Data) (default n m : ℕ) → n ≡ unwrap_or (option_and_then as_whole o) default → unwrap_or o (whole default) ≡ whole m → unwrap_or o (whole default) ≡ whole n
    count_back None default n m is says = ap whole (sym is)
    count_back (Some value) default n m is says = says ∙ ap whole (sym (is ∙ ap (λ (v : Data). unwrap_or (as_whole v) default) says))
