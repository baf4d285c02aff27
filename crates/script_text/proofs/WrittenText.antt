-- The text that is written for a script is UTF-8, and is of no other script.
use Prim.Native.String.{String}
use Rattle.std.proofs.Common.{◌≡◌, ◌≤◌, ◌<◌, ◌^◌, ℕ, Bool, true, false, nat_le, nat_lt, List, [], ◌∷◌, map, Option, Some, None, unwrap_or, codes, decimal, refl, sym, ap, subst, ◌∙◌, arith, leb-true, ltb-true, IsUtf8}
use Rattle.std.specs.List.{AllByRecursion, list_all}
use Rattle.std.specs.Cmp.{first_so, second_so}
use Rattle.std.proofs.lemmas.Str.{IsUtf8-append, IsUtf8-nil, IsUtf8-from_ascii, IsUtf8-from_is_utf8}
use Rattle.std.proofs.lemmas.Fmt.{IsAscii-decimal}
use Rattle.std.proofs.lemmas.Bool.{and_parts}
use Rattle.std.proofs.lemmas.Bool.Decides.{nat_tests}
use Rattle.json.proofs.Printed.Utf8.{are_ascii, IsUtf8-are_ascii, IsUtf8-quoted, IsUtf8-boolean}
use Rattle.hops_base.specs.Name.{is_name}
use Rattle.hops_base.specs.Path.{is_short, text_of}
use Rattle.hops_base.proofs.Spelling.{utf8_of_names}
use Rattle.hops_base.specs.User.{is_user, is_user_byte}
use Rattle.hops_base.specs.declared.ids.NodeNo.{NodeNo}
use Rattle.name_space.specs.Call.{Argument, a_path, a_truth, a_number, a_quota, most_quota, form_of, is_in_range, is_valid}
use Rattle.name_space.specs.Script.{ClientCalls, Script, IsScript, most_namenodes, is_client, is_stop, is_count}
use Rattle.name_space.specs.declared.call.Call.{Call}
use Rattle.serde_json.specs.Data.{Data, null, boolean, string}
use Rattle.serde_json.specs.Read.{read}
use Rattle.serde_json.specs.View.{items_of}
use Rattle.serde_json.specs.Written.{comma_if, compact_text, items_text, members_text}
use Rattle.script_text.specs.Json.{whole, word, row, members, fields}
use Rattle.script_text.specs.Form.{argument_data, call_data, client_data, stop_data, script_data, script_text}
use Rattle.script_text.specs.Grammar.{Says, IsScriptText}
use Rattle.script_text.proofs.Canonical.{client_parts, script_members, members_in, script_said, canonical}
use Rattle.script_text.proofs.Forms.{is_small, formed}
use Rattle.script_text.proofs.OneScript.{one_of_members}
use Rattle.script_text.proofs.ReadBack.{script_read_back, count_below}
use Rattle.script_text.proofs.Values.{value_there}

-- the text of the value is UTF-8
abbrev HasText : Data → Type 0
HasText d = IsUtf8 (compact_text d)

comma_utf8 : (later : Bool) → IsUtf8 (comma_if later)
comma_utf8 true = IsUtf8-are_ascii (44 ∷ []) refl
comma_utf8 false = IsUtf8-nil

items_utf8 : (later : Bool) (ds : List Data) → AllByRecursion HasText ds → IsUtf8 (items_text later (items_of ds))
items_utf8 later [] good = IsUtf8-are_ascii (93 ∷ []) refl
items_utf8 later (d ∷ ds) good = IsUtf8-append (comma_if later) _ (comma_utf8 later) (IsUtf8-append (compact_text d) _ good.0 (items_utf8 true ds good.1))

row_utf8 : (ds : List Data) → AllByRecursion HasText ds → HasText (row ds)
row_utf8 ds good = IsUtf8-append (91 ∷ []) _ (IsUtf8-are_ascii (91 ∷ []) refl) (items_utf8 false ds good)

-- the key of a member and the text of its value are UTF-8
abbrev IsTextMember : String × Data → Type 0
IsTextMember (key, value) = IsUtf8 (codes key) × HasText value

members_utf8 : (later : Bool) (all : List (String × Data)) → AllByRecursion IsTextMember all → IsUtf8 (members_text later (members all))
members_utf8 later [] good = IsUtf8-are_ascii (125 ∷ []) refl
members_utf8 later ((key, value) ∷ all) good =
    IsUtf8-append (comma_if later) _ (comma_utf8 later) (IsUtf8-append _ _ (IsUtf8-quoted (codes key) good.0.0)
    (IsUtf8-append (58 ∷ []) _ (IsUtf8-are_ascii (58 ∷ []) refl) (IsUtf8-append (compact_text value) _ good.0.1 (members_utf8 true all good.1))))

fields_utf8 : (all : List (String × Data)) → AllByRecursion IsTextMember all → HasText (fields all)
fields_utf8 all good = IsUtf8-append (123 ∷ []) _ (IsUtf8-are_ascii (123 ∷ []) refl) (members_utf8 false all good)

-- ---- plain values

whole_utf8 : (n : ℕ) → n < 2 ^ 64 → HasText (whole n)
whole_utf8 n small = IsUtf8-from_ascii (decimal n) (IsAscii-decimal n small)

at_most_utf8 : (n most : ℕ) → nat_le n most ≡ true → most < 2 ^ 64 → HasText (whole n)
at_most_utf8 n most short small = let less = leb-true n most short in whole_utf8 n (omega arith)

word_utf8 : (text : String) → are_ascii (codes text) ≡ true → HasText (word text)
word_utf8 text good = IsUtf8-quoted (codes text) (IsUtf8-are_ascii (codes text) good)

-- ---- users

user_byte_ascii : (b : ℕ) → is_user_byte b ≡ true → nat_lt b 128 ≡ true
user_byte_ascii b good = grind (arith, nat_tests)

user_bytes_ascii : (bytes : List ℕ) → list_all is_user_byte bytes ≡ true → are_ascii bytes ≡ true
user_bytes_ascii [] good = refl
user_bytes_ascii (b ∷ bytes) good = rw (user_byte_ascii b (first_so (is_user_byte b) (list_all is_user_byte bytes) good)) (user_bytes_ascii bytes (second_so (is_user_byte b) (list_all is_user_byte bytes) good))

user_utf8 : (user : List ℕ) → is_user user ≡ true → HasText (string user)
user_utf8 user good = IsUtf8-quoted user (IsUtf8-are_ascii user (user_bytes_ascii user (second_so _ (list_all is_user_byte user) good)))

-- ---- calls

argument_utf8 : (one : Argument) → is_in_range one ≡ true → is_small one ≡ true → HasText (argument_data one)
argument_utf8 (a_path path) good small = IsUtf8-quoted (text_of path) (IsUtf8-from_is_utf8 (text_of path) (utf8_of_names path (and_parts (list_all is_name path) (is_short path) good).0))
argument_utf8 (a_truth truth) good small = IsUtf8-boolean truth
argument_utf8 (a_number least most number) good small = at_most_utf8 number most (and_parts (nat_le least number) (nat_le number most) good).1 (ltb-true most (2 ^ 64) small)
argument_utf8 (a_quota None) good small = IsUtf8-are_ascii _ refl
argument_utf8 (a_quota (Some limit)) good small = at_most_utf8 limit most_quota (and_parts (nat_le 1 limit) (nat_le limit most_quota) good).1 (omega arith)

arguments_utf8 : (all : List Argument) → list_all is_in_range all ≡ true → list_all is_small all ≡ true → AllByRecursion HasText (map argument_data all)
arguments_utf8 [] good small = tt
arguments_utf8 (one ∷ all) good small =
    let ranges = and_parts (is_in_range one) (list_all is_in_range all) good in
    let sizes = and_parts (is_small one) (list_all is_small all) small in
    (argument_utf8 one ranges.0 sizes.0, arguments_utf8 all ranges.1 sizes.1)

call_utf8 : (asked : Call) → is_valid asked ≡ true → HasText (call_data asked)
call_utf8 asked valid = row_utf8 (word (form_of asked).word ∷ map argument_data (form_of asked).arguments) (word_utf8 (form_of asked).word (formed asked).ascii, arguments_utf8 (form_of asked).arguments valid (formed asked).small)

calls_utf8 : (calls : List Call) → list_all is_valid calls ≡ true → AllByRecursion HasText (map call_data calls)
calls_utf8 [] valid = tt
calls_utf8 (asked ∷ calls) valid = let parts = and_parts (is_valid asked) (list_all is_valid calls) valid in (call_utf8 asked parts.0, calls_utf8 calls parts.1)

-- ---- clients and stops

client_utf8 : (client : ClientCalls) → is_client client ≡ true → HasText (client_data client)
client_utf8 client good =
    let parts = client_parts client good in
    fields_utf8 (("calls", row (map call_data client.calls)) ∷ ("user", string client.user) ∷ []) ((IsUtf8-are_ascii _ refl, row_utf8 (map call_data client.calls) (calls_utf8 client.calls parts.2)), ((IsUtf8-are_ascii _ refl, user_utf8 client.user parts.0), tt))

clients_utf8 : (clients : List ClientCalls) → list_all is_client clients ≡ true → AllByRecursion HasText (map client_data clients)
clients_utf8 [] good = tt
clients_utf8 (client ∷ clients) good = let parts = and_parts (is_client client) (list_all is_client clients) good in (client_utf8 client parts.0, clients_utf8 clients parts.1)

stop_utf8 : (namenodes : ℕ) (stop : NodeNo × ℕ) → namenodes ≤ most_namenodes → is_stop namenodes stop ≡ true → HasText (stop_data stop)
stop_utf8 namenodes stop few good =
    let below = ltb-true stop.0.0 namenodes (first_so _ (is_count stop.1) good) in
    row_utf8 (whole stop.0.0 ∷ whole stop.1 ∷ []) (whole_utf8 stop.0.0 (omega arith), (whole_utf8 stop.1 (count_below stop.1 (second_so _ (is_count stop.1) good)), tt))

stops_utf8 : (namenodes : ℕ) (stops : List (NodeNo × ℕ)) → namenodes ≤ most_namenodes → list_all (is_stop namenodes) stops ≡ true → AllByRecursion HasText (map stop_data stops)
stops_utf8 namenodes [] few good = tt
stops_utf8 namenodes (stop ∷ stops) few good =
    (stop_utf8 namenodes stop few (first_so (is_stop namenodes stop) (list_all (is_stop namenodes) stops) good), stops_utf8 namenodes stops few (second_so (is_stop namenodes stop) (list_all (is_stop namenodes) stops) good))

-- ---- scripts

script_utf8 : (script : Script) → IsScript script → IsUtf8 (script_text script)
script_utf8 script in_range =
    let most = in_range.namenodes.1 in
    let clients = row_utf8 (map client_data script.clients) (clients_utf8 script.clients in_range.clients.1) in
    let stops = row_utf8 (map stop_data script.stops) (stops_utf8 script.namenodes script.stops most in_range.stops.0) in
    let grace = whole_utf8 script.grace (count_below script.grace in_range.grace) in
    let namenodes = whole_utf8 script.namenodes (omega arith) in
    let tries = whole_utf8 script.tries (count_below script.tries in_range.tries) in
    let version = whole_utf8 1 (omega arith) in
    fields_utf8 (("clients", row (map client_data script.clients)) ∷ ("grace", whole script.grace) ∷ ("namenodes", whole script.namenodes) ∷ ("persist", boolean script.persist) ∷ ("stops", row (map stop_data script.stops)) ∷ ("tries", whole script.tries) ∷ ("version", whole 1) ∷ [])
    ((IsUtf8-are_ascii _ refl, clients), ((IsUtf8-are_ascii _ refl, grace), ((IsUtf8-are_ascii _ refl, namenodes), ((IsUtf8-are_ascii _ refl, IsUtf8-boolean script.persist), ((IsUtf8-are_ascii _ refl, stops), ((IsUtf8-are_ascii _ refl, tries), ((IsUtf8-are_ascii _ refl, version), tt)))))))

-- the text that is written for a script is one of its texts
pub canonical_read : (script : Script) → IsScript script → IsScriptText (script_text script) script
canonical_read script in_range = canonical (script_text script) script in_range (value_there (script_text script) (script_data script) (script_utf8 script in_range) (script_read_back script in_range))

-- the value that was read
read_value_of : Option Data → Data
read_value_of read_as = unwrap_or read_as null

-- two scripts with one text are one
pub one_canonical : (p q : Script) → IsScript p → IsScript q → script_text p ≡ script_text q → p ≡ q
unfolding read_value_of
one_canonical p q good also same =
    let values : script_data p ≡ script_data q = ap read_value_of (sym (script_read_back p good) ∙ ap read same ∙ script_read_back q also) in
    one_of_members (script_members q) p q (subst (λ (d : Data). Says (members_in d) p) values (script_said p good)) (script_said q also)
