-- The text that is written for a value is read as that value.
use Rattle.std.proofs.Common.{◌≡◌, ◌≤◌, ◌<◌, ◌^◌, ℕ, suc, Bool, true, nat_le, List, [], ◌∷◌, ◌++◌, map, Some, None, option_and_then, refl, sym, ap, ◌∙◌, arith, append-nil, leb-true, ltb-true}
use Rattle.std.specs.List.{AllByRecursion, list_all}
use Rattle.std.specs.Cmp.{first_so, second_so}
use Rattle.std.proofs.lemmas.Bool.{and_parts}
use Rattle.json.specs.Lex.{tokens}
use Rattle.json.specs.Json as json
use Rattle.json.specs.Tree as tree
use Rattle.json.proofs.Printed.Decimals.{IsNumber-decimal}
use Rattle.json.proofs.Printed.Tokens.{tokens-print}
use Rattle.json.proofs.Printed.Trees.{value-json_tokens, ArePrintable-json_tokens}
use Rattle.hops_base.specs.declared.ids.NodeNo.{NodeNo}
use Rattle.name_space.specs.Call.{Argument, a_path, a_truth, a_number, a_quota, most_quota, form_of, is_in_range, is_valid}
use Rattle.name_space.specs.Script.{ClientCalls, Script, IsScript, most_namenodes, is_client, is_stop, is_count}
use Rattle.name_space.specs.declared.call.Call.{Call}
use Rattle.serde_json.specs.Data.{Data, null, boolean, string}
use Rattle.serde_json.specs.Read.{read, of_json, of_items}
use Rattle.serde_json.specs.View.{items_of}
use Rattle.serde_json.specs.Written.{outline, items_outline, compact_text}
use Rattle.serde_json.proofs.Numbers.{number_of-decimal}
use Rattle.serde_json.proofs.Texts.{print-outline}
use Rattle.script_text.specs.Json.{whole, word, row}
use Rattle.script_text.specs.Form.{argument_data, call_data, client_data, stop_data, script_data, script_text}
use Rattle.script_text.proofs.Forms.{is_small, formed}

-- the value nests at most so deep, and the outline of its text is that of a value that reads as it
pub record IsOutlined (most : ℕ) (d : Data) : Type 0 where
  pub back : of_json (outline d) ≡ Some d
  pub numbers : tree.HasNumbers (outline d)
  pub depth : tree.depth (outline d) ≤ most

-- what is read of such a text
pub read-compact_text : (d : Data) → IsOutlined 127 d → read (compact_text d) ≡ Some d
read-compact_text d known =
    let j = outline d in
    let same : tokens (compact_text d) ≡ tree.json_tokens j ++ [] = ap tokens (sym (print-outline d)) ∙ tokens-print (tree.json_tokens j) (ArePrintable-json_tokens j known.numbers) ∙ sym (append-nil (tree.json_tokens j)) in
    ap (λ o. option_and_then of_json (option_and_then (λ p. json.if_last p.0 p.1) o)) (ap (json.value 127) same ∙ value-json_tokens j 127 [] known.depth) ∙ known.back

-- ---- plain values

null_known : (most : ℕ) → IsOutlined most null
null_known most = record { back = refl; numbers = tt; depth = omega arith }

boolean_known : (most : ℕ) (b : Bool) → IsOutlined most (boolean b)
boolean_known most b = record { back = refl; numbers = tt; depth = omega arith }

string_known : (most : ℕ) (s : List ℕ) → IsOutlined most (string s)
string_known most s = record { back = refl; numbers = tt; depth = omega arith }

whole_known : (most n : ℕ) → n < 2 ^ 64 → IsOutlined most (whole n)
whole_known most n small = record { back = rw (number_of-decimal n small) refl; numbers = IsNumber-decimal n small; depth = omega arith }

-- ---- rows

items_back : (most : ℕ) (ds : List Data) → AllByRecursion (IsOutlined most) ds → of_items (items_outline (items_of ds)) ≡ Some (items_of ds)
items_back most [] known = refl
items_back most (d ∷ ds) known = rw (known.0.back, items_back most ds known.1) refl

items_numbers : (most : ℕ) (ds : List Data) → AllByRecursion (IsOutlined most) ds → tree.ItemsHaveNumbers (items_outline (items_of ds))
items_numbers most [] known = tt
items_numbers most (d ∷ ds) known = (known.0.numbers, items_numbers most ds known.1)

items_depth : (most : ℕ) (ds : List Data) → AllByRecursion (IsOutlined most) ds → tree.items_depth (items_outline (items_of ds)) ≤ most
items_depth most [] known = omega arith
items_depth most (d ∷ ds) known = let first = known.0.depth in let rest = items_depth most ds known.1 in omega arith

row_known : (most : ℕ) (ds : List Data) → AllByRecursion (IsOutlined most) ds → IsOutlined (suc most) (row ds)
row_known most ds known =
    let depth = items_depth most ds known in
    record { back = rw (items_back most ds known) refl; numbers = items_numbers most ds known; depth = omega arith }

-- ---- calls

at_most_known : (n most : ℕ) → nat_le n most ≡ true → most < 2 ^ 64 → IsOutlined 0 (whole n)
at_most_known n most short small = let less = leb-true n most short in whole_known 0 n (omega arith)

argument_known : (one : Argument) → is_in_range one ≡ true → is_small one ≡ true → IsOutlined 0 (argument_data one)
argument_known (a_path path) good small = string_known 0 _
argument_known (a_truth truth) good small = boolean_known 0 truth
argument_known (a_number least most number) good small = at_most_known number most (and_parts (nat_le least number) (nat_le number most) good).1 (ltb-true most (2 ^ 64) small)
argument_known (a_quota None) good small = null_known 0
argument_known (a_quota (Some limit)) good small = at_most_known limit most_quota (and_parts (nat_le 1 limit) (nat_le limit most_quota) good).1 (omega arith)

arguments_known : (all : List Argument) → list_all is_in_range all ≡ true → list_all is_small all ≡ true → AllByRecursion (IsOutlined 0) (map argument_data all)
arguments_known [] good small = tt
arguments_known (one ∷ all) good small =
    let ranges = and_parts (is_in_range one) (list_all is_in_range all) good in
    let sizes = and_parts (is_small one) (list_all is_small all) small in
    (argument_known one ranges.0 sizes.0, arguments_known all ranges.1 sizes.1)

call_known : (asked : Call) → is_valid asked ≡ true → IsOutlined 1 (call_data asked)
call_known asked valid = row_known 0 (word (form_of asked).word ∷ map argument_data (form_of asked).arguments) (string_known 0 _, arguments_known (form_of asked).arguments valid (formed asked).small)

calls_known : (calls : List Call) → list_all is_valid calls ≡ true → AllByRecursion (IsOutlined 1) (map call_data calls)
calls_known [] valid = tt
calls_known (asked ∷ calls) valid = let parts = and_parts (is_valid asked) (list_all is_valid calls) valid in (call_known asked parts.0, calls_known calls parts.1)

-- ---- clients and stops

client_known : (client : ClientCalls) → is_client client ≡ true → IsOutlined 3 (client_data client)
client_known client good =
    let calls = row_known 1 (map call_data client.calls) (calls_known client.calls (second_so _ (list_all is_valid client.calls) good)) in
    let depth = calls.depth in
    record { back = rw calls.back refl; numbers = (calls.numbers, (tt, tt)); depth = omega arith }

clients_known : (clients : List ClientCalls) → list_all is_client clients ≡ true → AllByRecursion (IsOutlined 3) (map client_data clients)
clients_known [] good = tt
clients_known (client ∷ clients) good = (client_known client (first_so (is_client client) (list_all is_client clients) good), clients_known clients (second_so (is_client client) (list_all is_client clients) good))

pub count_below : (n : ℕ) → is_count n ≡ true → n < 2 ^ 64
count_below n good = let most = leb-true n 1000000 (second_so (nat_le 1 n) (nat_le n 1000000) good) in omega arith

stop_known : (namenodes : ℕ) (stop : NodeNo × ℕ) → namenodes ≤ most_namenodes → is_stop namenodes stop ≡ true → IsOutlined 1 (stop_data stop)
stop_known namenodes stop few good =
    let below = ltb-true stop.0.0 namenodes (first_so _ (is_count stop.1) good) in
    row_known 0 (whole stop.0.0 ∷ whole stop.1 ∷ []) (whole_known 0 stop.0.0 (omega arith), (whole_known 0 stop.1 (count_below stop.1 (second_so _ (is_count stop.1) good)), tt))

stops_known : (namenodes : ℕ) (stops : List (NodeNo × ℕ)) → namenodes ≤ most_namenodes → list_all (is_stop namenodes) stops ≡ true → AllByRecursion (IsOutlined 1) (map stop_data stops)
stops_known namenodes [] few good = tt
stops_known namenodes (stop ∷ stops) few good =
    (stop_known namenodes stop few (first_so (is_stop namenodes stop) (list_all (is_stop namenodes) stops) good), stops_known namenodes stops few (second_so (is_stop namenodes stop) (list_all (is_stop namenodes) stops) good))

-- ---- scripts

script_known : (script : Script) → IsScript script → IsOutlined 5 (script_data script)
script_known script in_range =
    let clients = row_known 3 (map client_data script.clients) (clients_known script.clients in_range.clients.1) in
    let stops = row_known 1 (map stop_data script.stops) (stops_known script.namenodes script.stops in_range.namenodes.1 in_range.stops.0) in
    let most = in_range.namenodes.1 in
    let namenodes = whole_known 0 script.namenodes (omega arith) in
    let grace = whole_known 0 script.grace (count_below script.grace in_range.grace) in
    let tries = whole_known 0 script.tries (count_below script.tries in_range.tries) in
    let version = whole_known 0 1 (omega arith) in
    let deep = clients.depth in
    let less_deep = stops.depth in
    record {
      back = rw (clients.back, stops.back, namenodes.back, grace.back, tries.back, version.back) refl;
      numbers = (clients.numbers, (grace.numbers, (namenodes.numbers, (tt, (stops.numbers, (tries.numbers, (version.numbers, tt)))))));
      depth = omega arith;
    }

-- the text of a script is read as its value
pub script_read_back : (script : Script) → IsScript script → read (script_text script) ≡ Some (script_data script)
script_read_back script in_range =
    let known = script_known script in_range in
    let depth = known.depth in
    read-compact_text (script_data script) (record { back = known.back; numbers = known.numbers; depth = omega arith })
