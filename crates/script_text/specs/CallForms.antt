-- Which values of JSON are calls, by the forms of calls, and what is wrong with the others. This project's own.
use Rattle.std.specs.Prelude.{ℕ, suc, Bool, false, ◌||◌, List, [], ◌∷◌, map, drop, slice_get, filter_map, find, Option, is_some, option_map, option_and_then, unwrap_or, bytes_eq, codes}
use Rattle.std.specs.List.{list_all}
use Rattle.std.specs.Option.{option_map_or}
use Rattle.std.specs.Cmp.Lexicographic.{pointwise}
use Rattle.hops_base.specs.First.{first_some}
use Rattle.hops_base.specs.Path.{names_in, path_fault}
use Rattle.hops_base.specs.declared.path_text.PathFault.{PathFault}
use Rattle.name_space.specs.Call.{Argument, a_path, a_truth, a_number, a_quota, form_of, each_form, is_in_range}
use Rattle.name_space.specs.declared.call.Call.{Call}
use Rattle.serde_json.specs.Data.{Data, null}
use Rattle.serde_json.specs.Find.{as_null, as_bool, as_str}
use Rattle.script_text.specs.Json.{values_in, as_whole, text_in, truth_in, number_in}

-- ---- values and arguments

-- the value is of the argument's kind: the text of a path, a truth value, a whole number, or a whole number or null
abbrev pub has_kind : Argument → Data → Bool
has_kind (a_path path) value = is_some (as_str value)
has_kind (a_truth truth) value = is_some (as_bool value)
has_kind (a_number least most number) value = is_some (as_whole value)
has_kind (a_quota limit) value = is_some (as_null value) || is_some (as_whole value)

-- the argument of this kind that the value gives
abbrev pub argument_in : Argument → Data → Argument
argument_in (a_path path) value = a_path (names_in (text_in value))
argument_in (a_truth truth) value = a_truth (truth_in value)
argument_in (a_number least most number) value = a_number least most (number_in value)
argument_in (a_quota limit) value = a_quota (as_whole value)

-- the value at a place
abbrev pub value_at : ℕ → List Data → Data
value_at i values = unwrap_or (slice_get values i) null

-- the arguments of these kinds that the values give, from a place on
abbrev pub arguments_at : ℕ → List Argument → List Data → List Argument
arguments_at i [] values = []
arguments_at i (kind ∷ kinds) values = argument_in kind (value_at i values) ∷ arguments_at (suc i) kinds values

-- ---- calls

-- a call of the form that has this name
abbrev pub call_named : List ℕ → Option Call
call_named name = find (λ (asked : Call). bytes_eq name (codes (form_of asked).word)) each_form

-- the arguments of that call, of which only the kinds and the ranges count
abbrev pub kinds_named : List ℕ → Option (List Argument)
kinds_named name = option_map (λ (asked : Call). (form_of asked).arguments) (call_named name)

-- the name of a value that is a call
abbrev pub named_by : Data → Option (List ℕ)
named_by call = option_and_then as_str (slice_get (values_in call) 0)

-- the kinds of arguments that the name of a value asks for
abbrev pub kinds_by : Data → Option (List Argument)
kinds_by call = option_and_then kinds_named (named_by call)

-- what stands behind the name of a value
abbrev pub behind_name : Data → List Data
behind_name call = drop 1 (values_in call)

-- rule 14: the call has a known name, and behind it what its form has there, in count and in kind
abbrev pub has_form : Data → Bool
has_form call = option_map_or (λ kinds. pointwise has_kind kinds (behind_name call)) (kinds_by call) false

-- rule 15: no path of the call is refused; else why the first of them is
abbrev pub refused_path : Data → Option PathFault
refused_path call = first_some (map path_fault (filter_map as_str (behind_name call)))

-- rule 16: what the call is made with is in its range; its paths are so behind rule 15, in a text of UTF-8
abbrev pub has_range : Data → Bool
has_range call = option_map_or (λ kinds. list_all is_in_range (arguments_at 0 kinds (behind_name call))) (kinds_by call) false
