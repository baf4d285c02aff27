-- Arguments of calls and the values that say them: each tells the other.
use Rattle.std.proofs.Common.{◌≡◌, ℕ, suc, true, false, List, [], ◌∷◌, map, filter_map, Option, Some, None, refl, sym, ap, subst, ◌∙◌}
use Rattle.std.specs.List.{list_all}
use Rattle.std.specs.Cmp.Lexicographic.{pointwise}
use Rattle.std.proofs.lemmas.Bool.{and_parts, and_from}
use Rattle.hops_base.specs.First.{first_some}
use Rattle.hops_base.specs.Name.{is_name}
use Rattle.hops_base.specs.Path.{is_short, names_in, path_fault}
use Rattle.hops_base.specs.declared.path_text.PathFault.{PathFault}
use Rattle.hops_base.proofs.Spelling.{names_spelled, fault_of_names, text_of_free, of_faultless}
use Rattle.name_space.specs.Call.{Argument, a_path, a_truth, a_number, a_quota, is_in_range}
use Rattle.serde_json.specs.Data.{Data, boolean, string}
use Rattle.serde_json.specs.Find.{as_str}
use Rattle.script_text.specs.Json.{whole, optional, text_in, truth_in, number_in, as_whole}
use Rattle.script_text.specs.Form.{argument_data}
use Rattle.script_text.specs.CallForms.{has_kind, argument_in, value_at, arguments_at}
use Rattle.script_text.proofs.ValueFacts.{option_or-none, is_text, is_truth, is_whole, is_limit}

-- the kind of an argument and its range: one argument for each
abbrev pub kind_of : Argument → Argument
kind_of (a_path path) = a_path []
kind_of (a_truth truth) = a_truth false
kind_of (a_number least most number) = a_number least most 0
kind_of (a_quota limit) = a_quota None

-- the fault of the first text among values that is refused as a path
abbrev pub refused : List Data → Option PathFault
refused values = first_some (map path_fault (filter_map as_str values))

-- ---- of one argument

-- it is told by its value
argument_back : (kind one : Argument) → kind_of kind ≡ kind_of one → is_in_range one ≡ true → argument_in kind (argument_data one) ≡ one
argument_back (a_path p) (a_path q) same good = ap a_path (names_spelled q (and_parts (list_all is_name q) (is_short q) good).0)
argument_back (a_truth p) (a_truth q) same good = refl
argument_back (a_number least most p) (a_number low high q) same good = cc
argument_back (a_quota p) (a_quota None) same good = refl
argument_back (a_quota p) (a_quota (Some q)) same good = refl
argument_back kind one same good = cc

-- its value is of its kind
value_fits : (kind one : Argument) → kind_of kind ≡ kind_of one → has_kind kind (argument_data one) ≡ true
value_fits (a_path p) (a_path q) same = refl
value_fits (a_truth p) (a_truth q) same = refl
value_fits (a_number least most p) (a_number low high q) same = refl
value_fits (a_quota p) (a_quota None) same = refl
value_fits (a_quota p) (a_quota (Some q)) same = refl
value_fits kind one same = cc

-- only its kind and its range count for what a value gives
same_argument : (kind other : Argument) (value : Data) → kind_of kind ≡ kind_of other → argument_in kind value ≡ argument_in other value
same_argument (a_path p) (a_path q) value same = refl
same_argument (a_truth p) (a_truth q) value same = refl
same_argument (a_number least most p) (a_number low high q) value same = cc
same_argument (a_quota p) (a_quota q) value same = refl
same_argument kind other value same = cc

-- a value of its kind that is no refused path is that of what it gives; and no other of the values is refused
value_back : (kind : Argument) (value : Data) (rest : List Data) → has_kind kind value ≡ true → refused (value ∷ rest) ≡ None → (argument_data (argument_in kind value) ≡ value) × (refused rest ≡ None)
value_back (a_path p) value rest fits none =
    let it = is_text value fits in
    let both = option_or-none (path_fault it.0) (refused rest) (subst (λ (v : Data). refused (v ∷ rest) ≡ None) it.1 none) in
    (ap (λ (v : Data). argument_data (a_path (names_in (text_in v)))) it.1 ∙ ap string (text_of_free it.0 (of_faultless it.0 both.0).0) ∙ sym it.1, both.1)
value_back (a_truth p) value rest fits none = let it = is_truth value fits in (ap (λ (v : Data). boolean (truth_in v)) it.1 ∙ sym it.1, subst (λ (v : Data). refused (v ∷ rest) ≡ None) it.1 none)
value_back (a_number least most p) value rest fits none = let it = is_whole value fits in (ap (λ (v : Data). whole (number_in v)) it.1 ∙ sym it.1, subst (λ (v : Data). refused (v ∷ rest) ≡ None) it.1 none)
value_back (a_quota p) value rest fits none = let it = is_limit value fits in by it.0 it.1
  where
    by : (limit : Option ℕ) → value ≡ optional limit → (optional (as_whole value) ≡ value) × (refused rest ≡ None)
    by None is = (ap (λ (v : Data). optional (as_whole v)) is ∙ sym is, subst (λ (v : Data). refused (v ∷ rest) ≡ None) is none)
    by (Some n) is = (ap (λ (v : Data). optional (as_whole v)) is ∙ sym is, subst (λ (v : Data). refused (v ∷ rest) ≡ None) is none)

-- ---- of all arguments of a call

-- the values behind the first give what they give alone
at_next : (i : ℕ) (kinds : List Argument) (value : Data) (values : List Data) → arguments_at (suc i) kinds (value ∷ values) ≡ arguments_at i kinds values
at_next i [] value values = refl
at_next i (kind ∷ kinds) value values = ap (λ rest. argument_in kind (value_at i values) ∷ rest) (at_next (suc i) kinds value values)

-- they are told by their values
pub arguments_back : (kinds all : List Argument) → map kind_of kinds ≡ map kind_of all → list_all is_in_range all ≡ true → arguments_at 0 kinds (map argument_data all) ≡ all
arguments_back [] [] same good = refl
arguments_back [] (one ∷ all) same good = cc
arguments_back (kind ∷ kinds) [] same good = cc
arguments_back (kind ∷ kinds) (one ∷ all) same good =
    let here : kind_of kind ≡ kind_of one = cc in
    let later : map kind_of kinds ≡ map kind_of all = cc in
    let parts = and_parts (is_in_range one) (list_all is_in_range all) good in
    let first = argument_back kind one here parts.0 in
    let rest = at_next 0 kinds (argument_data one) (map argument_data all) ∙ arguments_back kinds all later parts.1 in
    λ i. first i ∷ rest i

-- their values are of their kinds
pub values_fit : (kinds all : List Argument) → map kind_of kinds ≡ map kind_of all → pointwise has_kind kinds (map argument_data all) ≡ true
values_fit [] [] same = refl
values_fit [] (one ∷ all) same = cc
values_fit (kind ∷ kinds) [] same = cc
values_fit (kind ∷ kinds) (one ∷ all) same =
    let here : kind_of kind ≡ kind_of one = cc in
    let later : map kind_of kinds ≡ map kind_of all = cc in
    and_from (has_kind kind (argument_data one)) _ (value_fits kind one here) (values_fit kinds all later)

-- none of their values is a refused path
pub none_refused : (all : List Argument) → list_all is_in_range all ≡ true → refused (map argument_data all) ≡ None
none_refused [] good = refl
none_refused (a_path path ∷ all) good =
    let parts = and_parts (is_in_range (a_path path)) (list_all is_in_range all) good in
    let both = and_parts (list_all is_name path) (is_short path) parts.0 in
    rw (fault_of_names path both.0 both.1) (none_refused all parts.1)
none_refused (a_truth truth ∷ all) good = none_refused all good
none_refused (a_number least most number ∷ all) good = none_refused all (and_parts (is_in_range (a_number least most number)) (list_all is_in_range all) good).1
none_refused (a_quota None ∷ all) good = none_refused all good
none_refused (a_quota (Some limit) ∷ all) good = none_refused all (and_parts (is_in_range (a_quota (Some limit))) (list_all is_in_range all) good).1

-- only their kinds and ranges count for what values give
pub same_arguments : (i : ℕ) (kinds others : List Argument) (values : List Data) → map kind_of kinds ≡ map kind_of others → arguments_at i kinds values ≡ arguments_at i others values
same_arguments i [] [] values same = refl
same_arguments i [] (other ∷ others) values same = cc
same_arguments i (kind ∷ kinds) [] values same = cc
same_arguments i (kind ∷ kinds) (other ∷ others) values same =
    let here : kind_of kind ≡ kind_of other = cc in
    let later : map kind_of kinds ≡ map kind_of others = cc in
    let first = same_argument kind other (value_at i values) here in
    let rest = same_arguments (suc i) kinds others values later in
    λ j. first j ∷ rest j

-- values of these kinds of which none is a refused path are those of what they give
pub values_back : (kinds : List Argument) (values : List Data) → pointwise has_kind kinds values ≡ true → refused values ≡ None → map argument_data (arguments_at 0 kinds values) ≡ values
values_back [] [] fits none = refl
values_back [] (value ∷ values) fits none = cc
values_back (kind ∷ kinds) [] fits none = cc
values_back (kind ∷ kinds) (value ∷ values) fits none =
    let parts = and_parts (has_kind kind value) (pointwise has_kind kinds values) fits in
    let here = value_back kind value values parts.0 none in
    let later = ap (map argument_data) (at_next 0 kinds value values) ∙ values_back kinds values parts.1 here.1 in
    λ i. here.0 i ∷ later i
