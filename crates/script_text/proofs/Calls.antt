-- Which values say which calls: the value of a valid call has no fault, a value without a fault says a valid call, and says
-- no other.
use Rattle.std.proofs.Common.{◌≡◌, ℕ, true, false, List, [], ◌∷◌, map, Option, Some, None, option_map, option_and_then, unwrap_or, bytes_eq, codes, refl, sym, ap, ◌∙◌}
use Rattle.std.specs.List.{list_all}
use Rattle.std.specs.Option.{option_map_or}
use Rattle.std.specs.Cmp.Lexicographic.{pointwise}
use Rattle.std.proofs.lemmas.Slice.Eq.{bytes_eq-Decides}
use Rattle.name_space.specs.Call.{Argument, form_of, each_form, is_in_range, is_valid}
use Rattle.name_space.specs.declared.call.Call.{Call}
use Rattle.name_space.specs.declared.call.Call.TheVariants as call
use Rattle.serde_json.specs.Data.{Data, string}
use Rattle.script_text.specs.Json.{row}
use Rattle.script_text.specs.Form.{argument_data, call_data}
use Rattle.script_text.specs.CallForms.{has_kind, arguments_at, call_named, kinds_named, named_by, kinds_by, behind_name, has_form, refused_path, has_range}
use Rattle.script_text.specs.Faults.{fault, bad_path, fault_unless, call_fault}
use Rattle.script_text.specs.Grammar.{SaysCall}
use Rattle.script_text.specs.Reading.{IsCallMade}
use Rattle.script_text.proofs.ValueFacts.{unless-none, option_or-none, option_map-none, if_there, if_made, if_given, if_found, values_of-items_of, named_value}
use Rattle.script_text.proofs.Arguments.{refused, arguments_back, values_fit, none_refused, same_arguments, values_back}
use Rattle.script_text.proofs.Forms.{built, formed, kinds_of_word, built_so}

-- ---- the tests of a value

-- by the kinds that its name asks for, and by what stands behind the name
module _ (value : Data) (kinds : List Argument) (values : List Data) (is : kinds_by value ≡ Some kinds) (behind : behind_name value ≡ values) where
  pub form_by : has_form value ≡ pointwise has_kind kinds values
  form_by = λ i. option_map_or (λ (ks : List Argument). pointwise has_kind ks (behind i)) (is i) false

  pub range_by : has_range value ≡ list_all is_in_range (arguments_at 0 kinds values)
  range_by = λ i. option_map_or (λ (ks : List Argument). list_all is_in_range (arguments_at 0 ks (behind i))) (is i) false

-- a value that passes them has no fault
pub no_call_fault : (at n : ℕ) (value : Data) → has_form value ≡ true → refused_path value ≡ None → has_range value ≡ true → call_fault at (n, value) ≡ None
no_call_fault at n value form paths range = rw (form, paths, range) refl

-- one that passes all but the last has this fault
pub range_fault : (at n : ℕ) (value : Data) → has_form value ≡ true → refused_path value ≡ None → has_range value ≡ false → call_fault at (n, value) ≡ Some (fault 16 at n)
range_fault at n value form paths range = rw (form, paths, range) refl

-- ---- what is written for a call

-- behind its name stand the values of its arguments
pub behind_call : (asked : Call) → behind_name (call_data asked) ≡ map argument_data (form_of asked).arguments
behind_call asked = values_of-items_of (map argument_data (form_of asked).arguments)

-- it has no fault, where the call is valid
pub call_good : (at n : ℕ) (asked : Call) → is_valid asked ≡ true → call_fault at (n, call_data asked) ≡ None
call_good at n asked valid =
    let all = (form_of asked).arguments in
    let kinds = (form_of (formed asked).blank).arguments in
    let same = (formed asked).kinds in
    let form = form_by (call_data asked) kinds (map argument_data all) (kinds_of_word asked) (behind_call asked) ∙ values_fit kinds all same in
    let paths = ap refused (behind_call asked) ∙ none_refused all valid in
    let range = range_by (call_data asked) kinds (map argument_data all) (kinds_of_word asked) (behind_call asked) ∙ ap (list_all is_in_range) (arguments_back kinds all same valid) ∙ valid in
    no_call_fault at n (call_data asked) form paths range

-- ---- one call of a value

-- the call that a value says
pub call_in : Data → Call
call_in value = unwrap_or (option_map (λ (blank : Call). built blank (arguments_at 0 (form_of blank).arguments (behind_name value))) (option_and_then call_named (named_by value))) (call.Mkdirs [])

-- it is the one that the value was said to say
pub call_in-says : (value : Data) (asked : Call) → SaysCall value asked → call_in value ≡ asked
unfolding call_in
call_in-says value asked says =
    let all = (form_of asked).arguments in
    let f = formed asked in
    ap call_in says.0
    ∙ (λ i. unwrap_or (option_map (λ (blank : Call). built blank (arguments_at 0 (form_of blank).arguments (behind_call asked i))) (f.named i)) (call.Mkdirs []))
    ∙ ap (built f.blank) (arguments_back (form_of f.blank).arguments all f.kinds says.1) ∙ f.back

-- ---- the call of a value without a fault

-- a value that passes the tests says a call
call_exact : (value : Data) → has_form value ≡ true → refused_path value ≡ None → has_range value ≡ true → (asked : Call) × SaysCall value asked
call_exact value fits paths range =
    let k = if_there (λ (kinds : List Argument). pointwise has_kind kinds (behind_name value)) (kinds_by value) fits in
    let n = if_given kinds_named (named_by value) k.0 k.1 in
    let b = if_made (λ (asked : Call). (form_of asked).arguments) (call_named n.0) k.0 n.2 in
    let blank = b.0 in
    let name : n.0 ≡ codes (form_of blank).word = (bytes_eq-Decides n.0 (codes (form_of blank).word)).0 (if_found (λ (asked : Call). bytes_eq n.0 (codes (form_of asked).word)) each_form blank b.1) in
    let kinds : kinds_by value ≡ Some (form_of blank).arguments = k.1 ∙ ap Some (sym b.2) in
    let all = arguments_at 0 (form_of blank).arguments (behind_name value) in
    let so = built_so blank (behind_name value) in
    let values : map argument_data all ≡ behind_name value = values_back (form_of blank).arguments (behind_name value) (sym (form_by value _ _ kinds refl) ∙ fits) paths in
    let valid : list_all is_in_range all ≡ true = sym (range_by value _ _ kinds refl) ∙ range in
    let word : n.0 ≡ codes (form_of (built blank all)).word = name ∙ sym so.0 in
    let behind : behind_name value ≡ map argument_data (form_of (built blank all)).arguments = sym values ∙ ap (map argument_data) (sym so.1) in
    let value_is : value ≡ call_data (built blank all) = named_value value n.0 n.1 ∙ (λ i. row (string (word i) ∷ behind i)) in
    (built blank all, (value_is, ap (list_all is_in_range) so.1 ∙ valid))

-- so does one without a fault
pub call_said : (at n : ℕ) (value : Data) → call_fault at (n, value) ≡ None → (asked : Call) × SaysCall value asked
call_said at n value h =
    let a = option_or-none (fault_unless (has_form value) (fault 14 at n)) _ h in
    let b = option_or-none (option_map (bad_path at n) (refused_path value)) _ a.1 in
    let c = option_or-none (fault_unless (has_range value) (fault 16 at n)) None b.1 in
    call_exact value (unless-none _ _ a.0) (option_map-none (bad_path at n) (refused_path value) b.0) (unless-none _ _ c.0)

-- ---- a call that was made of a name and the values behind it

module _ (value : Data) (name : List ℕ) (rest : List Data) (named : Some name ≡ named_by value) (behind : rest ≡ behind_name value)
    (fits : option_map_or (λ (kinds : List Argument). pointwise has_kind kinds rest) (kinds_named name) false ≡ true) (none : refused rest ≡ None) (asked : Call) (made : IsCallMade name rest (Some asked)) where
  -- the kinds that the name asks for are those of a call of the same form
  kinds_told : kinds_named name ≡ Some (form_of (formed asked).blank).arguments
  kinds_told = ap kinds_named made.0 ∙ kinds_of_word asked

  form_told : has_form value ≡ true
  form_told = (λ i. option_map_or (λ (kinds : List Argument). pointwise has_kind kinds (sym behind i)) (option_and_then kinds_named (sym named i)) false) ∙ fits

  paths_told : refused_path value ≡ None
  paths_told = ap refused (sym behind) ∙ none

  -- the values give the call's arguments by these kinds
  arguments_told : arguments_at 0 (form_of (formed asked).blank).arguments rest ≡ (form_of asked).arguments
  arguments_told = same_arguments 0 _ _ rest (formed asked).kinds ∙ sym made.1

  range_told : has_range value ≡ is_valid asked
  range_told = range_by value _ rest (ap (option_and_then kinds_named) (sym named) ∙ kinds_told) (sym behind) ∙ ap (list_all is_in_range) arguments_told

  -- where the call is not valid, something is out of range
  pub invalid_told : (at n : ℕ) → is_valid asked ≡ false → call_fault at (n, value) ≡ Some (fault 16 at n)
  invalid_told at n invalid = range_fault at n value form_told paths_told (range_told ∙ invalid)

  -- where it is, the value has no fault and says it
  pub valid_told : (at n : ℕ) → is_valid asked ≡ true → (call_fault at (n, value) ≡ None) × SaysCall value asked
  valid_told at n valid =
      let fit = sym (ap (λ (o : Option (List Argument)). option_map_or (λ (ks : List Argument). pointwise has_kind ks rest) o false) kinds_told) ∙ fits in
      let values : map argument_data (form_of asked).arguments ≡ rest = ap (map argument_data) (sym arguments_told) ∙ values_back _ rest fit none in
      let is : behind_name value ≡ map argument_data (form_of asked).arguments = sym (values ∙ behind) in
      (no_call_fault at n value form_told paths_told (range_told ∙ valid), (named_value value name (sym named) ∙ (λ i. row (string (made.0 i) ∷ is i)), valid))
