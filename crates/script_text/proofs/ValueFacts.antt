-- What tests, optional values and reads of values tell.
use Rattle.std.proofs.Common.{◌≡◌, ℕ, Bool, true, false, not, ◌||◌, if◌then◌else◌, cond, List, [], ◌∷◌, find, Option, Some, None, is_some, option_map, option_and_then, refl, sym, ap, ◌∙◌}
use Rattle.std.specs.Option.{option_map_or, option_or}
use Rattle.serde_json.specs.Data.{unsigned, negative, float, Data, null, boolean, number, string, array, object, Items, no_items, item}
use Rattle.serde_json.specs.Find.{as_null, as_bool, as_str, as_array}
use Rattle.serde_json.specs.View.{items_of}
use Rattle.script_text.specs.declared.fault.ScriptFault.{ScriptFault}
use Rattle.script_text.specs.Json.{whole, optional, row, values_of, as_whole}
use Rattle.script_text.specs.CallForms.{named_by, behind_name}
use Rattle.script_text.specs.Faults.{fault_unless, only_if}

-- ---- tests

-- the rule holds
pub unless-none : (holds : Bool) (told : ScriptFault) → fault_unless holds told ≡ None → holds ≡ true
unless-none true told h = refl
unless-none false told h = cc

-- neither is there
pub option_or-none : {T : Type 0} (o p : Option T) → option_or o p ≡ None → (o ≡ None) × (p ≡ None)
option_or-none None p h = (refl, h)
option_or-none (Some x) p h = cc

-- there is nothing to tell
pub option_map-none : {T U : Type 0} (f : T → U) (o : Option T) → option_map f o ≡ None → o ≡ None
option_map-none f None h = refl
option_map-none f (Some x) h = cc

-- a value is there, and passes the test
pub if_there : {T : Type 0} (test : T → Bool) (o : Option T) → option_map_or test o false ≡ true → (x : T) × (o ≡ Some x) × (test x ≡ true)
if_there test None h = cc
if_there test (Some x) h = (x, refl, h)

-- so it is where it was let through
pub if_let : {T : Type 0} (test : T → Bool) (o : Option T) (x : T) → only_if test o ≡ Some x → (o ≡ Some x) × (test x ≡ true)
if_let test None x h = cc
if_let {T} test (Some y) x h = by (test y) refl h
  where
    by : (b : Bool) → test y ≡ b → (if b then Some y else None) ≡ Some x → (Some y ≡ Some x) × (test x ≡ true)
    by true e f = let same : y ≡ x = cc in (f, ap test (sym same) ∙ e)
    by false e f = cc

-- where some value is made of another, that one is there
pub if_made : {T U : Type 0} (f : T → U) (o : Option T) (y : U) → option_map f o ≡ Some y → (x : T) × (o ≡ Some x) × (f x ≡ y)
if_made f None y h = cc
if_made f (Some x) y h = (x, refl, cc)

-- so it is where the other may give none
pub if_given : {T U : Type 0} (f : T → Option U) (o : Option T) (y : U) → option_and_then f o ≡ Some y → (x : T) × (o ≡ Some x) × (f x ≡ Some y)
if_given f None y h = cc
if_given f (Some x) y h = (x, refl, h)

-- an element that is found passes the test
pub if_found : {T : Type 0} (test : T → Bool) (xs : List T) (x : T) → find test xs ≡ Some x → test x ≡ true
if_found test [] x h = cc
if_found test (y ∷ ys) x h = (elim (test y) as (λ b. test y ≡ b → cond b (Some y) (find test ys) ≡ Some x → test x ≡ true) [
  | true ↦ λ e f. let same : y ≡ x = cc in ap test (sym same) ∙ e
  | false ↦ λ e f. if_found test ys x f
]) refl h

-- what is not false is true
pub holds : (test : Bool) → not test ≡ false → test ≡ true
holds true h = refl
holds false h = cc

-- ---- values

-- the value is a text
pub is_text : (value : Data) → is_some (as_str value) ≡ true → (text : List ℕ) × (value ≡ string text)
is_text null h = cc
is_text (boolean b) h = cc
is_text (number n) h = cc
is_text (string text) h = (text, refl)
is_text (array items) h = cc
is_text (object ms) h = cc

-- the value is a truth value
pub is_truth : (value : Data) → is_some (as_bool value) ≡ true → (b : Bool) × (value ≡ boolean b)
is_truth null h = cc
is_truth (boolean b) h = (b, refl)
is_truth (number n) h = cc
is_truth (string text) h = cc
is_truth (array items) h = cc
is_truth (object ms) h = cc

-- the value is a whole number
pub is_whole : (value : Data) → is_some (as_whole value) ≡ true → (n : ℕ) × (value ≡ whole n)
is_whole null h = cc
is_whole (boolean b) h = cc
is_whole (number (unsigned n)) h = (n, refl)
is_whole (number (negative z)) h = cc
is_whole (number (float x)) h = cc
is_whole (string text) h = cc
is_whole (array items) h = cc
is_whole (object ms) h = cc

-- the value is a whole number or null
pub is_limit : (value : Data) → (is_some (as_null value) || is_some (as_whole value)) ≡ true → (limit : Option ℕ) × (value ≡ optional limit)
is_limit null h = (None, refl)
is_limit (boolean b) h = cc
is_limit (number (unsigned n)) h = (Some n, refl)
is_limit (number (negative z)) h = cc
is_limit (number (float x)) h = cc
is_limit (string text) h = cc
is_limit (array items) h = cc
is_limit (object ms) h = cc

-- the value is the array that it is read as
pub is_array : (value : Data) (items : Items) → as_array value ≡ Some items → value ≡ array items
is_array null items h = cc
is_array (boolean b) items h = cc
is_array (number n) items h = cc
is_array (string text) items h = cc
is_array (array all) items h = cc
is_array (object ms) items h = cc

-- the value is the text that it is read as
pub is_string : (value : Data) (text : List ℕ) → as_str value ≡ Some text → value ≡ string text
is_string null text h = cc
is_string (boolean b) text h = cc
is_string (number n) text h = cc
is_string (string all) text h = cc
is_string (array items) text h = cc
is_string (object ms) text h = cc

-- the value is the number that it is read as
pub whole_is : (value : Data) (n : ℕ) → as_whole value ≡ Some n → value ≡ whole n
whole_is null n h = cc
whole_is (boolean b) n h = cc
whole_is (number (unsigned m)) n h = cc
whole_is (number (negative z)) n h = cc
whole_is (number (float x)) n h = cc
whole_is (string text) n h = cc
whole_is (array items) n h = cc
whole_is (object ms) n h = cc

-- ---- arrays

-- the values of an array that was made of these
pub values_of-items_of : (values : List Data) → values_of (items_of values) ≡ values
values_of-items_of [] = refl
values_of-items_of (value ∷ values) = ap (λ rest. value ∷ rest) (values_of-items_of values)

-- an array is made of its values
pub items_of-values_of : (items : Items) → items_of (values_of items) ≡ items
items_of-values_of no_items = refl
items_of-values_of (item value rest) = ap (λ r. item value r) (items_of-values_of rest)

-- a value with a name is an array of the name and what stands behind it
pub named_value : (value : Data) (name : List ℕ) → named_by value ≡ Some name → value ≡ row (string name ∷ behind_name value)
named_value null name h = cc
named_value (boolean b) name h = cc
named_value (number n) name h = cc
named_value (string text) name h = cc
named_value (array no_items) name h = cc
named_value (array (item first rest)) name h = λ i. array (item (is_string first name h i) (sym (items_of-values_of rest) i))
named_value (object ms) name h = cc
