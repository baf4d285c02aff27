-- Values of JSON, as scripts and reports are made of them. This project's own.
use Prim.Native.String.{String}
use Rattle.std.specs.Prelude.{ℕ, ◌&&◌, Bool, false, nat_le, List, [], ◌∷◌, Option, Some, None, option_and_then, unwrap_or, codes}
use Rattle.std.specs.Option.{option_map_or}
use Rattle.serde_json.specs.Data.{unsigned, Data, null, number, string, array, object, Items, no_items, item, Members, no_members, member}
use Rattle.serde_json.specs.Find.{get_member, as_array, as_bool, as_number, as_str, as_u64}
use Rattle.serde_json.specs.View.{items_of}

-- a whole number
abbrev pub whole : ℕ → Data
whole n = number (unsigned n)

-- a whole number, or null where there is none
abbrev pub optional : Option ℕ → Data
optional None = null
optional (Some n) = whole n

-- this text
abbrev pub word : String → Data
word text = string (codes text)

-- an array of these values
abbrev pub row : List Data → Data
row values = array (items_of values)

-- these members, in this order
abbrev pub members : List (String × Data) → Members
members [] = no_members
members ((key, value) ∷ rest) = member (codes key) value (members rest)

-- an object of these members; their keys are given in byte order
abbrev pub fields : List (String × Data) → Data
fields rest = object (members rest)

-- the values of an array, in order
abbrev pub values_of : Items → List Data
values_of no_items = []
values_of (item value rest) = value ∷ values_of rest

-- the values of an array; another value has none
abbrev pub values_in : Data → List Data
values_in value = option_map_or values_of (as_array value) []

-- the keys of an object
abbrev pub keys_of : Members → List (List ℕ)
keys_of no_members = []
keys_of (member key value rest) = key ∷ keys_of rest

-- the value at a key
abbrev pub at_key : String → Members → Option Data
at_key key rest = get_member (codes key) rest

-- the whole number that a value is: one with a sign, a fraction or an exponent is none. Reading gives none past 64 bits
abbrev pub as_whole : Data → Option ℕ
as_whole value = option_and_then as_u64 (as_number value)

-- the value is a whole number from the one to the other
abbrev pub is_from_to : ℕ → ℕ → Data → Bool
is_from_to least most value = option_map_or (λ n. nat_le least n && nat_le n most) (as_whole value) false

-- the text that a value is; it is empty for another value
abbrev pub text_in : Data → List ℕ
text_in value = unwrap_or (as_str value) []

-- the truth value that a value is; false for another value
abbrev pub truth_in : Data → Bool
truth_in value = unwrap_or (as_bool value) false

-- the whole number that a value is; 0 for another value
abbrev pub number_in : Data → ℕ
number_in value = unwrap_or (as_whole value) 0
