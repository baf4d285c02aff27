-- What is read back of values of JSON.
use Prim.Native.String.{String}
use Rattle.std.proofs.Common.{◌≡◌, ℕ, Bool, true, if◌then◌else◌, List, [], ◌∷◌, map, Option, Some, None, unwrap_or, is_some, bytes_eq, codes, refl}
use Rattle.std.specs.List.{list_all}
use Rattle.std.proofs.lemmas.Bool.{and_parts}
use Rattle.hops_base.specs.Name.{is_name}
use Rattle.hops_base.specs.Path.{text_of, names_in}
use Rattle.hops_base.proofs.Spelling.{names_spelled}
use Rattle.serde_json.specs.Data.{Data, null}
use Rattle.serde_json.specs.Find.{at, get}
use Rattle.script_text.specs.Json.{optional, row, values_in, as_whole, text_in}
use Rattle.script_text.specs.Form.{path_data}
use Rattle.report_text.specs.OneReport.{are_of_names}

-- the value at a place of an array
abbrev pub value_placed : ℕ → Data → Data
value_placed i value = unwrap_or (at i value) null

-- the value at a key of an object
abbrev pub field_at : String → Data → Data
field_at key value = unwrap_or (get (codes key) value) null

-- the object has the key
abbrev pub has_field : String → Data → Bool
has_field key value = is_some (get (codes key) value)

-- the path that a value spells
abbrev pub path_said : Data → List (List ℕ)
path_said value = names_in (text_in value)

-- what stands under the word of a value
abbrev pub under : {X : Type 0} → X → Data → List (String × X) → X
under other value [] = other
under other value ((word, x) ∷ rest) = if bytes_eq (text_in value) (codes word) then x else under other value rest

-- a number or null
pub optional_back : (n : Option ℕ) → as_whole (optional n) ≡ n
optional_back None = refl
optional_back (Some n) = refl

-- each value of a row
pub row_back : {X : Type 0} (write : X → Data) (read : Data → X) → ((x : X) → read (write x) ≡ x)
    → (xs : List X) → map read (values_in (row (map write xs))) ≡ xs
row_back write read back [] = refl
row_back write read back (x ∷ xs) = λ i. back x i ∷ row_back write read back xs i

-- each value of a row of things that pass a test
pub row_back_of : {X : Type 0} (write : X → Data) (read : Data → X) (test : X → Bool) → ((x : X) → test x ≡ true → read (write x) ≡ x)
    → (xs : List X) → list_all test xs ≡ true → map read (values_in (row (map write xs))) ≡ xs
row_back_of write read test back [] all = refl
row_back_of write read test back (x ∷ xs) all = let p = and_parts (test x) (list_all test xs) all in λ i. back x p.0 i ∷ row_back_of write read test back xs p.1 i

-- the first of paths that consist of names
pub path_back : (path : List (List ℕ)) (rest : List (List (List ℕ))) → are_of_names (path ∷ rest) ≡ true → names_in (text_of path) ≡ path
path_back path rest named = names_spelled path (and_parts (list_all is_name path) (are_of_names rest) named).0

-- each of them
pub paths_back : (paths : List (List (List ℕ))) → are_of_names paths ≡ true → map path_said (values_in (row (map path_data paths))) ≡ paths
paths_back = row_back_of path_data path_said (λ path. list_all is_name path) names_spelled
