-- Worked examples of the form of calls: their words, which change something, which paths they name, and their ranges.
use Rattle.std.specs.Prelude.{◌≡◌, ℕ, Bool, true, false, List, [], ◌∷◌, ◌++◌, map, codes, Option, Some, None}
use Rattle.std.specs.List.{list_any, repeat}
use Rattle.name_space.specs.declared.call.Call.{Call}
use Rattle.name_space.specs.declared.call.Call.TheVariants as call
use Rattle.name_space.specs.Namespace.{Path}
use Rattle.name_space.specs.Call.{form_of, each_form, is_valid, changes, paths_of}
use Rattle.name_space.specs.Examples.{at}

-- the word of each call
abbrev pub words_of_calls : Type 0
words_of_calls =
    map (λ (asked : Call). (form_of asked).word) each_form
    ≡ "mkdirs" ∷ "create" ∷ "append" ∷ "grow" ∷ "close" ∷ "stat" ∷ "list" ∷ "delete" ∷ "rename" ∷ "chmod" ∷ "set_quota" ∷ "usage" ∷ []

-- `stat`, `list` and `usage` only look
abbrev pub three_calls_look : Type 0
three_calls_look = map changes each_form ≡ true ∷ true ∷ true ∷ true ∷ true ∷ false ∷ false ∷ true ∷ true ∷ true ∷ true ∷ false ∷ []

-- a call of each form that names the first path; a rename goes from there to the second
abbrev pub calls_at : Path → Path → List Call
calls_at path other =
    call.Mkdirs path
    ∷ call.Create path true
    ∷ call.Append path
    ∷ call.Grow path 1
    ∷ call.Close path
    ∷ call.Stat path
    ∷ call.List path
    ∷ call.Delete path true
    ∷ call.Rename path other
    ∷ call.Chmod path 0
    ∷ call.SetQuota path (Some 1) (Some 2)
    ∷ call.Usage path
    ∷ []

-- each call names one path, and a rename its source and then its destination
abbrev pub paths_in_order : Type 0
paths_in_order =
    map paths_of (calls_at (at "/a") (at "/b/c")) ≡ repeat 8 ((at "/a" ∷ []) ∷ []) ++ (at "/a" ∷ at "/b/c" ∷ []) ∷ repeat 3 ((at "/a" ∷ []) ∷ [])

-- so many names of one byte, below one another
abbrev pub names_deep : ℕ → Path
names_deep count = repeat count (codes "a" ∷ [])

-- a path of one name of so many bytes
abbrev pub name_long : ℕ → Path
name_long bytes = repeat bytes (codes "a") ∷ []

-- forty names of 199 bytes, in a text of 8,000 bytes
abbrev pub path_long : Path
path_long = repeat 40 (name_long 199)

-- a stat of each path is valid, or not
abbrev pub are_nameable : List Path → List Bool
are_nameable paths = map (λ (path : Path). is_valid (call.Stat path)) paths

-- the paths that a call may name: of 1,000 names, of 255 bytes in a name, and of 8,000 bytes in all
pub record NameablePaths : Type 0 where
  pub depth : are_nameable (names_deep 0 ∷ names_deep 1000 ∷ names_deep 1001 ∷ []) ≡ true ∷ true ∷ false ∷ []
  pub length : are_nameable (name_long 0 ∷ name_long 1 ∷ name_long 255 ∷ name_long 256 ∷ []) ≡ false ∷ true ∷ true ∷ false ∷ []
  pub text : are_nameable (path_long ∷ (codes "aa" ∷ path_long) ∷ []) ≡ true ∷ false ∷ []
  pub bytes : are_nameable ((codes "." ∷ []) ∷ (codes ".." ∷ []) ∷ (codes "..." ∷ []) ∷ (codes "a/b" ∷ []) ∷ ((97 ∷ 0 ∷ []) ∷ []) ∷ ((255 ∷ []) ∷ []) ∷ (codes "a:b" ∷ []) ∷ []) ≡ false ∷ false ∷ true ∷ false ∷ false ∷ false ∷ true ∷ []

-- each path of each call is to be in its range
pub record EachPathCounts : Type 0 where
  pub good : map is_valid (calls_at (at "/a") (at "/b")) ≡ repeat 12 (true ∷ [])
  pub first : list_any is_valid (calls_at (at "/.") (at "/b")) ≡ false
  pub second : is_valid (call.Rename (at "/a") (at "/.")) ≡ false

-- the quotas that may be set: from 1 to 1,000,000,000,000,000, or none
abbrev pub some_quotas : List (Option ℕ)
some_quotas = Some 0 ∷ Some 1 ∷ Some 1000000000000000 ∷ Some 1000000000000001 ∷ None ∷ []

-- each number at the ends of its range and beyond them
pub record NumbersInRange : Type 0 where
  pub grow : map (λ (bytes : ℕ). is_valid (call.Grow (at "/f") bytes)) (0 ∷ 1 ∷ 4294967296 ∷ 4294967297 ∷ []) ≡ false ∷ true ∷ true ∷ false ∷ []
  pub chmod : map (λ (mode : ℕ). is_valid (call.Chmod (at "/f") mode)) (0 ∷ 511 ∷ 512 ∷ []) ≡ true ∷ true ∷ false ∷ []
  pub names : map (λ (limit : Option ℕ). is_valid (call.SetQuota (at "/d") limit None)) some_quotas ≡ false ∷ true ∷ true ∷ false ∷ true ∷ []
  pub bytes : map (λ (limit : Option ℕ). is_valid (call.SetQuota (at "/d") None limit)) some_quotas ≡ false ∷ true ∷ true ∷ false ∷ true ∷ []
