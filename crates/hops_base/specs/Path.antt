-- Paths: lists of names, their texts, and which texts are read. The limits are this project's own.
use Rattle.std.specs.Prelude.{◌≡◌, ℕ, ◌+◌, Bool, false, not, ◌&&◌, ◌||◌, ◌==◌, nat_le, nat_lt, if◌then◌else◌, List, [], ◌∷◌, ◌++◌, length, take, Option, Some, None, Result, Ok, Err, ◌⊎◌}
use Rattle.std.specs.List.{slice_split, list_any, list_all, starts_with}
use Rattle.std.specs.Option.{option_or}
use Rattle.std.specs.Ordering.{nat_cmp, eq_by_cmp}
use Rattle.std.specs.declared.cmp.Ordering.{Ordering}
use Rattle.std.specs.Cmp.{IsTotalOrder}
use Rattle.std.specs.Cmp.Lexicographic.{slice_cmp, lists_total, nat_list_cmp_total}
use Rattle.hops_base.specs.Name.{most_name_bytes}
use Rattle.std.specs.Prelude.{bytes_eq}
use Rattle.hops_base.specs.declared.path_text.PathFault.{PathFault}
use Rattle.hops_base.specs.declared.path_text.PathFault.TheVariants.{PathTooLong, Relative, TooDeep, EmptyName, Dot, Nul, NameTooLong, NoMemory}

-- the most bytes in the text of a path that a call may name
abbrev pub most_path_bytes : ℕ
most_path_bytes = 8000

-- the most names in a path that a call may name
abbrev pub most_path_names : ℕ
most_path_names = 1000

-- each name after a slash
abbrev pub joined : List (List ℕ) → List ℕ
joined [] = []
joined (name ∷ names) = 47 ∷ name ++ joined names

-- the text of a path: each name after a slash, and for the root the slash alone
abbrev pub text_of : List (List ℕ) → List ℕ
text_of [] = 47 ∷ []
text_of (name ∷ names) = joined (name ∷ names)

-- the text begins with a slash
abbrev pub is_absolute : List ℕ → Bool
is_absolute [] = false
is_absolute (byte ∷ rest) = byte == 47

-- the names that stand in a text, good and faulty ones: the pieces between its slashes, and none in "/"
abbrev pub names_in : List ℕ → List (List ℕ)
names_in [] = []
names_in (byte ∷ []) = []
names_in (byte ∷ next ∷ rest) = slice_split (λ b. b == 47) (next ∷ rest)

-- what is wrong with the name at place i of a text
abbrev pub name_fault : ℕ → List ℕ → Option PathFault
name_fault i name =
    if length name == 0 then Some (EmptyName i)
    else if bytes_eq name (46 ∷ []) || bytes_eq name (46 ∷ 46 ∷ []) then Some (Dot i)
    else if list_any (λ b. b == 0) name then Some (Nul i)
    else if nat_lt most_name_bytes (length name) then Some (NameTooLong i)
    else None

-- what is wrong with the first bad name, where the first of the names stands at place i
abbrev pub names_fault : ℕ → List (List ℕ) → Option PathFault
names_fault i [] = None
names_fault i (name ∷ names) = option_or (name_fault i name) (names_fault (i + 1) names)

-- why `read_free` refuses a text
abbrev pub free_fault : List ℕ → Option PathFault
free_fault text = if is_absolute text then names_fault 0 (names_in text) else Some Relative

-- why `read` refuses a text
abbrev pub path_fault : List ℕ → Option PathFault
path_fault text =
    if nat_lt most_path_bytes (length text) then Some (PathTooLong (length text))
    else if not (is_absolute text) then Some Relative
    else if nat_lt most_path_names (length (names_in text)) then Some (TooDeep (length (names_in text)))
    else names_fault 0 (names_in text)

-- what a reader answers to a text that has this fault or none, want of memory apart
abbrev pub IsPathRead : Option PathFault → List ℕ → Result (List (List ℕ)) PathFault → Type 0
IsPathRead fault text (Ok path) = (fault ≡ None) × (path ≡ names_in text) × (text_of path ≡ text)
IsPathRead fault text (Err told) = (told ≡ NoMemory) ⊎ (fault ≡ Some told)

-- there is no slash in the text
abbrev pub is_piece : List ℕ → Bool
is_piece text = list_all (λ b. not (b == 47)) text

-- what comes of reading these names
abbrev pub IsNamesRead : List (List ℕ) → Result (List (List ℕ)) PathFault → Type 0
IsNamesRead names (Ok path) = (names_fault 0 names ≡ None) × (path ≡ names)
IsNamesRead names (Err told) = (told ≡ NoMemory) ⊎ (names_fault 0 names ≡ Some told)

-- the path without its last name; the root has none
abbrev pub parent_of : List (List ℕ) → Option (List (List ℕ))
parent_of [] = None
parent_of (name ∷ names) = Some (take (length names) (name ∷ names))

-- the path lies strictly below the other
abbrev pub is_below : List (List ℕ) → List (List ℕ) → Bool
is_below path other = starts_with bytes_eq path other && nat_lt (length other) (length path)

-- the path is as short as a call's: at most 1,000 names, and 8,000 bytes in its text
abbrev pub is_short : List (List ℕ) → Bool
is_short path = nat_le (length path) most_path_names && nat_le (length (text_of path)) most_path_bytes

-- the order of paths: as lists of names, and names by their bytes
abbrev pub path_cmp : List (List ℕ) → List (List ℕ) → Ordering
path_cmp = slice_cmp (slice_cmp nat_cmp)

-- the order is total
pub path_cmp_total : IsTotalOrder path_cmp
path_cmp_total = lists_total nat_list_cmp_total

-- the two paths are one
abbrev pub same_path : List (List ℕ) → List (List ℕ) → Bool
same_path = eq_by_cmp path_cmp
