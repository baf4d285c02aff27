-- The text of a path of names: it has these names in it, and no fault; and a text without a fault is that of a path of names.
use Rattle.std.proofs.Common.{◌≡◌, ◌≤◌, ℕ, suc, zero, ◌+◌, Bool, true, false, not, ◌==◌, nat_le, nat_lt, if◌then◌else◌, List, [], ◌∷◌, ◌++◌, length, Option, Some, None, refl, ap, ◌∙◌, arith, append-nil, leb-true, ltb-true, ltb-false, le-leb}
use Rattle.std.specs.List.{All, list_all, list_any, slice_split}
use Rattle.std.specs.Str.{is_utf8}
use Rattle.std.specs.Cmp.{first_so, second_so}
use Rattle.std.proofs.lemmas.Bool.{not-true, and_parts, and_from}
use Rattle.std.proofs.lemmas.Bool.Decides.{nat_tests}
use Rattle.std.proofs.lemmas.List.Splits.{slice_split_none, slice_split_at}
use Rattle.hops_base.specs.Name.{most_name_bytes, is_name, is_name_byte}
use Rattle.std.specs.Prelude.{bytes_eq}
use Rattle.hops_base.specs.Path.{most_path_bytes, most_path_names, is_short, is_absolute, joined, text_of, names_in, name_fault, names_fault, free_fault, path_fault}
use Rattle.hops_base.proofs.PathLaws.{text_of-names_in, fault_of_short}
use Rattle.hops_base.proofs.PathLemmas.{names_good, names_are_pieces}
use Rattle.hops_base.proofs.TextLemmas.{names_utf8, text_utf8}

-- ---- what a name is not

no_slash_byte : (b : ℕ) → is_name_byte b ≡ true → (b == 47) ≡ false
no_slash_byte b good = not-true (b == 47) (first_so (not (b == 47)) (not (b == 0)) good)

no_slashes : (bytes : List ℕ) → list_all is_name_byte bytes ≡ true → All (λ b. (b == 47) ≡ false) bytes
no_slashes [] good k d less = absurd (omega arith)
no_slashes (b ∷ bytes) good zero d less = no_slash_byte b (first_so (is_name_byte b) (list_all is_name_byte bytes) good)
no_slashes (b ∷ bytes) good (suc k) d less = no_slashes bytes (second_so (is_name_byte b) (list_all is_name_byte bytes) good) k d (omega arith)

no_nul : (bytes : List ℕ) → list_all is_name_byte bytes ≡ true → list_any (λ b. b == 0) bytes ≡ false
no_nul [] good = refl
no_nul (b ∷ bytes) good =
    let byte = first_so (is_name_byte b) (list_all is_name_byte bytes) good in
    rw (not-true (b == 0) (second_so (not (b == 47)) (not (b == 0)) byte)) (no_nul bytes (second_so (is_name_byte b) (list_all is_name_byte bytes) good))

name_bytes : (name : List ℕ) → is_name name ≡ true → list_all is_name_byte name ≡ true
name_bytes name good = second_so _ (list_all is_name_byte name) (first_so _ (is_utf8 name) good)

-- a name has no fault
name_fine : (i : ℕ) (name : List ℕ) → is_name name ≡ true → name_fault i name ≡ None
name_fine i name good =
    let but_bytes = first_so _ (list_all is_name_byte name) (first_so _ (is_utf8 name) good) in
    let but_dots = first_so _ (not (bytes_eq name (46 ∷ 46 ∷ []))) but_bytes in
    let dots = not-true (bytes_eq name (46 ∷ 46 ∷ [])) (second_so _ (not (bytes_eq name (46 ∷ 46 ∷ []))) but_bytes) in
    let dot = not-true (bytes_eq name (46 ∷ [])) (second_so _ (not (bytes_eq name (46 ∷ []))) but_dots) in
    let lengths = first_so _ (not (bytes_eq name (46 ∷ []))) but_dots in
    let some = ltb-true 0 (length name) (first_so (nat_lt 0 (length name)) (nat_le (length name) most_name_bytes) lengths) in
    let short = leb-true (length name) most_name_bytes (second_so (nat_lt 0 (length name)) (nat_le (length name) most_name_bytes) lengths) in
    let not_empty : (length name == 0) ≡ false = grind (arith, nat_tests) in
    let not_long : nat_lt most_name_bytes (length name) ≡ false = grind (arith, nat_tests) in
    rw (not_empty, dot, dots, no_nul name (name_bytes name good), not_long) refl

-- names have no fault
pub names_fine : (i : ℕ) (names : List (List ℕ)) → list_all is_name names ≡ true → names_fault i names ≡ None
names_fine i [] good = refl
names_fine i (name ∷ names) good = rw (name_fine i name (first_so (is_name name) (list_all is_name names) good)) (names_fine (i + 1) names (second_so (is_name name) (list_all is_name names) good))

-- ---- the names in a path's text

split_joined : (name : List ℕ) (rest : List (List ℕ)) → is_name name ≡ true → list_all is_name rest ≡ true → slice_split (λ b. b == 47) (name ++ joined rest) ≡ name ∷ rest
split_joined name [] good all = ap (slice_split (λ b. b == 47)) (append-nil name) ∙ slice_split_none (λ b. b == 47) name (no_slashes name (name_bytes name good))
split_joined name (next ∷ rest) good all =
    slice_split_at (λ b. b == 47) name 47 (next ++ joined rest) (no_slashes name (name_bytes name good)) refl
    ∙ ap (λ names. name ∷ names) (split_joined next rest (first_so (is_name next) (list_all is_name rest) all) (second_so (is_name next) (list_all is_name rest) all))

-- the text of a path of names has these names in it
pub names_spelled : (path : List (List ℕ)) → list_all is_name path ≡ true → names_in (text_of path) ≡ path
names_spelled [] good = refl
names_spelled ([] ∷ rest) good = cc
names_spelled ((b ∷ bytes) ∷ rest) good = split_joined (b ∷ bytes) rest (first_so (is_name (b ∷ bytes)) (list_all is_name rest) good) (second_so (is_name (b ∷ bytes)) (list_all is_name rest) good)

-- the text of a path begins with a slash
pub absolute : (path : List (List ℕ)) → is_absolute (text_of path) ≡ true
absolute [] = refl
absolute (name ∷ names) = refl

-- the text of a path of names has no fault
pub free_of_names : (path : List (List ℕ)) → list_all is_name path ≡ true → free_fault (text_of path) ≡ None
free_of_names path good = rw (absolute path) (ap (names_fault 0) (names_spelled path good) ∙ names_fine 0 path good)

-- nor as a call's, where the path is short
pub fault_of_names : (path : List (List ℕ)) → list_all is_name path ≡ true → is_short path ≡ true → path_fault (text_of path) ≡ None
fault_of_names path good short =
    let parts = and_parts (nat_le (length path) most_path_names) (nat_le (length (text_of path)) most_path_bytes) short in
    let spelled = names_spelled path good in
    let names : length (names_in (text_of path)) ≤ most_path_names = rw spelled (leb-true (length path) most_path_names parts.0) in
    fault_of_short (text_of path) (leb-true (length (text_of path)) most_path_bytes parts.1) (absolute path) names ∙ ap (names_fault 0) spelled ∙ names_fine 0 path good

-- and it is UTF-8
pub utf8_of_names : (path : List (List ℕ)) → list_all is_name path ≡ true → is_utf8 (text_of path) ≡ true
utf8_of_names path good = text_utf8 path (texts path good)
  where
    texts : (names : List (List ℕ)) → list_all is_name names ≡ true → list_all is_utf8 names ≡ true
    texts [] all = refl
    texts (name ∷ names) all =
        let parts = and_parts (is_name name) (list_all is_name names) all in
        and_from (is_utf8 name) (list_all is_utf8 names) (second_so _ (is_utf8 name) parts.0) (texts names parts.1)

-- ---- texts without a fault

-- a test that failed, and what comes after it
pub otherwise : {T : Type 0} (test : Bool) (x : T) (rest : Option T) → (if test then Some x else rest) ≡ None → (test ≡ false) × (rest ≡ None)
otherwise true x rest h = cc
otherwise false x rest h = (refl, h)

-- what is not false is true
pub holds : (test : Bool) → not test ≡ false → test ≡ true
holds true h = refl
holds false h = cc

-- a test that passed, and what comes after it
passed : {T : Type 0} (test : Bool) (rest : Option T) (x : T) → (if test then rest else Some x) ≡ None → (test ≡ true) × (rest ≡ None)
passed true rest x h = (refl, h)
passed false rest x h = cc

-- the text is that of its names
pub text_of_free : (text : List ℕ) → free_fault text ≡ None → text_of (names_in text) ≡ text
text_of_free text none = text_of-names_in text (passed (is_absolute text) (names_fault 0 (names_in text)) _ none).0

-- these are names, where the text is UTF-8
pub names_of_free : (text : List ℕ) → is_utf8 text ≡ true → free_fault text ≡ None → list_all is_name (names_in text) ≡ true
names_of_free text utf8 none =
    let parts = passed (is_absolute text) (names_fault 0 (names_in text)) _ none in
    names_good 0 (names_in text) parts.1 (names_are_pieces text) (names_utf8 text parts.0 utf8)

-- what a text without a fault as a call's is
pub of_faultless : (text : List ℕ) → path_fault text ≡ None → (free_fault text ≡ None) × (is_short (names_in text) ≡ true)
of_faultless text h =
    let a = otherwise (nat_lt most_path_bytes (length text)) _ _ h in
    let b = otherwise (not (is_absolute text)) _ _ a.1 in
    let c = otherwise (nat_lt most_path_names (length (names_in text))) _ _ b.1 in
    let absolute = holds (is_absolute text) b.0 in
    let same = text_of-names_in text absolute in
    (rw absolute c.1, rw (same, le-leb (length (names_in text)) most_path_names (ltb-false most_path_names (length (names_in text)) c.0), le-leb (length text) most_path_bytes (ltb-false most_path_bytes (length text) a.0)) refl)
