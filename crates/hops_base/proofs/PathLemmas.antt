-- The texts of paths, a name at a time.
use Rattle.std.proofs.Common.{◌≡◌, ℕ, ◌+◌, ◌≤◌, ◌<◌, ◌*◌, suc, Bool, true, false, not, cond, ◌&&◌, ◌||◌, ◌==◌, nat_lt, nat_le, List, [], ◌∷◌, ◌++◌, length, take, get_or, Option, Some, None, refl, ap, sym, ◌∙◌, append_assoc, append-nil, add-one, length-append, arith, zero, if◌then◌else◌, Result, Ok, Err, IfOk, inl, inr}
use Rattle.std.proofs.lemmas.Bool.Decides.{nat_tests}
use Rattle.std.proofs.lemmas.Bool.{and_parts}
use Rattle.std.specs.Str.{is_utf8}
use Rattle.std.specs.List.{list_all, list_any, slice_split, onto_first}
use Rattle.std.specs.Option.{option_or}
use Rattle.std.specs.Cmp.{first_so, second_so}
use Rattle.std.proofs.Math.Seq.{take-suc}
use Rattle.hops_base.specs.declared.path_text.PathFault.{PathFault}
use Rattle.hops_base.specs.declared.path_text.PathFault.TheVariants.{EmptyName, Dot, Nul, NameTooLong}
use Rattle.hops_base.specs.Name.{most_name_bytes, is_name, is_name_byte}
use Rattle.std.specs.Prelude.{bytes_eq}
use Rattle.hops_base.specs.Path.{most_path_bytes, most_path_names, joined, text_of, is_absolute, names_in, is_piece, name_fault, names_fault, free_fault, is_short, IsNamesRead, IsPathRead}
use Rattle.hops_base.proofs.PathLaws.{text_of-names_in}

-- one more name
pub joined-push : (names : List (List ℕ)) (name : List ℕ) → joined (names ++ name ∷ []) ≡ joined names ++ 47 ∷ name
joined-push [] name = ap (λ (t : List ℕ). 47 ∷ t) (append-nil name)
joined-push (n ∷ names) name = ap (λ (t : List ℕ). 47 ∷ (n ++ t)) (joined-push names name) ∙ ap (λ (t : List ℕ). 47 ∷ t) (sym (append_assoc n (joined names) (47 ∷ name)))

-- the text of one name more
pub joined-next : (names : List (List ℕ)) (i : ℕ) (d : List ℕ) → i < length names → joined (take (i + 1) names) ≡ joined (take i names) ++ 47 ∷ get_or names i d
joined-next names i d h = rw (add-one, take-suc names i d h) (joined-push (take i names) (get_or names i d))

-- no piece that a split at slashes gives has a slash
pub pieces_of_split : (text : List ℕ) → list_all is_piece (slice_split (λ b. b == 47) text) ≡ true
pieces_of_split [] = refl
pieces_of_split (b ∷ text) =
    elim (b == 47) as (λ t. (b == 47) ≡ t → list_all is_piece (cond t ([] ∷ slice_split (λ b. b == 47) text) (onto_first b (slice_split (λ b. b == 47) text))) ≡ true) [
      | true ↦ λ e. pieces_of_split text
      | false ↦ λ e. onto (slice_split (λ b. b == 47) text) e (pieces_of_split text)
    ] refl
  where
    onto : (parts : List (List ℕ)) → (b == 47) ≡ false → list_all is_piece parts ≡ true → list_all is_piece (onto_first b parts) ≡ true
    onto [] e all = rw e refl
    onto (part ∷ parts) e all = rw e all

-- the names in a text have no slash
pub names_are_pieces : (text : List ℕ) → list_all is_piece (names_in text) ≡ true
names_are_pieces [] = refl
names_are_pieces (b ∷ []) = refl
names_are_pieces (b ∷ next ∷ rest) = pieces_of_split (next ∷ rest)

-- a piece that has no fault is a name, where it is UTF-8
pub name_good : (i : ℕ) (name : List ℕ) → name_fault i name ≡ None → is_piece name ≡ true → is_utf8 name ≡ true → is_name name ≡ true
name_good i name h p u = rw u (both (plain h))
  where
    both : {b : Bool} → b ≡ true → (b && true) ≡ true
    both e = rw e refl

    good_bytes : (bytes : List ℕ) → list_any (λ b. b == 0) bytes ≡ false → is_piece bytes ≡ true → list_all is_name_byte bytes ≡ true
    good_bytes [] n p = refl
    good_bytes (b ∷ bytes) n p =
        elim (b == 0) as (λ t. (t || list_any (λ b. b == 0) bytes) ≡ false → ((not (b == 47) && not t) && list_all is_name_byte bytes) ≡ true) [
          | true ↦ λ f. cc
          | false ↦ λ f. elim (b == 47) as (λ u. (not u && list_all (λ b. not (b == 47)) bytes) ≡ true → ((not u && true) && list_all is_name_byte bytes) ≡ true) [ true ↦ λ g. cc | false ↦ λ g. good_bytes bytes f g ] p
        ] n

    few : (n : ℕ) → (n == 0) ≡ false → nat_lt 0 n ≡ true
    few n e = grind (arith, nat_tests)

    short : (n : ℕ) → nat_lt most_name_bytes n ≡ false → nat_le n most_name_bytes ≡ true
    short n e = grind (arith, nat_tests)

    -- the tests of a name that has no fault, one after another
    tests : (empty dot dots nul long : Bool) → (if empty then Some (EmptyName i) else if dot || dots then Some (Dot i) else if nul then Some (Nul i) else if long then Some (NameTooLong i) else None) ≡ None
        → (empty ≡ false) × (dot ≡ false) × (dots ≡ false) × (nul ≡ false) × (long ≡ false)
    tests true dot dots nul long e = cc
    tests false true dots nul long e = cc
    tests false false true nul long e = cc
    tests false false false true long e = cc
    tests false false false false true e = cc
    tests false false false false false e = (refl, refl, refl, refl, refl)

    plain : name_fault i name ≡ None → (nat_lt 0 (length name) && nat_le (length name) most_name_bytes && not (bytes_eq name (46 ∷ [])) && not (bytes_eq name (46 ∷ 46 ∷ [])) && list_all is_name_byte name) ≡ true
    plain none =
        let found = tests (length name == 0) (bytes_eq name (46 ∷ [])) (bytes_eq name (46 ∷ 46 ∷ [])) (list_any (λ b. b == 0) name) (nat_lt most_name_bytes (length name)) none in
        rw (few (length name) found.0, short (length name) found.4, found.1, found.2, good_bytes name found.3 p) refl

-- pieces of which none has a fault are names, where they are UTF-8
pub names_good : (i : ℕ) (names : List (List ℕ)) → names_fault i names ≡ None → list_all is_piece names ≡ true → list_all is_utf8 names ≡ true → list_all is_name names ≡ true
names_good i [] h p u = refl
names_good i (name ∷ names) h p u =
    let faults = neither (name_fault i name) (names_fault (i + 1) names) h in
    let pieces = and_parts (is_piece name) (list_all is_piece names) p in
    let texts = and_parts (is_utf8 name) (list_all is_utf8 names) u in
    rw (name_good i name faults.0 pieces.0 texts.0, names_good (i + 1) names faults.1 pieces.1 texts.1) refl
  where
    neither : (a b : Option PathFault) → option_or a b ≡ None → (a ≡ None) × (b ≡ None)
    neither None b e = (refl, e)
    neither (Some fault) b e = cc

-- a test that all pass, the first n pass
pub list_all-take : {X : Type 0} (p : X → Bool) (n : ℕ) (xs : List X) → list_all p xs ≡ true → list_all p (take n xs) ≡ true
list_all-take p zero xs h = refl
list_all-take p (suc n) [] h = refl
list_all-take p (suc n) (x ∷ xs) h = elim (p x) as (λ t. (t && list_all p xs) ≡ true → (t && list_all p (take n xs)) ≡ true) [ true ↦ λ g. list_all-take p n xs g | false ↦ λ g. g ] h

-- what comes of reading the names is what comes of reading the text
pub read_by_names : (fault : Option PathFault) (text : List ℕ) (names : List (List ℕ)) (r : Result (List (List ℕ)) PathFault) → is_absolute text ≡ true → names ≡ names_in text → fault ≡ names_fault 0 (names_in text) → IsNamesRead names r → IsPathRead fault text r
read_by_names fault text names (Ok path) absolute is told read = (rw (told, ← is) read.0, read.1 ∙ is, ap text_of (read.1 ∙ is) ∙ text_of-names_in text absolute)
read_by_names fault text names (Err e) absolute is told (inl memory) = inl memory
read_by_names fault text names (Err e) absolute is told (inr read) = inr (rw (told, ← is) read)

-- the path of a text that is neither too long nor too deep is short
pub short_when_read : (text : List ℕ) (names : List (List ℕ)) (r : Result (List (List ℕ)) PathFault) → length text ≤ most_path_bytes → length names ≤ most_path_names → is_absolute text ≡ true → names ≡ names_in text → IsNamesRead names r → IfOk r (λ path. is_short path ≡ true)
short_when_read text names (Err e) short few absolute is read = tt
short_when_read text names (Ok path) short few absolute is read =
    let same : text_of path ≡ text = ap text_of (read.1 ∙ is) ∙ text_of-names_in text absolute in
    let count : length path ≡ length names = ap length read.1 in
    let size : length (text_of path) ≡ length text = ap length same in
    rw (at_most most_path_names (length path) (omega arith), at_most most_path_bytes (length (text_of path)) (omega arith)) refl
  where
    at_most : (m n : ℕ) → n ≤ m → nat_le n m ≡ true
    at_most m n h = grind (arith, nat_tests)

-- an absolute text has, read freely, the fault of its first bad name
pub fault_of_free : (text : List ℕ) → is_absolute text ≡ true → free_fault text ≡ names_fault 0 (names_in text)
fault_of_free text absolute = rw absolute refl

-- one name more is one slash and the name
pub text_grows : (names : List (List ℕ)) (i : ℕ) (name before slash after text : List ℕ) → i < length names → name ≡ get_or names i name → text ≡ name → before ≡ joined (take i names) → slash ≡ before ++ 47 ∷ [] → after ≡ slash ++ text → after ≡ joined (take (i + 1) names)
text_grows names i name before slash after text h item same is by to =
    to ∙ ap (λ (s : List ℕ). s ++ text) (by ∙ ap (λ (s : List ℕ). s ++ 47 ∷ []) is) ∙ append_assoc (joined (take i names)) (47 ∷ []) text ∙ ap (λ (n : List ℕ). joined (take i names) ++ 47 ∷ n) (same ∙ item) ∙ sym (joined-next names i name h)

-- so is its length
pub len_grows : (names : List (List ℕ)) (i len : ℕ) (name text : List ℕ) → i < length names → name ≡ get_or names i name → text ≡ name → is_name name ≡ true → len ≡ length (joined (take i names)) → len ≤ 256 * i → (len + (1 + length text) ≡ length (joined (take (i + 1) names))) × (len + (1 + length text) ≤ 256 * (i + 1))
len_grows names i len name text h item same good is few =
    let small : length name ≤ 255 = at_most (length name) (second_so _ _ (first_so _ _ (first_so _ _ (first_so _ _ (first_so _ _ good))))) in
    let here : length text ≡ length name = ap length same in
    let next : length (joined (take (i + 1) names)) ≡ length (joined (take i names)) + length (47 ∷ get_or names i name) = ap length (joined-next names i name h) ∙ length-append _ _ in
    let item_len : length (get_or names i name) ≡ length name = ap length (sym item) in
    (omega (arith), omega arith)
  where
    at_most : (n : ℕ) → nat_le n 255 ≡ true → n ≤ 255
    at_most n good = grind (arith, nat_tests)
