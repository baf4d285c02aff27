-- The compact text of a value whose numbers are whole and below 2^64 is of that value alone, and has no newline.
use Rattle.std.proofs.Common.{◌≡◌, ℕ, ◌+◌, ◌^◌, ◌/◌, ◌%◌, Bool, true, false, ◌==◌, ◌||◌, cond, nat_lt, List, [], ◌∷◌, ◌++◌, Option, unwrap_or, decimal, refl, sym, ap, ap₂, ◌∙◌, arith, ltb-true}
use Rattle.std.specs.List.{list_any}
use Rattle.std.specs.Char.{digit_char}
use Rattle.std.specs.Str.Parse.{AllDigits, digits_value}
use Rattle.std.proofs.lemmas.Bool.{and_parts, eqb-true, ne_eqb}
use Rattle.std.proofs.lemmas.Bool.Decides.{nat_tests}
use Rattle.std.proofs.lemmas.Fmt.{decimal_is_IsNumeral}
use Rattle.std.proofs.lemmas.List.Folds.{list_any-append}
use Rattle.std.proofs.lemmas.Str.Parse.{digit_from_value}
use Rattle.json.specs.Json as json
use Rattle.json.specs.Lex.{tokens}
use Rattle.json.specs.Token.{Token}
use Rattle.json.specs.Print.{escape_letter, escape_byte, escape, quoted}
use Rattle.json.specs.Tree as tree
use Rattle.json.proofs.Printed.Decimals.{IsNumber-decimal}
use Rattle.json.proofs.Printed.Tokens.{tokens-print}
use Rattle.json.proofs.Printed.Trees.{value-json_tokens, ArePrintable-json_tokens}
use Rattle.serde_json.specs.Data.{unsigned, negative, float, Data, null, boolean, number, string, array, object, Items, no_items, item, Members, no_members, member}
use Rattle.serde_json.specs.Written.{outline, items_outline, members_outline, comma_if, compact_text, items_text, members_text}
use Rattle.serde_json.proofs.Texts.{print-outline}
use Rattle.report_text.specs.OneReport.{has_words, items_have_words, members_have_words}

-- ---- the value that was outlined

abbrev mutual
  -- the value of a text's outline, where its numbers are decimals
  value_back : json.Json → Data
  value_back json.null = null
  value_back (json.boolean truth) = boolean truth
  value_back (json.number digits) = number (unsigned (digits_value 10 digits))
  value_back (json.string text) = string text
  value_back (json.array items) = array (items_back items)
  value_back (json.object members) = object (members_back members)

  items_back : json.Items → Items
  items_back json.no_items = no_items
  items_back (json.item j rest) = item (value_back j) (items_back rest)

  members_back : json.Members → Members
  members_back json.no_members = no_members
  members_back (json.member key j rest) = member key (value_back j) (members_back rest)

mutual
  back-outline : (d : Data) → has_words d ≡ true → value_back (outline d) ≡ d
  back-outline null h = refl
  back-outline (boolean truth) h = refl
  back-outline (number (unsigned n)) h = ap (λ m. number (unsigned m)) (decimal_is_IsNumeral n (ltb-true n (2 ^ 64) h)).1
  back-outline (number (negative z)) h = cc
  back-outline (number (float x)) h = cc
  back-outline (string text) h = refl
  back-outline (array items) h = ap array (back-items items h)
  back-outline (object members) h = ap object (back-members members h)

  back-items : (items : Items) → items_have_words items ≡ true → items_back (items_outline items) ≡ items
  back-items no_items h = refl
  back-items (item d rest) h = let p = and_parts (has_words d) (items_have_words rest) h in ap₂ item (back-outline d p.0) (back-items rest p.1)

  back-members : (members : Members) → members_have_words members ≡ true → members_back (members_outline members) ≡ members
  back-members no_members h = refl
  back-members (member key d rest) h = let p = and_parts (has_words d) (members_have_words rest) h in ap₂ (member key) (back-outline d p.0) (back-members rest p.1)

-- ---- the text is read as the outline

mutual
  numbers-outline : (d : Data) → has_words d ≡ true → tree.HasNumbers (outline d)
  numbers-outline null h = tt
  numbers-outline (boolean truth) h = tt
  numbers-outline (number (unsigned n)) h = IsNumber-decimal n (ltb-true n (2 ^ 64) h)
  numbers-outline (number (negative z)) h = cc
  numbers-outline (number (float x)) h = cc
  numbers-outline (string text) h = tt
  numbers-outline (array items) h = numbers-items items h
  numbers-outline (object members) h = numbers-members members h

  numbers-items : (items : Items) → items_have_words items ≡ true → tree.ItemsHaveNumbers (items_outline items)
  numbers-items no_items h = tt
  numbers-items (item d rest) h = let p = and_parts (has_words d) (items_have_words rest) h in (numbers-outline d p.0, numbers-items rest p.1)

  numbers-members : (members : Members) → members_have_words members ≡ true → tree.MembersHaveNumbers (members_outline members)
  numbers-members no_members h = tt
  numbers-members (member key d rest) h = let p = and_parts (has_words d) (members_have_words rest) h in (numbers-outline d p.0, numbers-members rest p.1)

tokens-text : (d : Data) → has_words d ≡ true → tokens (compact_text d) ≡ tree.json_tokens (outline d)
tokens-text d h = ap tokens (sym (print-outline d)) ∙ tokens-print (tree.json_tokens (outline d)) (ArePrintable-json_tokens (outline d) (numbers-outline d h))

-- tokens are of one outline
one_outline : (j k : json.Json) → tree.json_tokens j ≡ tree.json_tokens k → j ≡ k
one_outline j k same =
    let most = tree.depth j + tree.depth k in
    let first = value-json_tokens j most [] (omega arith) in
    let second = value-json_tokens k most [] (omega arith) in
    ap (λ (read : Option (json.Json × List Token)). (unwrap_or read (j, [])).0) (sym first ∙ ap (λ ts. json.value most (ts ++ [])) same ∙ second)

-- a text is of one value
pub one_value : (d e : Data) → has_words d ≡ true → has_words e ≡ true → compact_text d ≡ compact_text e → d ≡ e
one_value d e few fewer same =
    let outlines = one_outline (outline d) (outline e) (sym (tokens-text d few) ∙ ap tokens same ∙ tokens-text e fewer) in
    sym (back-outline d few) ∙ ap value_back outlines ∙ back-outline e fewer

-- ---- no newline

-- the byte is a newline
abbrev pub is_newline : ℕ → Bool
is_newline b = b == 10

-- a newline stands in the text
abbrev pub has_newline : List ℕ → Bool
has_newline text = list_any is_newline text

-- two texts without one, one after the other
neither : (xs ys : List ℕ) → has_newline xs ≡ false → has_newline ys ≡ false → has_newline (xs ++ ys) ≡ false
neither xs ys first second = rw (list_any-append is_newline xs ys, first, second) refl

digit_char_line : (d : ℕ) → (digit_char d == 10) ≡ false
digit_char_line d = elim (nat_lt d 10) as (λ t. (cond t (48 + d) (87 + d) == 10) ≡ false) [ true ↦ ne_eqb (48 + d) 10 (λ e. omega arith) | false ↦ ne_eqb (87 + d) 10 (λ e. omega arith) ]

-- the letter of a short escape, by which bytes it stands for
abbrev letter_by : Bool → Bool → Bool → Bool → Bool → Bool → ℕ → ℕ
letter_by same eight twelve ten thirteen nine x = cond same x (cond eight 98 (cond twelve 102 (cond ten 110 (cond thirteen 114 (cond nine 116 0)))))

-- of a byte that is no newline it is none
other_line : (same eight twelve thirteen nine : Bool) (x : ℕ) → (x == 10) ≡ false → (letter_by same eight twelve false thirteen nine x == 10) ≡ false
other_line true eight twelve thirteen nine x e = e
other_line false true twelve thirteen nine x e = refl
other_line false false true thirteen nine x e = refl
other_line false false false true nine x e = refl
other_line false false false false true x e = refl
other_line false false false false false x e = refl

-- nor of a newline
letter_line : (x : ℕ) → (escape_letter x == 10) ≡ false
letter_line x =
    (elim (x == 10) as (λ t. (x == 10) ≡ t → (letter_by ((x == 34) || (x == 92)) (x == 8) (x == 12) t (x == 13) (x == 9) x == 10) ≡ false) [
      | true ↦ λ e. rw (eqb-true x 10 e) refl
      | false ↦ λ e. other_line ((x == 34) || (x == 92)) (x == 8) (x == 12) (x == 13) (x == 9) x e
    ]) refl

-- the long escape of a byte
abbrev long_escape : ℕ → List ℕ
long_escape x = 92 ∷ 117 ∷ 48 ∷ 48 ∷ digit_char (x / 16) ∷ digit_char (x % 16) ∷ []

-- what stands for a byte without a short escape
unescaped_line : (x : ℕ) → has_newline (cond (nat_lt x 32) (long_escape x) (x ∷ [])) ≡ false
unescaped_line x =
    (elim (nat_lt x 32) as (λ t. nat_lt x 32 ≡ t → has_newline (cond t (long_escape x) (x ∷ [])) ≡ false) [
      | true ↦ λ e. rw (digit_char_line (x / 16), digit_char_line (x % 16)) refl
      | false ↦ λ e. let no : (x == 10) ≡ false = grind (arith, nat_tests) in rw no refl
    ]) refl

-- what stands for a byte with this short escape, or with none
escaped_line : (x letter : ℕ) → (letter == 10) ≡ false → has_newline (cond (nat_lt 0 letter) (92 ∷ letter ∷ []) (cond (nat_lt x 32) (long_escape x) (x ∷ []))) ≡ false
escaped_line x letter e =
    elim (nat_lt 0 letter) as (λ t. has_newline (cond t (92 ∷ letter ∷ []) (cond (nat_lt x 32) (long_escape x) (x ∷ []))) ≡ false) [
      | true ↦ rw e refl
      | false ↦ unescaped_line x
    ]

escape_byte_line : (x : ℕ) → has_newline (escape_byte x) ≡ false
unfolding escape_byte
escape_byte_line x = escaped_line x (escape_letter x) (letter_line x)

escape_line : (text : List ℕ) → has_newline (escape text) ≡ false
escape_line [] = refl
escape_line (b ∷ text) = neither (escape_byte b) (escape text) (escape_byte_line b) (escape_line text)

quoted_line : (text : List ℕ) → has_newline (quoted text) ≡ false
quoted_line text = neither (escape text) (34 ∷ []) (escape_line text) refl

digits_line : (digits : List ℕ) → AllDigits 10 digits → has_newline digits ≡ false
digits_line [] all = refl
digits_line (d ∷ digits) all = let digit = digit_from_value d all.0 in rw (ne_eqb d 10 (λ e. omega arith)) (digits_line digits all.1)

comma_line : (later : Bool) → has_newline (comma_if later) ≡ false
comma_line true = refl
comma_line false = refl

mutual
  -- a compact text has no newline
  pub no_newline : (d : Data) → has_words d ≡ true → has_newline (compact_text d) ≡ false
  no_newline null h = refl
  no_newline (boolean true) h = refl
  no_newline (boolean false) h = refl
  no_newline (number (unsigned n)) h = digits_line (decimal n) (decimal_is_IsNumeral n (ltb-true n (2 ^ 64) h)).0.1
  no_newline (number (negative z)) h = cc
  no_newline (number (float x)) h = cc
  no_newline (string text) h = quoted_line text
  no_newline (array items) h = items_line false items h
  no_newline (object members) h = members_line false members h

  items_line : (later : Bool) (items : Items) → items_have_words items ≡ true → has_newline (items_text later items) ≡ false
  items_line later no_items h = refl
  items_line later (item d rest) h =
      let p = and_parts (has_words d) (items_have_words rest) h in
      let behind = neither (compact_text d) (items_text true rest) (no_newline d p.0) (items_line true rest p.1) in
      neither (comma_if later) (compact_text d ++ items_text true rest) (comma_line later) behind

  members_line : (later : Bool) (members : Members) → members_have_words members ≡ true → has_newline (members_text later members) ≡ false
  members_line later no_members h = refl
  members_line later (member key d rest) h =
      let p = and_parts (has_words d) (members_have_words rest) h in
      let behind = neither (compact_text d) (members_text true rest) (no_newline d p.0) (members_line true rest p.1) in
      let member = neither (quoted key) (58 ∷ (compact_text d ++ members_text true rest)) (quoted_line key) behind in
      neither (comma_if later) (quoted key ++ 58 ∷ (compact_text d ++ members_text true rest)) (comma_line later) member
