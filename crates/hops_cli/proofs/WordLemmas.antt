-- What words of digits write.
use Rattle.std.proofs.Common.{◌≡◌, ℕ, suc, ◌+◌, ◌*◌, ◌^◌, ◌<◌, ◌≤◌, true, false, ◌==◌, nat_le, nat_lt, List, [], ◌∷◌, length, refl, ap, sym, ◌∙◌, arith}
use Rattle.std.proofs.lemmas.Bool.Decides.{nat_tests}
use Rattle.std.proofs.Math.Nat.{pow-le-pow_right, mul-le-mul_right, mul_assoc, pow-succ'}
use Rattle.std.specs.List.{list_all}
use Rattle.std.specs.Cmp.{first_so, second_so}
use Rattle.std.specs.Char.{digit_value}
use Rattle.std.specs.Str.Parse.{AllDigits, IsNumeral, digits_value_after, digits_value, without_leading_plus}
use Rattle.hops_cli.specs.Words.{is_digit, is_number}

-- a decimal digit's value
value_low : (c : ℕ) → is_digit c ≡ true → digit_value c < 10
value_low c e =
    let low : nat_le 48 c ≡ true = first_so _ _ e in
    let high : nat_le c 57 ≡ true = second_so _ _ e in
    let from : 48 ≤ c = grind (arith, nat_tests) in
    let to : c ≤ 57 = grind (arith, nat_tests) in
    let above : nat_lt c 48 ≡ false = grind (arith, nat_tests) in
    let below : nat_lt c 58 ≡ true = grind (arith, nat_tests) in
    rw (above, below) (omega arith)

all_digits : (word : List ℕ) → list_all is_digit word ≡ true → AllDigits 10 word
all_digits [] e = tt
all_digits (c ∷ cs) e = (value_low c (first_so _ _ e), all_digits cs (second_so _ _ e))

-- no sign stands first
no_plus : (word : List ℕ) → list_all is_digit word ≡ true → without_leading_plus word ≡ word
no_plus [] e = refl
no_plus (c ∷ cs) e =
    let low : nat_le 48 c ≡ true = first_so _ _ (first_so _ _ e) in
    let from : 48 ≤ c = grind (arith, nat_tests) in
    let other : (c == 43) ≡ false = grind (arith, nat_tests) in
    rw other refl

-- so many digits write a number below that power of ten
below_power : (n : ℕ) (word : List ℕ) → list_all is_digit word ≡ true → digits_value_after 10 n word + 1 ≤ (n + 1) * 10 ^ length word
below_power n [] e = omega arith
below_power n (c ∷ cs) e =
    let low : digit_value c < 10 = value_low c (first_so _ _ e) in
    let rest : digits_value_after 10 (n * 10 + digit_value c) cs + 1 ≤ (n * 10 + digit_value c + 1) * 10 ^ length cs = below_power (n * 10 + digit_value c) cs (second_so _ _ e) in
    let first : n * 10 + digit_value c + 1 ≤ (n + 1) * 10 = omega arith in
    let more : (n * 10 + digit_value c + 1) * 10 ^ length cs ≤ (n + 1) * 10 * 10 ^ length cs = mul-le-mul_right (10 ^ length cs) first in
    let same : (n + 1) * 10 * 10 ^ length cs ≡ (n + 1) * 10 ^ suc (length cs) = mul_assoc (n + 1) 10 (10 ^ length cs) ∙ ap (λ (m : ℕ). (n + 1) * m) (sym (pow-succ' 10 (length cs))) in
    omega arith

pub numeral : (word : List ℕ) → is_number word ≡ true → IsNumeral 10 (without_leading_plus word) × (digits_value 10 (without_leading_plus word) < 2 ^ 64)
numeral word e =
    let digits : list_all is_digit word ≡ true = second_so _ _ e in
    let some : nat_le 1 (length word) ≡ true = first_so _ _ (first_so _ _ e) in
    let few : nat_le (length word) 10 ≡ true = second_so _ _ (first_so _ _ e) in
    let long : 1 ≤ length word = grind (arith, nat_tests) in
    let short : length word ≤ 10 = grind (arith, nat_tests) in
    let low : digits_value_after 10 0 word + 1 ≤ (0 + 1) * 10 ^ length word = below_power 0 word digits in
    let most : 10 ^ length word ≤ 10 ^ 10 = pow-le-pow_right (omega arith) short in
    rw (no_plus word digits) ((omega arith, all_digits word digits), omega arith)
