-- Laws of the texts of paths.
use Rattle.std.proofs.Common.{◌≡◌, ℕ, ◌≤◌, true, false, cond, ◌==◌, nat_lt, List, [], ◌∷◌, ◌++◌, length, refl, ap, sym, ◌∙◌, arith}
use Rattle.std.proofs.lemmas.Bool.Decides.{nat_tests}
use Rattle.std.specs.List.{slice_split, onto_first}
use Rattle.hops_base.specs.Path.{most_path_bytes, most_path_names, joined, text_of, is_absolute, names_in, names_fault, path_fault}

-- the pieces of a text, each after a slash
pub joined-split : (text : List ℕ) → joined (slice_split (λ b. b == 47) text) ≡ 47 ∷ text
joined-split [] = refl
joined-split (b ∷ text) =
    elim (b == 47) as (λ t. (b == 47) ≡ t → joined (cond t ([] ∷ slice_split (λ b. b == 47) text) (onto_first b (slice_split (λ b. b == 47) text))) ≡ 47 ∷ b ∷ text) [
      | true ↦ λ e. let same : b ≡ 47 = grind (arith, nat_tests) in let rest = joined-split text in cc
      | false ↦ λ e. onto (slice_split (λ b. b == 47) text) (joined-split text)
    ] refl
  where
    onto : (parts : List (List ℕ)) → joined parts ≡ 47 ∷ text → joined (onto_first b parts) ≡ 47 ∷ b ∷ text
    onto [] h = cc
    onto (part ∷ parts) h = let rest : (part ++ joined parts) ≡ text = cc in cc

text_of-joined : (names : List (List ℕ)) (text : List ℕ) → joined names ≡ 47 ∷ text → text_of names ≡ 47 ∷ text
text_of-joined [] text h = cc
text_of-joined (name ∷ names) text h = h

-- the names in an absolute text give the text back
pub text_of-names_in : (text : List ℕ) → is_absolute text ≡ true → text_of (names_in text) ≡ text
text_of-names_in [] h = cc
text_of-names_in (b ∷ []) h = let same : b ≡ 47 = grind (arith, nat_tests) in cc
text_of-names_in (b ∷ next ∷ rest) h = let same : b ≡ 47 = grind (arith, nat_tests) in text_of-joined _ (next ∷ rest) (joined-split (next ∷ rest)) ∙ ap (λ (c : ℕ). c ∷ next ∷ rest) (sym same)

-- a text that is neither too long nor relative nor too deep has the fault of its first bad name
pub fault_of_short : (text : List ℕ) → length text ≤ most_path_bytes → is_absolute text ≡ true → length (names_in text) ≤ most_path_names → path_fault text ≡ names_fault 0 (names_in text)
fault_of_short text short absolute few = rw (not_above most_path_bytes (length text) short, absolute, not_above most_path_names (length (names_in text)) few) refl
  where
    not_above : (m n : ℕ) → n ≤ m → nat_lt m n ≡ false
    not_above m n h = grind (arith, nat_tests)
