-- Lines are of one list of values.
use Rattle.std.proofs.Common.{◌≡◌, ℕ, suc, zero, true, false, List, [], ◌∷◌, ◌++◌, map, flat_map, refl, sym, ap, ap₂, ◌∙◌, arith, append_assoc}
use Rattle.std.specs.List.{All, list_all, slice_split}
use Rattle.std.proofs.lemmas.Bool.{and_parts, or_parts}
use Rattle.std.proofs.lemmas.List.Splits.{slice_split_at}
use Rattle.serde_json.specs.Data.{Data}
use Rattle.serde_json.specs.Written.{compact_text}
use Rattle.report_text.specs.OneReport.{has_words}
use Rattle.report_text.specs.Report.{line_of}
use Rattle.report_text.proofs.ValueTexts.{is_newline, has_newline, one_value, no_newline}

all_apart : (text : List ℕ) → has_newline text ≡ false → All (λ b. is_newline b ≡ false) text
all_apart [] none k d less = absurd (omega arith)
all_apart (b ∷ text) none zero d less = (or_parts (is_newline b) (has_newline text) none).0
all_apart (b ∷ text) none (suc k) d less = all_apart text (or_parts (is_newline b) (has_newline text) none).1 k d (omega arith)

-- the pieces between the newlines of lines
pieces : (values : List Data) → list_all has_words values ≡ true → slice_split is_newline (flat_map line_of values) ≡ map compact_text values ++ [] ∷ []
pieces [] few = refl
pieces (d ∷ values) few =
    let p = and_parts (has_words d) (list_all has_words values) few in
    ap (slice_split is_newline) (append_assoc (compact_text d) (10 ∷ []) (flat_map line_of values))
    ∙ slice_split_at is_newline (compact_text d) 10 (flat_map line_of values) (all_apart (compact_text d) (no_newline d p.0)) refl
    ∙ ap (λ rest. compact_text d ∷ rest) (pieces values p.1)

never_empty : (texts : List (List ℕ)) (text : List ℕ) → texts ++ text ∷ [] ≡ [] → ⊥
never_empty [] text e = cc
never_empty (first ∷ texts) text e = cc

one_by_one : (ds es : List Data) → list_all has_words ds ≡ true → list_all has_words es ≡ true
    → map compact_text ds ++ [] ∷ [] ≡ map compact_text es ++ [] ∷ [] → ds ≡ es
one_by_one [] [] few fewer same = refl
one_by_one [] (e ∷ es) few fewer same = absurd (never_empty (map compact_text es) [] (let rest : map compact_text es ++ [] ∷ [] ≡ [] = cc in rest))
one_by_one (d ∷ ds) [] few fewer same = absurd (never_empty (map compact_text ds) [] (let rest : map compact_text ds ++ [] ∷ [] ≡ [] = cc in rest))
one_by_one (d ∷ ds) (e ∷ es) few fewer same =
    let p = and_parts (has_words d) (list_all has_words ds) few in
    let q = and_parts (has_words e) (list_all has_words es) fewer in
    let first : compact_text d ≡ compact_text e = cc in
    let rest : map compact_text ds ++ [] ∷ [] ≡ map compact_text es ++ [] ∷ [] = cc in
    ap₂ (λ v vs. v ∷ vs) (one_value d e p.0 q.0 first) (one_by_one ds es p.1 q.1 rest)

-- lines of which the texts are one are lines of the same values
pub one_of_lines : (ds es : List Data) → list_all has_words ds ≡ true → list_all has_words es ≡ true → flat_map line_of ds ≡ flat_map line_of es → ds ≡ es
one_of_lines ds es few fewer same = one_by_one ds es few fewer (sym (pieces ds few) ∙ ap (slice_split is_newline) same ∙ pieces es fewer)
