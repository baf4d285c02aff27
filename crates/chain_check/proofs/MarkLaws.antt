-- Laws of marks as they are lowered.
use Rattle.std.proofs.Common.{◌≡◌, ℕ, ◌+◌, ◌<◌, zero, suc, min, List, [], ◌∷◌, ◌++◌, length, take, drop, set, get_or, add-one, arith, refl, sym, ap, ◌∙◌}
use Rattle.chain_check.specs.Passing.{lowest}

set_mid : (marks : List ℕ) (i : ℕ) → i < length marks → set (lowest (take i marks) ++ drop i marks) i (min (get_or (lowest (take i marks) ++ drop i marks) i 0) 1) ≡ lowest (take (suc i) marks) ++ drop (suc i) marks
set_mid [] i h = absurd (omega arith)
set_mid (mark ∷ marks) zero h = refl
set_mid (mark ∷ marks) (suc i) h = ap (λ (l : List ℕ). min mark 1 ∷ l) (set_mid marks i (omega arith))

-- one mark more is lowered
pub lowest_more : (marks now : List ℕ) (i mark : ℕ) → i < length marks → now ≡ lowest (take i marks) ++ drop i marks → mark ≡ min (get_or now i 0) 1 → set now i mark ≡ lowest (take (i + 1) marks) ++ drop (i + 1) marks
lowest_more marks now i mark h is e =
    ap (set now i) e ∙ ap (λ (l : List ℕ). set l i (min (get_or l i 0) 1)) is ∙ set_mid marks i h ∙ ap (λ (n : ℕ). lowest (take n marks) ++ drop n marks) (sym (add-one i))
