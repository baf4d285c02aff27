-- Things that are drawn, and what is generated of them.
use Rattle.std.proofs.Common.{◌≡◌, ℕ, suc, ◌+◌, List, [], ◌∷◌, ◌++◌, refl, sym, ap, ap₂, subst, ◌∙◌, append_assoc, append-nil, get_or, ◌<◌, ◌≤◌, arith, inl, inr}
use Rattle.std.proofs.lemmas.Bool.{cases_eq}
use Rattle.name_space.specs.declared.call.Call.{Call}
use Rattle.name_space.specs.declared.call.Call.TheVariants as call
use Rattle.script_text.specs.Generator.{Drawing, times, made_of, made_of_both, any_below, any_path, kinds, any_call}

-- these were drawn so far, so many are left to be drawn from the state, and all of it is this
abbrev pub WasDrawn : {A : Type 0} → Drawing A → ℕ → List A → ℕ → List A × ℕ → Type 0
WasDrawn each left so_far state all = (so_far ++ (times left each state).0, (times left each state).1) ≡ all

-- nothing was drawn
pub drawn_none : {A : Type 0} (each : Drawing A) (left n : ℕ) (so_far : List A) (state : ℕ) → so_far ≡ [] → left ≡ n → WasDrawn each left so_far state (times n each state)
drawn_none each left n so_far state empty is = rw (empty, is) refl

-- one thing more was drawn
pub drawn_more : {A : Type 0} (each : Drawing A) (left next : ℕ) (so_far : List A) (state after : ℕ) (one : A) (all : List A × ℕ) → left ≡ suc next → (one, after) ≡ each state → WasDrawn each left so_far state all → WasDrawn each next (so_far ++ one ∷ []) after all
drawn_more each left next so_far state after one all is drawn before =
    ap (λ l. (l, (times next each after).1)) (append_assoc so_far (one ∷ []) (times next each after).0)
    ∙ ap (λ p. (so_far ++ p.0 ∷ (times next each p.1).0, (times next each p.1).1)) drawn
    ∙ subst (λ n. WasDrawn each n so_far state all) is before

-- all was drawn
pub drawn_all : {A : Type 0} (each : Drawing A) (left : ℕ) (so_far : List A) (state : ℕ) (all : List A × ℕ) → left ≡ 0 → WasDrawn each left so_far state all → (so_far, state) ≡ all
drawn_all each left so_far state all is before = ap (λ l. (l, state)) (sym (append-nil so_far)) ∙ subst (λ n. WasDrawn each n so_far state all) is before

-- the kind was drawn, and then a call of this kind
pub call_of : (kind start between last : ℕ) (made : Call) → (kind, between) ≡ any_below 16 start → (made, last) ≡ get_or kinds kind (made_of call.Mkdirs any_path) between → (made, last) ≡ any_call start
call_of kind start between last made drawn is = is ∙ ap (λ (p : ℕ × ℕ). get_or kinds p.0 (made_of call.Mkdirs any_path) p.1) drawn

-- a call with a path
pub with_path : {A : Type 0} (make : List (List ℕ) → A) (between after last : ℕ) (path : List (List ℕ)) (made : A) → (path, after) ≡ any_path between → made ≡ make path → last ≡ after → (made, last) ≡ made_of make any_path between
with_path make between after last path made drawn is state = ap₂ (λ m n. (m, n)) is state ∙ ap (λ p. (make p.0, p.1)) drawn

-- a call with a path and something more
pub with_more : {A B : Type 0} (make : List (List ℕ) → B → A) (more : Drawing B) (between after last : ℕ) (path : List (List ℕ)) (other : B) (made : A) → (path, after) ≡ any_path between → (other, last) ≡ more after → made ≡ make path other → (made, last) ≡ made_of_both make any_path more between
with_more make more between after last path other made drawn also is =
    ap (λ m. (m, last)) is ∙ ap (λ p. (make path p.0, p.1)) also ∙ ap (λ p. (make p.0 (more p.1).0, (more p.1).1)) drawn

-- what holds of two numbers, one behind the other, holds of each that is one of them
pub of_two : (P : ℕ → Type 0) (first n : ℕ) → first ≤ n → n < first + 2 → P first → P (first + 1) → P n
of_two P first n low high one other = elim (cases_eq n first) [ inl same ↦ subst P (sym same) one | inr not_first ↦ let is : first + 1 ≡ n = omega arith in subst P is other ]

-- and of three
pub of_three : (P : ℕ → Type 0) (n : ℕ) → n < 3 → P 0 → P 1 → P 2 → P n
of_three P n high one other third = elim (cases_eq n 0) [ inl same ↦ subst P (sym same) one | inr not_first ↦ of_two P 1 n (omega arith) (omega arith) other third ]
