-- Where notes stand in a book with one note more, and what stands after them.
use Rattle.std.specs.Prelude.{◌≡◌, ℕ, suc, zero, ◌+◌, Bool, true, false, not, ◌||◌, cond, nat_lt, List, [], ◌∷◌, ◌++◌, length, drop, map, Option, Some, None, option_map, is_some, refl}
use Rattle.std.specs.List.{list_any, filter, enumerate_from, after_first}
use Rattle.std.specs.Option.{option_or}
use Rattle.std.proofs.Common.{ap, ◌∙◌, arith}
use Rattle.commit_log.specs.declared.note.Note.{Note}
use Rattle.commit_log.proofs.FlagLaws.{after_first-cons}
use Rattle.commit_log.specs.Parts.{passes, is_answer_of, Flagging, flags_op}
use Rattle.commit_log.specs.Flags.{is_running}
use Rattle.commit_log.specs.Places.{first_end, last_end, is_past, reclaims_op}
use Rattle.commit_log.specs.Reads.{tells_history, journal_from}

-- ---- one note more

pub first_end-push : (test : Note → Bool) (notes : List Note) (note : Note) → first_end test (notes ++ note ∷ []) ≡ option_or (first_end test notes) (cond (test note) (Some (suc (length notes))) None)
first_end-push test [] note = refl
first_end-push test (n ∷ notes) note =
    elim (test n) as (λ b. cond b (Some 1) (option_map (λ m. suc m) (first_end test (notes ++ note ∷ []))) ≡ option_or (cond b (Some 1) (option_map (λ m. suc m) (first_end test notes))) (cond (test note) (Some (suc (suc (length notes)))) None)) [
      | true ↦ refl
      | false ↦ ap (λ (t : Option ℕ). option_map (λ m. suc m) t) (first_end-push test notes note) ∙ moved (first_end test notes) (test note)
    ]
  where
    moved : (t : Option ℕ) (b : Bool) → option_map (λ m. suc m) (option_or t (cond b (Some (suc (length notes))) None)) ≡ option_or (option_map (λ m. suc m) t) (cond b (Some (suc (suc (length notes)))) None)
    moved (Some k) b = refl
    moved None true = refl
    moved None false = refl

pub last_end-push : (test : Note → Bool) (notes : List Note) (note : Note) → last_end test (notes ++ note ∷ []) ≡ cond (test note) (Some (suc (length notes))) (last_end test notes)
last_end-push test [] note = refl
last_end-push test (n ∷ notes) note =
    ap (λ (t : Option ℕ). option_or (option_map (λ m. suc m) t) (cond (test n) (Some 1) None)) (last_end-push test notes note)
    ∙ (elim (test note) as (λ b. option_or (option_map (λ m. suc m) (cond b (Some (suc (length notes))) (last_end test notes))) (cond (test n) (Some 1) None) ≡ cond b (Some (suc (suc (length notes)))) (option_or (option_map (λ m. suc m) (last_end test notes)) (cond (test n) (Some 1) None))) [
      | true ↦ refl
      | false ↦ refl
    ])

pub journal_from-push : (first : ℕ) (notes : List Note) (note : Note) → journal_from first (notes ++ note ∷ []) ≡ journal_from first notes ++ cond (tells_history note) ((first + length notes) ∷ []) []
journal_from-push first [] note = elim (tells_history note) as (λ b. map (λ (e : ℕ × Note). e.0) (cond b ((first, note) ∷ []) []) ≡ cond b ((first + 0) ∷ []) []) [
  | true ↦ ap (λ (n : ℕ). n ∷ []) (omega arith)
  | false ↦ refl
]
journal_from-push first (n ∷ notes) note =
    (elim (tells_history n) as (λ b. map (λ (e : ℕ × Note). e.0) (cond b ((first, n) ∷ told (notes ++ note ∷ [])) (told (notes ++ note ∷ []))) ≡ map (λ (e : ℕ × Note). e.0) (cond b ((first, n) ∷ told notes) (told notes)) ++ cond (tells_history note) ((first + 1 + length notes) ∷ []) []) [
      | true ↦ ap (λ (ns : List ℕ). first ∷ ns) (journal_from-push (first + 1) notes note)
      | false ↦ journal_from-push (first + 1) notes note
    ])
    ∙ ap (λ (m : ℕ). journal_from first (n ∷ notes) ++ cond (tells_history note) (m ∷ []) []) same
  where
    told : List Note → List (ℕ × Note)
    told ns = filter (λ (e : ℕ × Note). tells_history e.1) (enumerate_from (first + 1) ns)

    same : first + 1 + length notes ≡ first + suc (length notes)
    same = omega arith

-- ---- what stands after a place

positive : (m : ℕ) → true ≡ nat_lt 0 (suc m)
positive m = grind arith

both_more : (k m : ℕ) → nat_lt k m ≡ nat_lt (suc k) (suc m)
both_more k m = grind arith

none_below : (k : ℕ) → false ≡ nat_lt (suc k) 1
none_below k = grind arith

any_some : (test : Note → Bool) (notes : List Note) → list_any test notes ≡ is_some (last_end test notes)
any_some test [] = refl
any_some test (n ∷ notes) = ap (λ b. test n || b) (any_some test notes) ∙ both (test n) (last_end test notes)
  where
    both : (b : Bool) (t : Option ℕ) → (b || is_some t) ≡ is_some (option_or (option_map (λ m. suc m) t) (cond b (Some 1) None))
    both true (Some k) = refl
    both true None = refl
    both false (Some k) = refl
    both false None = refl

-- something that passes stands after so many notes exactly where the last of its kind does
pub any_drop : (test : Note → Bool) (k : ℕ) (notes : List Note) → list_any test (drop k notes) ≡ passes (λ (n : ℕ). nat_lt k n) (last_end test notes)
any_drop test zero [] = refl
any_drop test (suc k) [] = refl
any_drop test zero (n ∷ notes) = ap (λ b. test n || b) (any_some test notes) ∙ both (test n) (last_end test notes)
  where
    both : (b : Bool) (t : Option ℕ) → (b || is_some t) ≡ passes (λ (m : ℕ). nat_lt 0 m) (option_or (option_map (λ m. suc m) t) (cond b (Some 1) None))
    both true (Some m) = positive m
    both true None = refl
    both false (Some m) = positive m
    both false None = refl
any_drop test (suc k) (n ∷ notes) = any_drop test k notes ∙ both (test n) (last_end test notes)
  where
    both : (b : Bool) (t : Option ℕ) → passes (λ (m : ℕ). nat_lt k m) t ≡ passes (λ (m : ℕ). nat_lt (suc k) m) (option_or (option_map (λ m. suc m) t) (cond b (Some 1) None))
    both b (Some m) = both_more k m
    both true None = none_below k
    both false None = refl

-- something that passes stands after the first of another kind
pub any_after : (test other : Note → Bool) (notes : List Note) → list_any test (after_first other notes) ≡ passes (λ (k : ℕ). list_any test (drop k notes)) (first_end other notes)
any_after test other [] = refl
any_after test other (n ∷ notes) =
    ap (list_any test) (after_first-cons other n notes)
    ∙ (elim (other n) as (λ b. list_any test (cond b notes (after_first other notes)) ≡ passes (λ (k : ℕ). list_any test (drop k (n ∷ notes))) (cond b (Some 1) (option_map (λ m. suc m) (first_end other notes)))) [
      | true ↦ refl
      | false ↦ any_after test other notes ∙ moved (first_end other notes)
    ])
  where
    moved : (t : Option ℕ) → passes (λ (k : ℕ). list_any test (drop k notes)) t ≡ passes (λ (k : ℕ). list_any test (drop k (n ∷ notes))) (option_map (λ m. suc m) t)
    moved (Some k) = refl
    moved None = refl

-- the same by where both stand
pub any_past : (test other : Note → Bool) (notes : List Note) → list_any test (after_first other notes) ≡ is_past (first_end other notes) (last_end test notes)
any_past test other notes = any_after test other notes ∙ told (first_end other notes)
  where
    told : (t : Option ℕ) → passes (λ (k : ℕ). list_any test (drop k notes)) t ≡ is_past t (last_end test notes)
    told (Some k) = any_drop test k notes
    told None = refl

-- ---- flags

any_or : (p q : Note → Bool) (notes : List Note) → list_any (λ n. p n || q n) notes ≡ (list_any p notes || list_any q notes)
any_or p q [] = refl
any_or p q (n ∷ notes) = ap (λ b. (p n || q n) || b) (any_or p q notes) ∙ four (p n) (q n) (list_any p notes) (list_any q notes)
  where
    four : (a b c d : Bool) → ((a || b) || (c || d)) ≡ ((a || c) || (b || d))
    four true b c d = refl
    four false true true d = refl
    four false true false d = refl
    four false false c d = refl

-- a flag is set exactly where neither a reclaim nor an answer stands after it
pub running_by_place : (notes : List Note) (flag : Flagging) → is_running notes flag ≡ not (is_past (first_end (flags_op flag.op) notes) (last_end (reclaims_op flag.op) notes) || is_past (first_end (flags_op flag.op) notes) (last_end (is_answer_of flag.session) notes))
running_by_place notes flag =
    ap not (any_or (reclaims_op flag.op) (is_answer_of flag.session) (after_first (flags_op flag.op) notes))
    ∙ ap (λ b. not (b || list_any (is_answer_of flag.session) (after_first (flags_op flag.op) notes))) (any_past (reclaims_op flag.op) (flags_op flag.op) notes)
    ∙ ap (λ b. not (is_past (first_end (flags_op flag.op) notes) (last_end (reclaims_op flag.op) notes) || b)) (any_past (is_answer_of flag.session) (flags_op flag.op) notes)
