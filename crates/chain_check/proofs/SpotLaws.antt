-- Laws of the search for the next row that a session has left.
use Rattle.std.proofs.Common.{◌≡◌, ◌≢◌, ℕ, ◌+◌, ◌<◌, ◌≤◌, zero, suc, true, false, List, [], ◌∷◌, length, get_or, set, slice_get, Option, Some, None, is_some, arith, refl, sym, ap, subst, ◌∙◌, ◌⊎◌, inl, inr}
use Rattle.hops_base.specs.declared.ids.SessionId.{SessionId}
use Rattle.row_locks.specs.Locks.{Locks}
use Rattle.db_state.specs.declared.view.Place.{Place}
use Rattle.chain_check.specs.declared.search.Spot.{Spot}
use Rattle.chain_check.specs.Search.{HoldsRows, IsFree, IsLastFree, LeavesNone, IsNextAt, IsNext, LeavesAny}

-- ---- lists

-- what stands at a place is what is read there
pub read_at : {A : Type 0} (xs : List A) (i : ℕ) (x d : A) → slice_get xs i ≡ Some x → get_or xs i d ≡ x
read_at [] i x d is = absurd (let bad = is in cc)
read_at (y ∷ xs) zero x d is = cc
read_at (y ∷ xs) (suc i) x d is = read_at xs i x d is

-- and once it is set, what was set
pub get_set_same : {A : Type 0} (xs : List A) (i : ℕ) (x y : A) → slice_get xs i ≡ Some x → slice_get (set xs i y) i ≡ Some y
get_set_same [] i x y is = absurd (let bad = is in cc)
get_set_same (z ∷ xs) zero x y is = refl
get_set_same (z ∷ xs) (suc i) x y is = get_set_same xs i x y is

pub get_set_other : {A : Type 0} (xs : List A) (i j : ℕ) (y : A) → j ≢ i → slice_get (set xs i y) j ≡ slice_get xs j
get_set_other [] i j y apart = refl
get_set_other (z ∷ xs) zero zero y apart = absurd (apart refl)
get_set_other (z ∷ xs) zero (suc j) y apart = refl
get_set_other (z ∷ xs) (suc i) zero y apart = refl
get_set_other (z ∷ xs) (suc i) (suc j) y apart = get_set_other xs i j y (λ e. apart (ap suc e))

-- a number is before another, it, or after it
pub order : (i n : ℕ) → (i < n) ⊎ ((i ≡ n) ⊎ (n < i))
order zero zero = inr (inl refl)
order zero (suc n) = inl (omega arith)
order (suc i) zero = inr (inr (omega arith))
order (suc i) (suc n) = elim (order i n) [
  | inl h ↦ inl (omega arith)
  | inr h ↦ elim h [ inl e ↦ inr (inl (ap suc e)) | inr g ↦ inr (inr (omega arith)) ]
]

-- ---- one row is passed

module _ (locks : Locks) (s : SessionId) (marks : List ℕ) (places : List Place) (spot : Spot) (at : IsNextAt locks s marks places 0 spot) where
  lowered : List ℕ
  lowered = set marks spot.place spot.row

  -- of the places before it nothing is left
  before_still : LeavesNone locks s (set marks spot.place spot.row) places 0 spot.place
  before_still i mark place low high marked placed =
      at.before i mark place low high (sym (get_set_other marks spot.place i spot.row (λ e. (let bad : i ≡ spot.place = e in absurd (omega arith)))) ∙ marked) placed

  -- in its own place another is left
  left_here : (number : ℕ) → IsFree locks s at.place.found.items spot.row number → IsNextAt locks s (set marks spot.place spot.row) places 0 (record { place = spot.place; row = number })
  left_here number free = record {
    place = at.place;
    mark = spot.row;
    placed = at.placed;
    marked = get_set_same marks spot.place at.mark spot.row at.marked;
    later = omega arith;
    before = before_still;
    next = free;
  }

  -- none is left up to its own place
  through_still : HoldsRows locks s at.place.found.items 1 spot.row → (n : ℕ) → LeavesNone locks s marks places (spot.place + 1) n → LeavesNone locks s (set marks spot.place spot.row) places 0 n
  through_still none n after i mark place low high marked placed = elim (order i spot.place) [
    | inl h ↦ before_still i mark place low h marked placed
    | inr h ↦ elim h [
      | inl e ↦
          (let same_mark : Some mark ≡ Some spot.row = sym marked ∙ ap (slice_get (set marks spot.place spot.row)) e ∙ get_set_same marks spot.place at.mark spot.row at.marked in
          let same_place : Some place ≡ Some at.place = sym placed ∙ ap (slice_get places) e ∙ at.placed in
          let one : mark ≡ spot.row = cc in
          let two : place ≡ at.place = cc in
          subst (λ (n : ℕ). HoldsRows locks s place.found.items 1 n) (sym one) (subst (λ (p : Place). HoldsRows locks s p.found.items 1 spot.row) (sym two) none))
      | inr g ↦ after i mark place (omega arith) high (sym (get_set_other marks spot.place i spot.row (λ e. absurd (omega arith))) ∙ marked) placed
    ]
  ]

  left_after : HoldsRows locks s at.place.found.items 1 spot.row → (next : Option Spot) → IsNext locks s marks places (spot.place + 1) next → IsNext locks s (set marks spot.place spot.row) places 0 next
  left_after none None is = through_still none (length places) is
  left_after none (Some next) is = record {
    place = is.place;
    mark = is.mark;
    placed = is.placed;
    marked = get_set_other marks spot.place next.place spot.row (λ e. (let late : spot.place + 1 ≤ next.place = is.later in absurd (omega arith))) ∙ is.marked;
    later = omega arith;
    before = through_still none next.place is.before;
    next = is.next;
  }

  pub leaves_here : (found : Option ℕ) → is_some found ≡ true → IsLastFree locks s at.place.found.items spot.row found → LeavesAny locks s marks places spot true
  leaves_here None some is = absurd (let bad = some in cc)
  leaves_here (Some number) some is = (Some (record { place = spot.place; row = number }), refl, left_here number is)

  pub leaves_after : (found : Option ℕ) → is_some found ≡ false → IsLastFree locks s at.place.found.items spot.row found → (next : Option Spot) → IsNext locks s marks places (spot.place + 1) next → LeavesAny locks s marks places spot (is_some next)
  leaves_after (Some number) none is next then = absurd (let bad = none in cc)
  leaves_after None none is next then = (next, refl, left_after is next then)
