-- Lists of values, each of which is read by itself.
use Rattle.std.proofs.Common.{◌≡◌, ℕ, zero, suc, ◌+◌, ◌<◌, Bool, true, false, not, ◌&&◌, List, [], ◌∷◌, map, length, take, get_or, filter_map, Option, Some, None, is_some, refl, sym, ap, ◌∙◌, arith}
use Rattle.std.specs.List.{AllZip, list_all, position_from}
use Rattle.hops_base.specs.declared.hint.Hint.{Hint}
use Rattle.serde_json.specs.Data.{Data}
use Rattle.serde_json.specs.View.{view}
use Rattle.serde_json.specs.declared.value.Value.{Value}
use Rattle.core_replay.specs.Events.{hint_of, hints_from}

module _ {T : Type 0} (of : Data → Option T) where
  -- nothing is read of the value
  abbrev pub is_bad : Data → Bool
  is_bad value = not (is_some (of value))

  -- a value of which nothing is read keeps them from being all good
  pub not_all : (values : List Value) (i : ℕ) (v : Value) → i < length values → v ≡ get_or values i v → of (view v) ≡ None → list_all (λ value. is_some (of value)) (map view values) ≡ false
  not_all [] i v lt is none = absurd (omega arith)
  not_all (x ∷ values) zero v lt is none = rw (sym (ap (λ w. of (view w)) is) ∙ none) refl
  not_all (x ∷ values) (suc i) v lt is none = last (is_some (of (view x))) (not_all values i v (omega arith) is none)
    where
      last : (b : Bool) {c : Bool} → c ≡ false → (b && c) ≡ false
      last true h = h
      last false h = refl

  module _ {B : Type 0} (made : B → T) where
    -- the value is read as this
    abbrev pub Reads : Data → B → Type 0
    Reads value x = of value ≡ Some (made x)

    -- none is bad where each is read
    pub none_bad : (n : ℕ) (values : List Data) (xs : List B) → AllZip Reads values xs → position_from is_bad n values ≡ None
    none_bad n [] xs h = refl
    none_bad n (value ∷ values) [] h = absurd h
    none_bad n (value ∷ values) (x ∷ xs) h = rw h.0 (none_bad (n + 1) values xs h.1)

    -- the first one behind those that are read
    pub first_bad : (n : ℕ) (values : List Value) (xs : List B) (i : ℕ) (v : Value) → i < length values → v ≡ get_or values i v → AllZip Reads (map view (take i values)) xs → of (view v) ≡ None
        → position_from is_bad n (map view values) ≡ Some (n + i)
    first_bad n [] xs i v lt is h none = absurd (omega arith)
    first_bad n (x ∷ values) xs zero v lt is h none = rw (sym (ap (λ w. of (view w)) is) ∙ none) (ap Some (omega arith))
    first_bad n (x ∷ values) [] (suc i) v lt is h none = absurd h
    first_bad n (x ∷ values) (y ∷ ys) (suc i) v lt is h none = rw h.0 (first_bad (n + 1) values ys i v (omega arith) is h.1 none ∙ ap Some (omega arith))

-- ---- hints

-- the value says the hint
abbrev pub SaysHint : Data → Hint → Type 0
SaysHint value hint = hint_of value ≡ Some hint

-- each of the values is a hint
all_hints : (values : List Data) (hints : List Hint) → AllZip SaysHint values hints → list_all (λ value. is_some (hint_of value)) values ≡ true
all_hints [] hints h = refl
all_hints (value ∷ values) [] h = absurd h
all_hints (value ∷ values) (hint ∷ hints) h = rw h.0 (all_hints values hints h.1)

-- these are the hints that they are
hints_gathered : (values : List Data) (hints : List Hint) → AllZip SaysHint values hints → filter_map hint_of values ≡ hints
hints_gathered [] [] h = refl
hints_gathered [] (hint ∷ hints) h = absurd h
hints_gathered (value ∷ values) [] h = absurd h
hints_gathered (value ∷ values) (hint ∷ hints) h = rw h.0 (ap (λ hs. hint ∷ hs) (hints_gathered values hints h.1))

-- so these are the hints of the values
pub hints_said : (values : List Data) (hints : List Hint) → AllZip SaysHint values hints → hints_from values ≡ Some hints
hints_said values hints h = rw (all_hints values hints h, hints_gathered values hints h) refl

-- with one that is none, there are no hints
pub no_hints : (values : List Value) (i : ℕ) (v : Value) → i < length values → v ≡ get_or values i v → hint_of (view v) ≡ None → hints_from (map view values) ≡ None
no_hints values i v lt is none = rw (not_all hint_of values i v lt is none) refl
