-- Which session keeps another away.
use Rattle.std.proofs.Common.{◌≡◌, ◌≤◌, Bool, true, false, not, ◌&&◌, ◌==◌, nat_eq, cond, List, [], ◌∷◌, map, Option, Some, None, is_some, refl, sym, ap, ◌∙◌, ◌⊎◌, inl, inr, arith}
use Rattle.std.specs.List.{filter, list_any, IsDistinct}
use Rattle.std.specs.Option.{option_map_or}
use Rattle.std.proofs.lemmas.Bool.{eq-eqb, eqb-true, and_right, or_cases, or_right, cases_lt, lt-ltb, le-ltb}
use Rattle.std.proofs.lemmas.List.Elements.{All-from_recursion}
use Rattle.std.proofs.lemmas.List.Folds.{list_any_none}
use Rattle.std.proofs.lemmas.Map.Keys.{IsDistinct-head, IsDistinct-tail}
use Rattle.hops_base.specs.declared.ids.SessionId.{SessionId}
use Rattle.hops_base.specs.declared.ids.Mode.{Mode}
use Rattle.hops_base.specs.declared.key.Key.{Key}
use Rattle.hops_base.specs.Mode.{conflict}
use Rattle.row_locks.specs.declared.holders.Holder.{Holder}
use Rattle.row_locks.specs.Holders.{session_number, mode_in, is_in_the_way, others_in_the_way, session_of, lesser, least_after}
use Rattle.row_locks.specs.Locks.{Locks, keeps_away, IsConflict}
use Rattle.row_locks.proofs.LockLaws.{numbers_tell}
use Rattle.row_locks.proofs.HolderLemmas.{holds_there}

-- t stands in the list
abbrev pub has : SessionId → List SessionId → Bool
has t sessions = list_any (λ (u : SessionId). u.0 == t.0) sessions

no_value : {X : Type 0} (x : Option X) → is_some x ≡ false → x ≡ None
no_value None e = refl
no_value (Some x) e = absurd (let bad = e in cc)

-- a session that stands first stands nowhere else
first_alone : (h : Holder) (holders : List Holder) (t : SessionId) → h.session.0 ≡ t.0 → IsDistinct nat_eq (map session_number (h ∷ holders)) → mode_in holders t ≡ None
first_alone h holders t e once = no_value (mode_in holders t) (holds_there holders t ∙ ap (λ n. list_any (nat_eq n) (map session_number holders)) (sym e) ∙ list_any_none (nat_eq h.session.0) (map session_number holders) (All-from_recursion _ _ (IsDistinct-head _ _ _ once)))

-- ---- those who are in the way
module _ (s : SessionId) (mode : Mode) where
  -- this mode of another session is in the way
  abbrev clashes : SessionId → Option Mode → Bool
  clashes t other = not (t.0 == s.0) && option_map_or (conflict mode) other false

  -- the first holder is the session itself, or isn't
  here : (b : Bool) (h : Holder) (holders : List Holder) (t : SessionId) → (h.session.0 == t.0) ≡ true → has t (map session_of holders) ≡ false → has t (map session_of (cond b (h ∷ holders) holders)) ≡ b
  here true h holders t e none = rw e refl
  here false h holders t e none = none

  past : (b : Bool) (h : Holder) (holders : List Holder) (t : SessionId) → (h.session.0 == t.0) ≡ false → has t (map session_of (cond b (h ∷ holders) holders)) ≡ has t (map session_of holders)
  past true h holders t e = rw e refl
  past false h holders t e = refl

  pub has-others : (holders : List Holder) (t : SessionId) → IsDistinct nat_eq (map session_number holders) → has t (others_in_the_way holders s mode) ≡ clashes t (mode_in holders t)
  has-others [] t once = sym (and_right (not (t.0 == s.0)) false refl)
  has-others (h ∷ holders) t once =
      let rest = has-others holders t (IsDistinct-tail _ _ _ once) in
      elim (numbers_tell h.session.0 t.0) [
        | inl e ↦
            let none : has t (others_in_the_way holders s mode) ≡ false = rest ∙ ap (clashes t) (first_alone h holders t e.1 once) ∙ and_right (not (t.0 == s.0)) false refl in
            here (is_in_the_way s mode h) h (filter (is_in_the_way s mode) holders) t e.0 none ∙ ap (λ n. not (n == s.0) && conflict mode h.mode) e.1 ∙ rw e.0 refl
        | inr e ↦ past (is_in_the_way s mode h) h (filter (is_in_the_way s mode) holders) t e.0 ∙ rest ∙ rw e.0 refl
      ]

-- ---- the least of some sessions
-- h is one of them, and the least
pub record IsLeastOf (sessions : List SessionId) (h : SessionId) : Type 0 where
  pub one : has h sessions ≡ true
  pub least : (t : SessionId) → has t sessions ≡ true → h.0 ≤ t.0

-- the lesser of two is one of them, and no greater than the other
lesser_is : (x y : SessionId) → ((lesser (Some x) y ≡ x) × (x.0 ≤ y.0)) ⊎ ((lesser (Some x) y ≡ y) × (y.0 ≤ x.0))
lesser_is x y = elim (cases_lt x.0 y.0) [
  | inl e ↦ let low = lt-ltb x.0 y.0 e in rw low (inl (refl, omega arith))
  | inr e ↦ let high = le-ltb x.0 y.0 e in rw high (inr (refl, e))
]

-- the least of x and some sessions
least_of : (x : SessionId) (sessions : List SessionId) → (h : SessionId) × (least_after (Some x) sessions ≡ Some h) × IsLeastOf (x ∷ sessions) h
least_of x [] = (x, refl, record { one = rw (eq-eqb x.0 x.0 refl) refl; least = λ t e. elim (or_cases (x.0 == t.0) false e) [ inl k ↦ let same = eqb-true x.0 t.0 k in omega arith | inr k ↦ absurd (let bad = k in cc) ] })
least_of x (y ∷ sessions) = elim (lesser_is x y) [
  | inl e ↦ rw e.0 (let rest = least_of x sessions in (
    rest.0,
    rest.1,
    record {
      one = elim (or_cases (x.0 == rest.0.0) _ rest.2.one) [ inl k ↦ rw k refl | inr k ↦ rw k (or_right _ _ (or_right _ true refl)) ];
      least = λ t h. elim (or_cases (x.0 == t.0) _ h) [
        | inl k ↦ rest.2.least t (rw k refl)
        | inr k ↦ elim (or_cases (y.0 == t.0) _ k) [
          | inl l ↦ let same = eqb-true y.0 t.0 l in let low = rest.2.least x (rw (eq-eqb x.0 x.0 refl) refl) in let up = e.1 in omega arith
          | inr l ↦ rest.2.least t (or_right _ _ l)
        ]
      ];
    },
  ))
  | inr e ↦ rw e.0 (let rest = least_of y sessions in (
    rest.0,
    rest.1,
    record {
      one = or_right _ _ rest.2.one;
      least = λ t h. elim (or_cases (x.0 == t.0) _ h) [
        | inl k ↦ let same = eqb-true x.0 t.0 k in let low = rest.2.least y (rw (eq-eqb y.0 y.0 refl) refl) in let up = e.1 in omega arith
        | inr k ↦ rest.2.least t k
      ];
    },
  ))
]

-- the least of those who keep the session away
pub conflict_found : (locks : Locks) (s : SessionId) (key : Key) (mode : Mode) (sessions : List SessionId) (answer : Option SessionId) → ((t : SessionId) → has t sessions ≡ keeps_away locks s key mode t) → answer ≡ least_after None sessions → IsConflict locks s key mode answer
conflict_found locks s key mode [] None each is = λ t. sym (each t)
conflict_found locks s key mode [] (Some h) each is = absurd (let bad = is in cc)
conflict_found locks s key mode (x ∷ sessions) None each is = absurd (let least = least_of x sessions in let bad = is ∙ least.1 in cc)
conflict_found locks s key mode (x ∷ sessions) (Some h) each is =
    let least = least_of x sessions in
    let same : h ≡ least.0 = let e = is ∙ least.1 in cc in
    let found : IsLeastOf (x ∷ sessions) h = rw same least.2 in
    record { keeps = sym (each h) ∙ found.one; least = λ t e. found.least t (each t ∙ e) }
