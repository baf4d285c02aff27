-- Laws of the rows that a session has left to read again.
use Rattle.std.proofs.Common.{◌≡◌, ℕ, ◌<◌, ◌≤◌, zero, suc, min, true, false, not, ◌||◌, cond, List, [], ◌∷◌, ◌++◌, length, take, drop, set, slice_get, reverse, Some, is_some, arith, refl, sym, ap, subst, ◌∙◌, inl, inr, add-one}
use Rattle.std.proofs.lemmas.List.{reverse-append}
use Rattle.std.specs.List.{filter}
use Rattle.std.proofs.lemmas.List.Elements.{filter-append}
use Rattle.hops_base.specs.declared.ids.Mode.{Mode}
use Rattle.hops_base.specs.declared.ids.SessionId.{SessionId}
use Rattle.hops_base.specs.declared.key.Key.{Key}
use Rattle.hops_base.specs.Key.{same_key}
use Rattle.inode_table.specs.declared.inode.Inode.{Inode}
use Rattle.row_locks.specs.Locks.{Locks}
use Rattle.row_locks.specs.Plans.{planned_mode}
use Rattle.db_state.specs.declared.view.Place.{Place}
use Rattle.db_state.specs.Current.{is_locked}
use Rattle.db_state.specs.Moves.{left_of_all}
use Rattle.chain_check.proofs.SpotLaws.{order}
use Rattle.chain_check.specs.declared.search.Spot.{Spot}
use Rattle.chain_check.specs.Passing.{lowest}
use Rattle.chain_check.specs.Search.{is_held, HoldsRows, IsFree, AreMarked, LeavesNone, IsNextAt}

-- ---- lists

-- there is something at each place before the end
pub some_at : {A : Type 0} (xs : List A) (i : ℕ) → i < length xs → (x : A) × (slice_get xs i ≡ Some x)
some_at [] i h = absurd (omega arith)
some_at (x ∷ xs) zero h = (x, refl)
some_at (x ∷ xs) (suc i) h = some_at xs i (omega arith)

take_one_more : {A : Type 0} (xs : List A) (i : ℕ) (x : A) → slice_get xs i ≡ Some x → take (suc i) xs ≡ take i xs ++ x ∷ []
take_one_more [] i x is = absurd (let bad = is in cc)
take_one_more (y ∷ xs) zero x is = let same : y ≡ x = cc in ap (λ z. z ∷ []) same
take_one_more (y ∷ xs) (suc i) x is = ap (λ l. y ∷ l) (take_one_more xs i x is)

-- ---- the keys that are held

-- a plan has a mode for each key that it locks
pub planned_locked : (keys : List (Key × Mode)) (at : Key) → is_some (planned_mode keys at) ≡ is_locked keys at
planned_locked [] at = refl
planned_locked (k ∷ keys) at = elim (same_key at k.0) as (λ b. is_some (cond b (Some k.1) (planned_mode keys at)) ≡ (b || is_locked keys at)) [
  | true ↦ refl
  | false ↦ planned_locked keys at
]

-- ---- in one place

-- the rows below a mark that aren't locked, from the deepest upwards
abbrev left_rows : List (Key × Mode) → ℕ → List (Key × Inode) → List (Key × Inode)
left_rows keys mark rows = reverse (filter (λ (r : Key × Inode). not (is_locked keys r.0)) (drop 1 (take mark rows)))

left_low : (keys : List (Key × Mode)) (mark : ℕ) (rows : List (Key × Inode)) → mark ≤ 1 → left_rows keys mark rows ≡ []
left_low keys zero rows low = refl
left_low keys (suc zero) [] low = refl
left_low keys (suc zero) (r ∷ rows) low = refl
left_low keys (suc (suc mark)) rows low = absurd (omega arith)

-- one row more, if it isn't the root's
left_more : (keys : List (Key × Mode)) (mark : ℕ) (rows : List (Key × Inode)) (r : Key × Inode) → slice_get rows (suc mark) ≡ Some r
    → left_rows keys (suc (suc mark)) rows ≡ cond (not (is_locked keys r.0)) (r ∷ []) [] ++ left_rows keys (suc mark) rows
left_more keys mark [] r is = absurd (let bad = is in cc)
left_more keys mark (root ∷ rows) r is =
    ap (λ (l : List (Key × Inode)). reverse (filter (λ (r : Key × Inode). not (is_locked keys r.0)) l)) (take_one_more rows mark r is)
    ∙ ap reverse (filter-append (λ (r : Key × Inode). not (is_locked keys r.0)) (take mark rows) (r ∷ []))
    ∙ reverse-append (filter (λ (r : Key × Inode). not (is_locked keys r.0)) (take mark rows)) (cond (not (is_locked keys r.0)) (r ∷ []) [])
    ∙ (elim (not (is_locked keys r.0)) as (λ b. reverse (cond b (r ∷ []) []) ++ left_rows keys (suc mark) (root ∷ rows) ≡ cond b (r ∷ []) [] ++ left_rows keys (suc mark) (root ∷ rows)) [ true ↦ refl | false ↦ refl ])

module _ (locks : Locks) (s : SessionId) (keys : List (Key × Mode)) (holds : (at : Key) → is_held locks s at ≡ is_locked keys at) where
  -- held rows aren't left
  pub left_passed : (rows : List (Key × Inode)) (low mark : ℕ) → 1 ≤ low → low ≤ mark → mark ≤ length rows → HoldsRows locks s rows low mark → left_rows keys mark rows ≡ left_rows keys low rows
  left_passed rows low zero first fits long held = absurd (omega arith)
  left_passed rows low (suc zero) first fits long held = let same : 1 ≡ low = omega arith in ap (λ (n : ℕ). left_rows keys n rows) same
  left_passed rows low (suc (suc mark)) first fits long held = elim (order low (suc (suc mark))) [
    | inl h ↦
        (let at = some_at rows (suc mark) (omega arith) in
        let locked : is_locked keys at.0.0 ≡ true = sym (holds at.0.0) ∙ held (suc mark) at.0 (omega arith) (omega arith) at.1 in
        left_more keys mark rows at.0 at.1 ∙ ap (λ b. cond (not b) (at.0 ∷ []) [] ++ left_rows keys (suc mark) rows) locked
        ∙ left_passed rows low (suc mark) first (omega arith) (omega arith) (λ i row a b. held i row a (omega arith)))
    | inr h ↦ elim h [ inl e ↦ ap (λ (n : ℕ). left_rows keys n rows) (sym e) | inr g ↦ absurd (omega arith) ]
  ]

  none_in : (rows : List (Key × Inode)) (mark : ℕ) → mark ≤ length rows → HoldsRows locks s rows 1 mark → left_rows keys mark rows ≡ []
  none_in rows zero long held = refl
  none_in rows (suc mark) long held = left_passed rows 1 (suc mark) (omega arith) (omega arith) long held ∙ left_low keys 1 rows (omega arith)

  next_in : (rows : List (Key × Inode)) (mark number : ℕ) → mark ≤ length rows → (free : IsFree locks s rows mark number) → left_rows keys mark rows ≡ free.row ∷ left_rows keys number rows
  next_in rows mark zero long free = absurd (let low = free.low in omega arith)
  next_in rows mark (suc number) long free =
      let unlocked : is_locked keys free.row.0 ≡ false = sym (holds free.row.0) ∙ free.free in
      left_passed rows (suc (suc number)) mark (omega arith) (let high = free.high in omega arith) long (subst (λ (n : ℕ). HoldsRows locks s rows n mark) (add-one (suc number)) free.passed)
      ∙ left_more keys number rows free.row free.there ∙ ap (λ b. cond (not b) (free.row ∷ []) [] ++ left_rows keys (suc number) rows) unlocked

  -- ---- in all places

  pub none_left : (marks : List ℕ) (places : List Place) → AreMarked marks places → LeavesNone locks s marks places 0 (length places) → left_of_all keys marks places ≡ []
  none_left [] places marked none = refl
  none_left (mark ∷ marks) [] marked none = refl
  none_left (mark ∷ marks) (place ∷ places) marked none =
      let here = marked 0 place refl in
      let same : mark ≡ here.0 = (let e = here.1 in cc) in
      let long : mark ≤ length place.found.items = subst (λ (n : ℕ). n ≤ length place.found.items) (sym same) here.2 in
      ap (λ l. l ++ left_of_all keys marks places) (none_in place.found.items mark long (none 0 mark place (omega arith) (omega arith) refl refl))
      ∙ none_left marks places (λ i p e. marked (suc i) p e) (λ i m p low high a b. none (suc i) m p (omega arith) (omega arith) a b)

  next_at : (marks : List ℕ) (places : List Place) → AreMarked marks places → (n number mark : ℕ) (place : Place) → slice_get places n ≡ Some place → slice_get marks n ≡ Some mark
      → LeavesNone locks s marks places 0 n → (free : IsFree locks s place.found.items mark number) → left_of_all keys marks places ≡ free.row ∷ left_of_all keys (set marks n number) places
  next_at marks [] marked n number mark place at is none free = absurd (let bad = at in cc)
  next_at [] (p ∷ places) marked n number mark place at is none free = absurd (let bad = is in cc)
  next_at (m ∷ marks) (p ∷ places) marked zero number mark place at is none free =
      let here = marked 0 p refl in
      let one : m ≡ mark = cc in
      let two : p ≡ place = cc in
      let three : m ≡ here.0 = (let e = here.1 in cc) in
      let long : m ≤ length p.found.items = subst (λ (n : ℕ). n ≤ length p.found.items) (sym three) here.2 in
      let long' : mark ≤ length place.found.items = subst (λ (q : Place). mark ≤ length q.found.items) two (subst (λ (n : ℕ). n ≤ length p.found.items) one long) in
      let next = next_in place.found.items mark number long' free in
      ap (λ (n : ℕ). left_rows keys n p.found.items ++ left_of_all keys marks places) one
      ∙ ap (λ (q : Place). left_rows keys mark q.found.items ++ left_of_all keys marks places) two
      ∙ ap (λ l. l ++ left_of_all keys marks places) next
      ∙ ap (λ (q : Place). free.row ∷ left_rows keys number q.found.items ++ left_of_all keys marks places) (sym two)
  next_at (m ∷ marks) (p ∷ places) marked (suc n) number mark place at is none free =
      let here = marked 0 p refl in
      let three : m ≡ here.0 = (let e = here.1 in cc) in
      let long : m ≤ length p.found.items = subst (λ (n : ℕ). n ≤ length p.found.items) (sym three) here.2 in
      let empty : left_rows keys m p.found.items ≡ [] = none_in p.found.items m long (none 0 m p (omega arith) (omega arith) refl refl) in
      ap (λ l. l ++ left_of_all keys marks places) empty
      ∙ next_at marks places (λ i q e. marked (suc i) q e) n number mark place at is (λ i k q low high a b. none (suc i) k q (omega arith) (omega arith) a b) free
      ∙ ap (λ l. free.row ∷ l) (sym (ap (λ l. l ++ left_of_all keys (set marks n number) places) empty))

  pub next_left : (marks : List ℕ) (places : List Place) → AreMarked marks places → (spot : Spot) (at : IsNextAt locks s marks places 0 spot)
      → left_of_all keys marks places ≡ at.next.row ∷ left_of_all keys (set marks spot.place spot.row) places
  next_left marks places marked spot at = next_at marks places marked spot.place spot.row at.mark at.place at.placed at.marked at.before at.next

-- with the lowest marks none is left
pub left_lowest : (keys : List (Key × Mode)) (marks : List ℕ) (places : List Place) → left_of_all keys (lowest marks) places ≡ []
left_lowest keys [] places = refl
left_lowest keys (mark ∷ marks) [] = refl
left_lowest keys (mark ∷ marks) (place ∷ places) = ap (λ l. l ++ left_of_all keys (lowest marks) places) (left_low keys (min mark 1) place.found.items (omega arith)) ∙ left_lowest keys marks places
