-- Laws of reads that stand as their marks are lowered.
use Rattle.std.proofs.Common.{◌≡◌, ℕ, ◌<◌, ◌≤◌, zero, suc, min, List, [], ◌∷◌, length, set, slice_get, Some, arith, refl, sym, subst, ◌∙◌, inl, inr, add-one}
use Rattle.hops_base.specs.declared.ids.Mode.{Mode}
use Rattle.hops_base.specs.declared.ids.SessionId.{SessionId}
use Rattle.hops_base.specs.declared.key.Key.{Key}
use Rattle.row_locks.specs.Locks.{Locks}
use Rattle.db_state.specs.declared.view.Place.{Place}
use Rattle.db_state.specs.Stored.{Inodes}
use Rattle.db_state.specs.Current.{is_locked}
use Rattle.db_state.specs.Moves.{AreLowered}
use Rattle.db_state.specs.Reads.{AllRead, AllStand, ChainStands}
use Rattle.db_state.specs.ReadSteps.{IsFoundAgain}
use Rattle.db_state.proofs.ReadsAgainLaws.{passed_over, reread}
use Rattle.chain_check.specs.declared.search.Spot.{Spot}
use Rattle.chain_check.specs.Passing.{lowest}
use Rattle.chain_check.specs.Search.{is_held, HoldsRows, IsFree, AreMarked, LeavesNone, IsNextAt}
use Rattle.chain_check.proofs.SpotLaws.{order}
use Rattle.chain_check.proofs.LeftLaws.{some_at}

-- ---- marks

-- where places stand, each has a mark
pub marked_by : (inodes : Inodes) (locked : List (Key × Mode)) (marks : List ℕ) (places : List Place) → AllStand inodes locked marks places → AreMarked marks places
marked_by inodes locked marks [] stand i place is = absurd (let bad = is in cc)
marked_by inodes locked [] (p ∷ places) stand i place is = absurd stand
marked_by inodes locked (m ∷ marks) (p ∷ places) stand zero place is =
    let same : p ≡ place = cc in
    let low : m < length p.found.items = stand.0.some in
    (m, refl, subst (λ (q : Place). m ≤ length q.found.items) same (omega arith))
marked_by inodes locked (m ∷ marks) (p ∷ places) stand (suc i) place is = marked_by inodes locked marks places stand.1 i place is

-- no mark is above itself, or above one that it was set to
lowered_same : (marks : List ℕ) → AreLowered marks marks
lowered_same [] = tt
lowered_same (m ∷ marks) = (omega arith, lowered_same marks)

pub lowered_set : (marks : List ℕ) (i mark low : ℕ) → slice_get marks i ≡ Some mark → low ≤ mark → AreLowered marks (set marks i low)
lowered_set [] i mark low is fits = absurd (let bad = is in cc)
lowered_set (m ∷ marks) zero mark low is fits = let same : m ≡ mark = cc in (omega arith, lowered_same marks)
lowered_set (m ∷ marks) (suc i) mark low is fits = (omega arith, lowered_set marks i mark low is fits)

pub lowered_lowest : (old new : List ℕ) → AreLowered old new → AreLowered old (lowest new)
lowered_lowest [] [] all = tt
lowered_lowest [] (n ∷ new) all = absurd all
lowered_lowest (o ∷ old) [] all = absurd all
lowered_lowest (o ∷ old) (n ∷ new) all = (let low : n ≤ o = all.0 in omega arith, lowered_lowest old new all.1)

-- the lowest marks are those of reads that are read again
pub all_lowest : (marks : List ℕ) → AllRead (lowest marks)
all_lowest [] = tt
all_lowest (m ∷ marks) = (omega arith, all_lowest marks)

-- ---- places

-- a mark is set
pub stand_set : (inodes : Inodes) (locked : List (Key × Mode)) (marks : List ℕ) (places : List Place) (i mark low : ℕ) (place : Place) → slice_get marks i ≡ Some mark → slice_get places i ≡ Some place
    → (ChainStands inodes locked mark place → ChainStands inodes locked low place) → AllStand inodes locked marks places → AllStand inodes locked (set marks i low) places
stand_set inodes locked marks [] i mark low place at is step stand = tt
stand_set inodes locked [] (p ∷ places) i mark low place at is step stand = absurd stand
stand_set inodes locked (m ∷ marks) (p ∷ places) zero mark low place at is step stand =
    let one : m ≡ mark = cc in
    let same : p ≡ place = cc in
    (subst (λ (q : Place). ChainStands inodes locked low q) (sym same) (step (subst (λ (q : Place). ChainStands inodes locked mark q) same (subst (λ (n : ℕ). ChainStands inodes locked n p) one stand.0))), stand.1)
stand_set inodes locked (m ∷ marks) (p ∷ places) (suc i) mark low place at is step stand = (stand.0, stand_set inodes locked marks places i mark low place at is step stand.1)

module _ (inodes : Inodes) (locks : Locks) (s : SessionId) (locked : List (Key × Mode)) (holds : (at : Key) → is_held locks s at ≡ is_locked locked at) where
  -- held rows are passed over
  over_held : (place : Place) (low mark : ℕ) → low ≤ mark → HoldsRows locks s place.found.items low mark → ChainStands inodes locked mark place → ChainStands inodes locked low place
  over_held place low zero fits held stands = let same : 0 ≡ low = omega arith in subst (λ (n : ℕ). ChainStands inodes locked n place) same stands
  over_held place low (suc mark) fits held stands = elim (order low (suc mark)) [
    | inl h ↦
        (let some : suc mark < length place.found.items = stands.some in
        let at = some_at place.found.items mark (omega arith) in
        over_held place low mark (omega arith) (λ i row a b. held i row a (omega arith))
        (passed_over inodes locked mark place stands at.0 at.1 (sym (holds at.0.0) ∙ held mark at.0 (omega arith) (omega arith) at.1)))
    | inr h ↦ elim h [ inl e ↦ subst (λ (n : ℕ). ChainStands inodes locked n place) (sym e) stands | inr g ↦ absurd (omega arith) ]
  ]

  -- and then one that is found again
  over_found : (place : Place) (mark number : ℕ) (free : IsFree locks s place.found.items mark number) → IsFoundAgain inodes free.row → ChainStands inodes locked mark place → ChainStands inodes locked number place
  over_found place mark number free again stands =
      let high : number < mark = free.high in
      let below = over_held place (suc number) mark (omega arith) (subst (λ (n : ℕ). HoldsRows locks s place.found.items n mark) (add-one number) free.passed) stands in
      reread inodes locked number place below free.row free.there (sym (holds free.row.0) ∙ free.free) again

  -- the places stand with the next row read again
  pub stand_past : (marks : List ℕ) (places : List Place) (spot : Spot) (at : IsNextAt locks s marks places 0 spot) → IsFoundAgain inodes at.next.row → AllStand inodes locked marks places
      → AllStand inodes locked (set marks spot.place spot.row) places
  stand_past marks places spot at again stand =
      stand_set inodes locked marks places spot.place at.mark spot.row at.place at.marked at.placed (over_found at.place at.mark spot.row at.next again) stand

  -- and once none is left, with the lowest marks
  pub stand_lowest : (marks : List ℕ) (places : List Place) → LeavesNone locks s marks places 0 (length places) → AllStand inodes locked marks places → AllStand inodes locked (lowest marks) places
  stand_lowest marks [] none stand = tt
  stand_lowest [] (p ∷ places) none stand = absurd stand
  stand_lowest (m ∷ marks) (p ∷ places) none stand =
      (go m (none 0 m p (omega arith) (omega arith) refl refl) stand.0, stand_lowest marks places (λ i k q low high a b. none (suc i) k q (omega arith) (omega arith) a b) stand.1)
    where
      go : (mark : ℕ) → HoldsRows locks s p.found.items 1 mark → ChainStands inodes locked mark p → ChainStands inodes locked (min mark 1) p
      go zero held stands = stands
      go (suc mark) held stands =
          let one : 1 ≡ min (suc mark) 1 = omega arith in
          subst (λ (n : ℕ). ChainStands inodes locked n p) one (over_held p 1 (suc mark) (omega arith) held stands)
