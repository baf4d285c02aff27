-- What a list of keys and modes is, once it was sorted and its equal keys were joined.
use Rattle.std.proofs.Common.{◌≡◌, ℕ, suc, ◌≤◌, ◌<◌, Bool, true, false, not, ◌&&◌, ◌||◌, cond, MatchBool, List, [], ◌∷◌, length, get_or, Option, Some, None, refl, sym, ap, ◌∙◌, inl, inr, arith, subst, Less, Equal, Greater, Ordering}
use Rattle.std.specs.List.{list_any, AllByRecursion}
use Rattle.std.specs.List.Sorted.{IsStrictlySortedBy, IsSortedBy, IsPermutation}
use Rattle.std.specs.List.Retain.{DedupsFrom, IsDeduped}
use Rattle.std.specs.Map.{keys_of}
use Rattle.std.specs.Ordering.{is_lt, is_eq, ordering_reverse}
use Rattle.std.specs.Cmp.{IsStrictWeakOrder, IsEquivalence, eq_by_cmp_equiv}
use Rattle.std.proofs.lemmas.List.Elements.{recursion_from_All}
use Rattle.std.proofs.lemmas.List.Sorted.{ranks_by, sorted_far, list_any-IsPermutation}
use Rattle.std.proofs.lemmas.Map.{lookup-none, NonePasses}
use Rattle.hops_base.specs.declared.ids.Mode.{Mode}
use Rattle.hops_base.specs.declared.ids.Mode.TheVariants.{Shared, Exclusive}
use Rattle.hops_base.specs.declared.key.Key.{Key}
use Rattle.hops_base.specs.Key.{key_cmp, key_cmp_total, same_key}
use Rattle.hops_base.proofs.Tells.{keys_tell}
use Rattle.row_locks.specs.Locks.{is_shared}
use Rattle.row_locks.specs.Plans.{IsPlan, is_of_key, is_exclusive_of, planned_mode, wanted_mode, stronger}

-- a pair is below another by its key
abbrev pub is_below : Key × Mode → Key × Mode → Bool
is_below p q = is_lt (key_cmp p.0 q.0)

pub weak : IsStrictWeakOrder is_below
weak = ranks_by key_cmp_total (λ (p : Key × Mode). p.0)

-- ---- pairs in order
-- no later pair is below an earlier one
abbrev pub Rises : List (Key × Mode) → Type 0
Rises [] = Unit {0}
Rises (p ∷ pairs) = AllByRecursion (λ q. is_below q p ≡ false) pairs × Rises pairs

rises_far : (pairs : List (Key × Mode)) → ((i j : ℕ) (d : Key × Mode) → i ≤ j → j < length pairs → is_below (get_or pairs j d) (get_or pairs i d) ≡ false) → Rises pairs
rises_far [] far = tt
rises_far (p ∷ pairs) far = (
  recursion_from_All (λ q. is_below q p ≡ false) pairs (λ k d h. far 0 (suc k) d (omega arith) (omega arith)),
  rises_far pairs (λ i j d le lt. far (suc i) (suc j) d (omega arith) (omega arith)),
)

-- what a sort leaves
pub rises_sorted : (pairs : List (Key × Mode)) → IsSortedBy is_below pairs → Rises pairs
rises_sorted pairs up = rises_far pairs (sorted_far is_below weak pairs up)

-- ---- equal keys are joined
-- the pairs after k, joined to it and to each other where keys are equal
abbrev pub joined : Key × Mode → List (Key × Mode) → List (Key × Mode)
joined k [] = k ∷ []
joined k (x ∷ pairs) = cond (same_key x.0 k.0) (joined (k.0, stronger k.1 x.1) pairs) (k ∷ joined x pairs)

-- the same of all pairs
abbrev pub IsJoined : List (Key × Mode) → List (Key × Mode) → Type 0
IsJoined [] left = left ≡ []
IsJoined (k ∷ pairs) left = left ≡ joined k pairs

module _ {S : Type 0} (R : S → Key × Mode → Key × Mode → Bool → S → Key × Mode → Key × Mode → Type 0)
    (says : (s : S) (x k : Key × Mode) (b : Bool) (t : S) (x' k' : Key × Mode) → R s x k b t x' k' → (b ≡ same_key x.0 k.0) × (x' ≡ x) × (k' ≡ (k.0, cond (same_key x.0 k.0) (stronger k.1 x.1) k.1))) where
  -- one pair beside the one that was kept last
  joined_next : (k x : Key × Mode) (pairs left : List (Key × Mode)) → ((t : S) (k' : Key × Mode) (rest : List (Key × Mode)) → DedupsFrom R t k' pairs rest → rest ≡ joined k' pairs)
      → (b : Bool) (t : S) (x' k' : Key × Mode) → (b ≡ same_key x.0 k.0) × (x' ≡ x) × (k' ≡ (k.0, cond (same_key x.0 k.0) (stronger k.1 x.1) k.1))
      → MatchBool b (DedupsFrom R t k' pairs left) ((rest : List (Key × Mode)) × DedupsFrom R t x' pairs rest × (left ≡ k' ∷ rest))
      → left ≡ joined k (x ∷ pairs)
  joined_next k x pairs left again true t x' k' h m = rw (← h.0) (again t k' left m ∙ ap (λ q. joined q pairs) (h.2 ∙ rw (← h.0) refl))
  joined_next k x pairs left again false t x' k' h m = rw (← h.0) (m.2 ∙ ap (λ q. q ∷ m.0) (h.2 ∙ rw (← h.0) refl) ∙ ap (λ qs. k ∷ qs) (again t x' m.0 m.1 ∙ ap (λ q. joined q pairs) h.1))

  joined_from : (s : S) (k : Key × Mode) (pairs left : List (Key × Mode)) → DedupsFrom R s k pairs left → left ≡ joined k pairs
  joined_from s k [] left d = d
  joined_from s k (x ∷ pairs) left d = joined_next k x pairs left (λ t k' rest m. joined_from t k' pairs rest m) d.0 d.1 d.2 d.3 (says s x k d.0 d.1 d.2 d.3 d.4) d.5

  -- what `dedup_by` leaves
  pub joined_all : (s : S) (pairs left : List (Key × Mode)) → IsDeduped R s pairs left → IsJoined pairs left
  joined_all s [] left d = d.told
  joined_all s (k ∷ pairs) left d = joined_from s k pairs left d.told

-- ---- what the joined pairs are
laws : IsEquivalence same_key
laws = eq_by_cmp_equiv key_cmp_total

-- the first key is that of k, and all others are above it
pub record StartsAt (k : Key) (pairs : List (Key × Mode)) : Type 0 where
  pub mode : Mode
  pub rest : List (Key × Mode)
  pub is : pairs ≡ (k, mode) ∷ rest
  pub above : AllByRecursion (λ q. key_cmp k q ≡ Less) (keys_of rest)
  pub rising : IsStrictlySortedBy key_cmp (keys_of rest)

above_more : (k x : Key) (keys : List Key) → key_cmp k x ≡ Less → AllByRecursion (λ q. key_cmp x q ≡ Less) keys → AllByRecursion (λ q. key_cmp k q ≡ Less) keys
above_more k x [] low all = tt
above_more k x (q ∷ keys) low all = (key_cmp_total.trans k x q low all.0, above_more k x keys low all.1)

rising_cons : (k : Key) (keys : List Key) → AllByRecursion (λ q. key_cmp k q ≡ Less) keys → IsStrictlySortedBy key_cmp keys → IsStrictlySortedBy key_cmp (k ∷ keys)
unfolding IsStrictlySortedBy
rising_cons k keys above rising = (above, rising)

rising_none : IsStrictlySortedBy key_cmp []
unfolding IsStrictlySortedBy
rising_none = tt

-- a key that isn't below and isn't the same is above
above_from : (x k : Key) → is_lt (key_cmp x k) ≡ false → same_key x k ≡ false → key_cmp k x ≡ Less
above_from x k low other = key_cmp_total.antisymm k x ∙ turned (key_cmp x k) low other
  where
    turned : (o : Ordering) → is_lt o ≡ false → is_eq o ≡ false → ordering_reverse o ≡ Less
    turned Less low other = absurd (let bad = low in cc)
    turned Equal low other = absurd (let bad = other in cc)
    turned Greater low other = refl

starts : (k : Key × Mode) (pairs : List (Key × Mode)) → Rises (k ∷ pairs) → StartsAt k.0 (joined k pairs)
starts k [] up = record { mode = k.1; rest = []; is = refl; above = tt; rising = rising_none }
starts k (x ∷ pairs) up = elim (same_key x.0 k.0) as (λ b. same_key x.0 k.0 ≡ b → StartsAt k.0 (cond b (joined (k.0, stronger k.1 x.1) pairs) (k ∷ joined x pairs))) [
  | true ↦ λ e. starts (k.0, stronger k.1 x.1) pairs (up.0.1, up.1.1)
  | false ↦ λ e. let after = starts x pairs up.1 in let low = above_from x.0 k.0 up.0.0 e in record {
    mode = k.1;
    rest = joined x pairs;
    is = refl;
    above = rw after.is (low, above_more k.0 x.0 (keys_of after.rest) low after.above);
    rising = rw after.is (rising_cons x.0 (keys_of after.rest) after.above after.rising);
  }
] refl

-- ---- in which modes they have the keys
-- the mode, where some pair is Exclusive, and where there is one
abbrev chosen : Bool → Bool → Option Mode
chosen exclusive any = cond exclusive (Some Exclusive) (cond any (Some Shared) None)

no_mode : (exclusive any : Bool) → chosen exclusive any ≡ None → (exclusive ≡ false) × (any ≡ false)
no_mode true any e = absurd (let bad = e in cc)
no_mode false true e = absurd (let bad = e in cc)
no_mode false false e = (refl, refl)

alone : (b : Bool) (mode : Mode) → cond b (Some mode) None ≡ chosen ((b && not (is_shared mode)) || false) (b || false)
alone true Shared = refl
alone true Exclusive = refl
alone false mode = refl

two_of_a_key : (b : Bool) (mode later : Mode) (exclusive any : Bool) → chosen ((b && not (is_shared (stronger mode later))) || exclusive) (b || any) ≡ chosen ((b && not (is_shared mode)) || ((b && not (is_shared later)) || exclusive)) (b || (b || any))
two_of_a_key true Shared Shared exclusive any = refl
two_of_a_key true Shared Exclusive exclusive any = refl
two_of_a_key true Exclusive later exclusive any = refl
two_of_a_key false mode later exclusive any = refl

-- a key below all others is none of them
none_above : (k : Key) (pairs : List (Key × Mode)) → AllByRecursion (λ q. key_cmp k q ≡ Less) (keys_of pairs) → NonePasses (same_key k) pairs
none_above k [] all = tt
none_above k (p ∷ pairs) all = (ap is_eq all.0, none_above k pairs all.1)

-- another key comes after k's
apart : (k : Key × Mode) (q : Key) (rest after : List (Key × Mode)) → NonePasses (same_key k.0) after → planned_mode after q ≡ wanted_mode rest q → cond (same_key q k.0) (Some k.1) (planned_mode after q) ≡ wanted_mode (k ∷ rest) q
apart k q rest after none is = elim (keys_tell q k.0) [
  | inl e ↦
      let unplanned : planned_mode after q ≡ None = subst (λ key. planned_mode after key ≡ None) (sym e.1) (lookup-none (same_key k.0) after none) in
      let unwanted = no_mode (list_any (is_exclusive_of q) rest) (list_any (is_of_key q) rest) (sym is ∙ unplanned) in
      rw (e.0, unwanted.0) (alone true k.1)
  | inr e ↦ rw e.0 is
]

modes : (k : Key × Mode) (pairs : List (Key × Mode)) → Rises (k ∷ pairs) → (q : Key) → planned_mode (joined k pairs) q ≡ wanted_mode (k ∷ pairs) q
modes k [] up q = alone (same_key q k.0) k.1
modes k (x ∷ pairs) up q = elim (keys_tell x.0 k.0) [
  | inl e ↦ rw e.0 (modes (k.0, stronger k.1 x.1) pairs (up.0.1, up.1.1) q ∙ two_of_a_key (same_key q k.0) k.1 x.1 (list_any (is_exclusive_of q) pairs) (list_any (is_of_key q) pairs)
      ∙ ap (λ y. chosen ((same_key q k.0 && not (is_shared k.1)) || ((same_key q y && not (is_shared x.1)) || list_any (is_exclusive_of q) pairs)) (same_key q k.0 || (same_key q y || list_any (is_of_key q) pairs))) (sym e.1))
  | inr e ↦ rw e.0 (
      let after = starts x pairs up.1 in
      let low = above_from x.0 k.0 up.0.0 e.0 in
      let none : NonePasses (same_key k.0) (joined x pairs) = rw after.is (none_above k.0 ((x.0, after.mode) ∷ after.rest) (low, above_more k.0 x.0 (keys_of after.rest) low after.above)) in
      apart k q (x ∷ pairs) (joined x pairs) none (modes x pairs up.1 q))
]

-- ---- the plan
permuted : (wanted sorted : List (Key × Mode)) → IsPermutation wanted sorted → (q : Key) → wanted_mode sorted q ≡ wanted_mode wanted q
permuted wanted sorted moved q = rw (list_any-IsPermutation (is_exclusive_of q) wanted sorted moved, list_any-IsPermutation (is_of_key q) wanted sorted moved) refl

pub plan_made : (wanted sorted left : List (Key × Mode)) → IsPermutation wanted sorted → Rises sorted → IsJoined sorted left → IsPlan wanted left
plan_made wanted [] left moved up is = rw is (record { rising = rising_none; modes = λ q. permuted wanted [] moved q })
plan_made wanted (k ∷ pairs) left moved up is = rw is (record {
  rising = let first = starts k pairs up in rw first.is (rising_cons k.0 (keys_of first.rest) first.above first.rising);
  modes = λ q. modes k pairs up q ∙ permuted wanted (k ∷ pairs) moved q;
})
