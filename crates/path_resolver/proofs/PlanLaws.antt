-- A plan locks what is wanted, and as it is wanted.
use Rattle.std.proofs.Common.{◌≡◌, ◌<◌, Bool, true, false, not, ◌&&◌, ◌||◌, cond, List, [], ◌∷◌, ◌++◌, length, Option, Some, None, is_some, arith, refl, sym, ap, subst, ◌∙◌, inl, inr, Less}
use Rattle.std.proofs.lemmas.Bool.{or_right}
use Rattle.std.proofs.lemmas.List.Folds.{list_any-append}
use Rattle.std.specs.List.{list_any, AllByRecursion}
use Rattle.std.specs.List.Sorted.{IsStrictlySortedBy}
use Rattle.std.specs.Map.{keys_of}
use Rattle.std.specs.Ordering.{is_eq}
use Rattle.std.specs.declared.cmp.Ordering.{Ordering}
use Rattle.hops_base.specs.declared.ids.ClientNo.{ClientNo}
use Rattle.hops_base.specs.declared.ids.Mode.{Mode}
use Rattle.hops_base.specs.declared.ids.Mode.TheVariants.{Shared, Exclusive}
use Rattle.hops_base.specs.declared.key.Key.{Key}
use Rattle.hops_base.specs.declared.key.Key.TheVariants as key
use Rattle.hops_base.specs.Key.{key_cmp, same_key}
use Rattle.hops_base.proofs.Tells.{keys_tell}
use Rattle.name_space.specs.declared.call.Call.{Call}
use Rattle.row_locks.specs.Locks.{is_shared}
use Rattle.row_locks.specs.Plans.{IsPlan, IsRising, is_of_key, is_exclusive_of, planned_mode, wanted_mode}
use Rattle.db_state.specs.declared.view.Place.{Place}
use Rattle.db_state.specs.Current.{is_locked}
use Rattle.db_state.specs.Holding.{AreSameLocks}
use Rattle.db_state.specs.Locked.{is_exclusive, is_own}
use Rattle.db_state.specs.Plan.{plan, path_keys}
use Rattle.db_state.specs.ReadSteps.{IsOfPath}
use Rattle.db_state.proofs.ReadsEndLaws.{plan_of_path}

abbrev own_of : Option Mode → Bool
own_of None = false
own_of (Some mode) = is_exclusive mode

-- ---- what a plan has

locked_planned : (keys : List (Key × Mode)) (at : Key) → is_locked keys at ≡ is_some (planned_mode keys at)
locked_planned [] at = refl
locked_planned (k ∷ keys) at = elim (same_key at k.0) as (λ b. (b || is_locked keys at) ≡ is_some (cond b (Some k.1) (planned_mode keys at))) [ true ↦ refl | false ↦ locked_planned keys at ]

above_none : (keys : List (Key × Mode)) (at : Key) → AllByRecursion (λ q. key_cmp at q ≡ Less) (keys_of keys) → is_own keys at ≡ false
above_none [] at all = refl
above_none (k ∷ keys) at all =
    let apart : same_key at k.0 ≡ false = ap (λ (o : Ordering). is_eq o) all.0 in
    let here : (is_exclusive k.1 && same_key at k.0) ≡ false = ap (λ b. is_exclusive k.1 && b) apart ∙ never (is_exclusive k.1) in
    ap (λ b. b || is_own keys at) here ∙ above_none keys at all.1
  where
    never : (b : Bool) → (b && false) ≡ false
    never true = refl
    never false = refl

own_planned : (keys : List (Key × Mode)) (at : Key) → IsRising keys → is_own keys at ≡ own_of (planned_mode keys at)
unfolding IsStrictlySortedBy
own_planned [] at rises = refl
own_planned (k ∷ keys) at rises = elim (keys_tell at k.0) [
  | inl h ↦
      let none : is_own keys at ≡ false = subst (λ (a : Key). is_own keys a ≡ false) (sym h.1) (above_none keys k.0 rises.0) in
      subst (λ b. ((is_exclusive k.1 && b) || is_own keys at) ≡ own_of (cond b (Some k.1) (planned_mode keys at))) (sym h.0)
      (ap (λ b. (is_exclusive k.1 && true) || b) none ∙ same (is_exclusive k.1))
  | inr h ↦
      subst (λ b. ((is_exclusive k.1 && b) || is_own keys at) ≡ own_of (cond b (Some k.1) (planned_mode keys at))) (sym h.0)
      (passed (is_exclusive k.1) (is_own keys at) ∙ own_planned keys at rises.1)
]
  where
    same : (b : Bool) → ((b && true) || false) ≡ b
    same true = refl
    same false = refl

    passed : (b c : Bool) → ((b && false) || c) ≡ c
    passed true c = refl
    passed false c = refl

-- ---- what is wanted

wanted_alone : (wanted : List (Key × Mode)) (at : Key) → list_any (is_exclusive_of at) wanted ≡ is_own wanted at
wanted_alone [] at = refl
wanted_alone (k ∷ wanted) at = ap (λ b. b || list_any (is_exclusive_of at) wanted) (turned (same_key at k.0) k.1) ∙ ap (λ b. (is_exclusive k.1 && same_key at k.0) || b) (wanted_alone wanted at)
  where
    turned : (b : Bool) (mode : Mode) → (b && not (is_shared mode)) ≡ (is_exclusive mode && b)
    turned true Shared = refl
    turned true Exclusive = refl
    turned false Shared = refl
    turned false Exclusive = refl

own_locked : (wanted : List (Key × Mode)) (at : Key) → list_any (is_exclusive_of at) wanted ≡ true → is_locked wanted at ≡ true
own_locked [] at e = e
own_locked (k ∷ wanted) at e = go (same_key at k.0) (not (is_shared k.1)) (own_locked wanted at) e
  where
    go : (b c : Bool) → (list_any (is_exclusive_of at) wanted ≡ true → is_locked wanted at ≡ true) → ((b && c) || list_any (is_exclusive_of at) wanted) ≡ true → (b || is_locked wanted at) ≡ true
    go true c more e = refl
    go false c more e = more e

locked_wanted : (wanted : List (Key × Mode)) (at : Key) → is_locked wanted at ≡ is_some (wanted_mode wanted at)
locked_wanted wanted at = go (list_any (is_exclusive_of at) wanted) (is_locked wanted at) (own_locked wanted at)
  where
    go : (a b : Bool) → (a ≡ true → b ≡ true) → b ≡ is_some (cond a (Some Exclusive) (cond b (Some Shared) None))
    go true b own = own refl
    go false true own = refl
    go false false own = refl

own_wanted : (wanted : List (Key × Mode)) (at : Key) → is_own wanted at ≡ own_of (wanted_mode wanted at)
own_wanted wanted at = sym (wanted_alone wanted at) ∙ go (list_any (is_exclusive_of at) wanted) (is_locked wanted at)
  where
    go : (a b : Bool) → a ≡ own_of (cond a (Some Exclusive) (cond b (Some Shared) None))
    go true b = refl
    go false true = refl
    go false false = refl

-- ---- both

-- the plan has the same locks
pub same_locks : (wanted keys : List (Key × Mode)) → IsPlan wanted keys → AreSameLocks keys wanted
same_locks wanted keys is = record {
  any = λ at. locked_wanted wanted at ∙ ap (λ (o : Option Mode). is_some o) (sym (is.modes at)) ∙ sym (locked_planned keys at);
  own = λ at. own_wanted wanted at ∙ ap own_of (sym (is.modes at)) ∙ sym (own_planned keys at is.rising);
}

itself : (k : Key) → same_key k k ≡ true
itself k = elim (keys_tell k k) [ inl h ↦ h.0 | inr h ↦ absurd (h.1 refl) ]

locks_reply : (client : ClientNo) (keys : List (Key × Mode)) → is_locked (keys ++ (key.Reply client, Exclusive) ∷ []) (key.Reply client) ≡ true
locks_reply client keys =
    list_any-append (is_of_key (key.Reply client)) keys ((key.Reply client, Exclusive) ∷ [])
    ∙ or_right (is_locked keys (key.Reply client)) (same_key (key.Reply client) (key.Reply client) || false) (ap (λ b. b || false) (itself (key.Reply client)))

-- it has a key: that of the client's reply
pub locks_some : (client : ClientNo) (call : Call) (place : Place) (keys : List (Key × Mode)) → IsOfPath call → IsPlan (plan client call (place ∷ [])) keys → 0 < length keys
locks_some client call place keys of is = go keys (sym ((same_locks (plan client call (place ∷ [])) keys is).any (key.Reply client)) ∙ subst (λ (ks : List (Key × Mode)). is_locked ks (key.Reply client) ≡ true) (sym (plan_of_path client call place of)) (locks_reply client (path_keys client call place ++ [])))
  where
    go : (ks : List (Key × Mode)) → is_locked ks (key.Reply client) ≡ true → 0 < length ks
    go [] e = absurd (let bad : false ≡ true = e in cc)
    go (k ∷ ks) e = omega arith
