-- A plan is told by what is wanted.
use Rattle.std.proofs.Common.{◌≡◌, Bool, true, false, ◌&&◌, cond, T, List, [], ◌∷◌, Some, refl, sym, ap, ◌∙◌, subst, Less}
use Rattle.std.specs.FinMap.{from_sorted, entries-from_sorted, get-from_sorted, same_map, entries}
use Rattle.std.specs.FinMap.Entries.{find, is_sorted, below_all}
use Rattle.std.specs.List.{AllByRecursion}
use Rattle.std.specs.List.Sorted.{IsStrictlySortedBy}
use Rattle.std.specs.Map.{keys_of}
use Rattle.std.specs.Ordering.{is_lt}
use Rattle.hops_base.specs.declared.ids.Mode.{Mode}
use Rattle.hops_base.specs.declared.key.Key.{Key}
use Rattle.hops_base.specs.Key.{key_cmp, key_cmp_total, same_key}
use Rattle.hops_base.proofs.Tells.{key_cmp_exact}
use Rattle.row_locks.specs.Plans.{IsPlan, IsRising, planned_mode}

both : (a b : Bool) → T a → T b → T (a && b)
both true b p q = q
both false b p q = p

below_from : (k : Key) (plan : List (Key × Mode)) → AllByRecursion (λ q. key_cmp k q ≡ Less) (keys_of plan) → T (below_all key_cmp k plan)
below_from k [] all = tt
below_from k (p ∷ plan) all = both _ _ (subst (λ o. T (is_lt o)) (sym all.0) tt) (below_from k plan all.1)

sorted_from : (plan : List (Key × Mode)) → IsRising plan → T (is_sorted key_cmp plan)
unfolding IsStrictlySortedBy
sorted_from [] up = tt
sorted_from (p ∷ plan) up = both _ _ (below_from p.0 plan up.0) (sorted_from plan up.1)

find_planned : (key : Key) (plan : List (Key × Mode)) → find key_cmp key plan ≡ planned_mode plan key
find_planned key [] = refl
find_planned key (p ∷ plan) = ap (cond (same_key key p.0) (Some p.1)) (find_planned key plan)

-- plans that rise, and have each key in the same mode, are one
pub same_plans : (plan other : List (Key × Mode)) → IsRising plan → IsRising other → ((key : Key) → planned_mode plan key ≡ planned_mode other key) → plan ≡ other
same_plans plan other up up' same =
    let h = sorted_from plan up in
    let h' = sorted_from other up' in
    sym (entries-from_sorted key_cmp plan h)
    ∙ ap entries (same_map key_cmp_total key_cmp_exact (from_sorted plan) (from_sorted other) (λ key. get-from_sorted key_cmp plan key h ∙ find_planned key plan ∙ same key ∙ sym (find_planned key other) ∙ sym (get-from_sorted key_cmp other key h')))
    ∙ entries-from_sorted key_cmp other h'

pub one_plan : (wanted plan other : List (Key × Mode)) → IsPlan wanted plan → IsPlan wanted other → plan ≡ other
one_plan wanted plan other is same = same_plans plan other is.rising same.rising (λ key. is.modes key ∙ sym (same.modes key))
