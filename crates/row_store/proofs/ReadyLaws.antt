-- Which keys are ready once some of these keys are made ready.
use Rattle.std.proofs.Common.{◌≡◌, false, true, not, ◌&&◌, ◌||◌, List, refl, sym, ap, ◌∙◌}
use Rattle.std.specs.FinMap as map
use Rattle.std.specs.FinSet as set
use Rattle.std.specs.List.{list_any}
use Rattle.std.proofs.lemmas.Bool.{or_right}
use Rattle.std.proofs.lemmas.Map.Views.{any-filter_same, tells_apart}
use Rattle.hops_base.specs.declared.key.Key.{Key}
use Rattle.hops_base.specs.Key.{same_key, key_cmp_total}
use Rattle.hops_base.proofs.Tells.{key_cmp_exact}
use Rattle.row_store.specs.Table.{Table, rowless, ready_with}

module _ {R : Type 0} where
  -- those that were ready, and those of these keys that have no row
  pub contains-ready_with : (table : Table R) (keys : List Key) (q : Key) → set.contains (ready_with table keys) q ≡ (set.contains table.ready q || (not (map.contains_key table.rows q) && list_any (same_key q) keys))
  unfolding ready_with
  contains-ready_with table keys q =
      set.contains-union key_cmp_total table.ready (set.from_list (rowless table.rows keys)) q
      ∙ ap (λ b. set.contains table.ready q || b) (set.contains-from_list key_cmp_total (rowless table.rows keys) q
      ∙ any-filter_same (same_key q) (λ key. not (map.contains_key table.rows key)) (not (map.contains_key table.rows q)) (λ key same. ap (λ k. not (map.contains_key table.rows k)) (sym (tells_apart key_cmp_exact q key same))) keys)

  -- each of these keys that has no row
  pub ready_with-rowless : (table : Table R) (keys : List Key) (q : Key) → map.contains_key table.rows q ≡ false → list_any (same_key q) keys ≡ true → set.contains (ready_with table keys) q ≡ true
  ready_with-rowless table keys q none one =
      contains-ready_with table keys q ∙ (λ i. set.contains table.ready q || (not (none i) && one i)) ∙ or_right (set.contains table.ready q) _ refl
