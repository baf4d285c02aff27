-- What a table of rows is to its callers.
use Rattle.std.specs.Prelude.{Bool, not, ◌||◌, List, filter, refl}
use Rattle.std.specs.FinMap as map
use Rattle.std.specs.FinSet as set
use Rattle.std.specs.Coded.{Coded, code_by, coded×}
use Rattle.hops_base.specs.declared.key.Key.{Key}
use Rattle.hops_base.specs.Key.{key_cmp, coded_key}

-- the rows by key, and the keys that are ready for one
pub record Table (R : Type 0) : Type 0 where
  pub rows : map.FinMap key_cmp R
  pub ready : set.FinSet key_cmp

module _ {R : Type 0} where
  -- the key has a row or is ready for one
  abbrev pub has_place : Table R → Key → Bool
  has_place table key = map.contains_key table.rows key || set.contains table.ready key

  -- those of the keys that have no row
  abbrev pub rowless : map.FinMap key_cmp R → List Key → List Key
  rowless rows keys = filter (λ key. not (map.contains_key rows key)) keys

  -- the ready keys, once those of these keys are ready too that have no row
  unfoldable pub ready_with : Table R → List Key → set.FinSet key_cmp
  ready_with table keys = set.union table.ready (set.from_list (rowless table.rows keys))

  -- a table is stored as the pair of its fields
  abbrev pub coded_table : Coded R → Coded (Table R)
  coded_table row = code_by (map.FinMap key_cmp R × set.FinSet key_cmp) (coded× (map.code coded_key row) (set.code coded_key)) (λ t. (t.rows, t.ready)) (λ p. record { rows = p.0; ready = p.1 }) (λ _. refl)
