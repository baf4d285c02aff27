-- Which keys have their place in the tables. This project's own.
use Rattle.std.specs.Prelude.{◌≡◌, Bool, true, false, Option, Some, None}
use Rattle.hops_base.specs.declared.key.Key.{Key}
use Rattle.hops_base.specs.Key.{same_key}
use Rattle.row_store.specs.Table as store
use Rattle.row_store.specs.Table.{has_place}
use Rattle.db_state.specs.Stored as seen
use Rattle.db_state.specs.declared.tables.Tables.{Tables}
use Rattle.db_state.specs.declared.writes.Row.{Row}
use Rattle.db_state.specs.declared.writes.Row.TheVariants as row

-- the rows of the tables, without their ready keys
abbrev pub rows_of : Tables → seen.Tables
rows_of tables = record { inodes = tables.inodes.rows; quotas = tables.quotas.rows }

-- a row may be put under this key without memory, where one is to be put
abbrev pub is_placed : Tables → Key × Option Row → Bool
is_placed tables (at, None) = true
is_placed tables (at, Some (row.Inode inode)) = has_place tables.inodes at
is_placed tables (at, Some (row.Quota quota)) = has_place tables.quotas at

module _ {R : Type 0} where
  -- every key of a table but this one has its place as before
  abbrev pub SameOfTable : Key → store.Table R → store.Table R → Type 0
  SameOfTable at old new = (other : Key) → same_key at other ≡ false → has_place new other ≡ has_place old other

  -- no key of a table loses its place
  abbrev pub KeptOfTable : store.Table R → store.Table R → Type 0
  KeptOfTable old new = (other : Key) → has_place old other ≡ true → has_place new other ≡ true

-- every key but this one has its places as before
abbrev pub SamePlaces : Key → Tables → Tables → Type 0
SamePlaces at old new = SameOfTable at old.inodes new.inodes × SameOfTable at old.quotas new.quotas

-- no key loses its place
abbrev pub KeepsPlaces : Tables → Tables → Type 0
KeepsPlaces old new = KeptOfTable old.inodes new.inodes × KeptOfTable old.quotas new.quotas
