-- How the next row is sought that a session has left to read again. This crate's own.
use Rattle.std.specs.Prelude.{◌≡◌, ℕ, ◌+◌, ◌<◌, ◌≤◌, Bool, true, false, List, length, slice_get, slice_set, Option, Some, None, is_some}
use Rattle.hops_base.specs.declared.ids.SessionId.{SessionId}
use Rattle.hops_base.specs.declared.key.Key.{Key}
use Rattle.inode_table.specs.declared.inode.Inode.{Inode}
use Rattle.row_locks.specs.Locks.{Locks, mode_of}
use Rattle.db_state.specs.declared.view.Place.{Place}
use Rattle.chain_check.specs.declared.search.Spot.{Spot}

-- the session holds the key
abbrev pub is_held : Locks → SessionId → Key → Bool
is_held locks s key = is_some (mode_of locks s key)

-- the session holds each of these rows from one number on and below another
abbrev pub HoldsRows : Locks → SessionId → List (Key × Inode) → ℕ → ℕ → Type 0
HoldsRows locks s rows low high = (i : ℕ) (row : Key × Inode) → low ≤ i → i < high → slice_get rows i ≡ Some row → is_held locks s row.0 ≡ true

-- the row of this number isn't the root's, and is the last below the mark that the session doesn't hold
pub record IsFree (locks : Locks) (s : SessionId) (rows : List (Key × Inode)) (mark number : ℕ) : Type 0 where
  pub row : Key × Inode
  pub there : slice_get rows number ≡ Some row
  pub free : is_held locks s row.0 ≡ false
  pub low : 1 ≤ number
  pub high : number < mark
  pub passed : HoldsRows locks s rows (number + 1) mark

-- the number of the last such row, if there is one
abbrev pub IsLastFree : Locks → SessionId → List (Key × Inode) → ℕ → Option ℕ → Type 0
IsLastFree locks s rows mark None = HoldsRows locks s rows 1 mark
IsLastFree locks s rows mark (Some number) = IsFree locks s rows mark number

-- each place has a mark, which is no greater than the number of its rows
abbrev pub AreMarked : List ℕ → List Place → Type 0
AreMarked marks places = (i : ℕ) (place : Place) → slice_get places i ≡ Some place → (mark : ℕ) × (slice_get marks i ≡ Some mark) × (mark ≤ length place.found.items)

-- no row is left of the places from one number on and below another
abbrev pub LeavesNone : Locks → SessionId → List ℕ → List Place → ℕ → ℕ → Type 0
LeavesNone locks s marks places low high =
    (i mark : ℕ) (place : Place) → low ≤ i → i < high → slice_get marks i ≡ Some mark → slice_get places i ≡ Some place → HoldsRows locks s place.found.items 1 mark

-- the row at this spot is the next one that is left of the places from this number on
pub record IsNextAt (locks : Locks) (s : SessionId) (marks : List ℕ) (places : List Place) (from : ℕ) (spot : Spot) : Type 0 where
  pub place : Place
  pub mark : ℕ
  pub placed : slice_get places spot.place ≡ Some place
  pub marked : slice_get marks spot.place ≡ Some mark
  pub later : from ≤ spot.place
  pub before : LeavesNone locks s marks places from spot.place
  pub next : IsFree locks s place.found.items mark spot.row

-- where that row stands, if there is one
abbrev pub IsNext : Locks → SessionId → List ℕ → List Place → ℕ → Option Spot → Type 0
IsNext locks s marks places from None = LeavesNone locks s marks places from (length places)
IsNext locks s marks places from (Some spot) = IsNextAt locks s marks places from spot

-- whether any row is left of the places once the one at this spot isn't
abbrev pub LeavesAny : Locks → SessionId → List ℕ → List Place → Spot → Bool → Type 0
LeavesAny locks s marks places spot any = (next : Option Spot) × (any ≡ is_some next) × IsNext locks s (slice_set marks spot.place spot.row) places 0 next

-- there is a row at this spot
abbrev pub HasRow : List Place → Spot → Type 0
HasRow places spot = (place : Place) × (slice_get places spot.place ≡ Some place) × (spot.row < length place.found.items)
