-- What the calls on inodes need of their view.
use Rattle.std.specs.Prelude.{◌≡◌, ℕ, Bool, true, false, ◌+◌, ◌^◌, ◌<◌, List, length, slice_get, if◌then◌else◌, Option, Some, None, IfSome}
use Rattle.std.specs.List.{AllByRecursion}
use Rattle.hops_base.specs.declared.ids.ClientNo.{ClientNo}
use Rattle.hops_base.specs.declared.ids.InodeId.{InodeId}
use Rattle.name_space.specs.declared.call.Call.{Call}
use Rattle.name_space.specs.declared.call.Call.TheVariants as call
use Rattle.inode_table.specs.declared.inode.Inode.{Inode}
use Rattle.quota_table.specs.declared.quota.QuotaRow.{QuotaRow}
use Rattle.db_state.specs.declared.view.Place.{Place}
use Rattle.db_state.specs.declared.view.View.{View}
use Rattle.db_state.specs.declared.outcome.Outcome.{Outcome}
use Rattle.db_state.specs.CallsTable.{IsCallsTable}
use Rattle.db_state.specs.Current.{SpellsPlace}
use Rattle.db_state.specs.Effects.{KeepsOthers}
use Rattle.db_state.specs.Locked.{WritesOwn}
use Rattle.db_state.specs.Plan.{deepest}
use Rattle.inode_ops.specs.QuotaSteps.{first_full}
use Rattle.inode_ops.specs.Steps.{missing_names}

-- so many names more can be counted in each of the quota rows
abbrev pub CanRaise : ℕ → List (InodeId × QuotaRow) → Type 0
CanRaise names quotas = AllByRecursion (λ (q : InodeId × QuotaRow). q.1.used_names + names < 2 ^ 64) quotas

-- so many rows can be made below this one: the next free ids are above its own, there are as many of them, and so many names
-- can be counted
pub record HasRoom (above : Inode) (quotas : List (InodeId × QuotaRow)) (next names : ℕ) : Type 0 where
  pub below : above.id.0 < next
  pub ids : next + names < 2 ^ 64
  pub raise : CanRaise names quotas

-- there is room below this row for as many names as are missing, unless a quota refuses so many
abbrev pub HasRoomUnlessFull : Inode → Place → List (InodeId × QuotaRow) → ℕ → Type 0
HasRoomUnlessFull above place quotas next =
    first_full place.path place.found.items quotas (length (missing_names place)) ≡ None
    → HasRoom above quotas next (length (missing_names place))

-- where the place has a first missing key, there is such room below the last row found
abbrev pub CanMake : Place → List (InodeId × QuotaRow) → ℕ → Type 0
CanMake place quotas next = IfSome place.missing (λ at. IfSome (deepest place) (λ above. HasRoomUnlessFull above place quotas next))

-- the path of a call on inodes; a delete that goes below a directory is none
abbrev pub path_of : Call → Option (List (List ℕ))
path_of (call.Mkdirs path) = Some path
path_of (call.Stat path) = Some path
path_of (call.Create path overwrite) = Some path
path_of (call.Append path) = None
path_of (call.Grow path bytes) = None
path_of (call.Close path) = None
path_of (call.List path) = Some path
path_of (call.Delete path recursive) = if recursive then None else Some path
path_of (call.Rename source target) = None
path_of (call.Chmod path mode) = Some path
path_of (call.SetQuota path names bytes) = None
path_of (call.Usage path) = None

-- the call makes rows
abbrev pub makes_rows : Call → Bool
makes_rows (call.Mkdirs path) = true
makes_rows (call.Create path overwrite) = true
makes_rows asked = false

-- the place suits the call: its rows lead from the root along its path, and where the call makes rows, they can be made
pub record Suits (asked : Call) (place : Place) (quotas : List (InodeId × QuotaRow)) (next : ℕ) : Type 0 where
  pub spells : SpellsPlace place
  pub room : makes_rows asked ≡ true → CanMake place quotas next

-- the view has the one place that the call needs
pub record IsViewOf (view : View) (call : Call) : Type 0 where
  pub only : length view.places.items ≡ 1
  pub place : IfSome (slice_get view.places.items 0) (λ place.
      (path_of call ≡ Some place.path) × Suits call place view.quotas.items view.next.0)

-- the outcome is what the calls table says, whoever calls
abbrev pub IsTableOf : View → Call → Outcome → Type 0
IsTableOf view asked outcome = (client : ClientNo) (user : List ℕ) → IsCallsTable view client user asked outcome

-- the outcome writes no key but those that the call's plan locks and those in new directories, whoever calls
abbrev pub IsOwnOf : View → Call → Outcome → Type 0
IsOwnOf view asked outcome = (client : ClientNo) → WritesOwn view client asked outcome

-- the outcome's writes keep the rows that other sessions have read, whoever calls
abbrev pub IsKeptOf : View → Call → Outcome → Type 0
IsKeptOf view asked outcome = (client : ClientNo) → KeepsOthers view client asked outcome
