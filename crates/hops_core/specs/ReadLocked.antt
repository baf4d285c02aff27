-- What is told of the reading of what a session has locked. This project's own.
use Rattle.std.specs.Prelude.{◌≡◌, ⊤, ℕ, ◌-◌, ◌≤◌, min, nat_le, Bool, true, false, ◌&&◌, is_none, is_some, if◌then◌else◌, List, [], ◌∷◌, length, Option, Some, None, Result, Ok, Err}
use Rattle.std.specs.FinMap as map
use Rattle.std.specs.Global.{Vec}
use Rattle.std.specs.List.{AllByRecursion}
use Rattle.hops_base.specs.declared.ids.Mode.{Mode}
use Rattle.hops_base.specs.declared.ids.SessionId.{SessionId}
use Rattle.hops_base.specs.declared.key.Key.{Key}
use Rattle.inode_table.specs.declared.inode.Inode.{Inode}
use Rattle.chain_check.specs.Search.{is_held, IsLastFree}
use Rattle.db_state.specs.declared.session.Position.{Position}
use Rattle.db_state.specs.declared.session.Session.{Session}
use Rattle.db_state.specs.declared.session.Stage.{Stage}
use Rattle.db_state.specs.declared.session.Stage.TheVariants.{Read, Reread, Commit}
use Rattle.db_state.specs.declared.view.Place.{Place}
use Rattle.db_state.specs.Current.{IsMissing}
use Rattle.db_state.specs.Moves.{IsReadAsFound}
use Rattle.db_state.specs.Reads.{Reads}
use Rattle.db_state.specs.ReadSteps.{AllPairs, IsFoundAgain, SameRow}
use Rattle.db_state.specs.State.{State}
use Rattle.db_state.specs.Steps.{IsRunning}
use Rattle.hops_core.specs.declared.read.Again.{Again}
use Rattle.hops_core.specs.declared.read.Halt.{Halt}
use Rattle.hops_core.specs.declared.read.Halt.TheVariants as halt
use Rattle.hops_core.specs.declared.read.Locked as answer
use Rattle.hops_core.specs.declared.read.Locked.TheVariants.{AsFound, Changed, NoMemory}
use Rattle.hops_core.specs.Reading.{Moves}

-- ---- the step

-- the session has gone on, where all is as it was found; it isn't; or memory ran out
abbrev pub IsLocked : State → SessionId → Session → answer.Locked → State → Type 0
IsLocked old s doing AsFound new = Moves old new s doing
IsLocked old s doing Changed new = (IsReadAsFound old.stored doing.stage → ⊥) × (new ≡ old)
IsLocked old s doing NoMemory new = new ≡ old

-- of whichever session it is
abbrev pub ReadsLocked : State → SessionId → answer.Locked → State → Type 0
ReadsLocked old s told new = (doing : Session) → IsRunning old s doing → IsLocked old s doing told new

-- ---- what is read

-- the session is to read what it has locked, and has this one place and these keys
pub record IsOne (stage : Stage) (place : Place) (keys : List (Key × Mode)) : Type 0 where
  pub room : ℕ
  pub here : stage ≡ Read (record { items = place ∷ []; room = room }) keys

-- it has some place
abbrev pub HasOne : Stage → Type 0
HasOne stage = (place : Place) × (keys : List (Key × Mode)) × IsOne stage place keys

-- it runs, and has one
abbrev pub HasRead : State → SessionId → Type 0
HasRead state s = (doing : Session) × IsRunning state s doing × HasOne doing.stage

-- a row that was found: where its key isn't held it isn't read; where it is, the table has it, and it is as it was found
abbrev pub IsRow : State → SessionId → Key × Inode → Option Inode → Type 0
IsRow state s found None = is_held state.locks s found.0 ≡ false
IsRow state s found (Some now) = (is_held state.locks s found.0 ≡ true) × (map.get state.stored.inodes found.0 ≡ Some now) × SameRow found.1 now

-- a row whose key is held is there as it was found
abbrev pub IsHeldAgain : State → SessionId → Key × Inode → Type 0
IsHeldAgain state s found = is_held state.locks s found.0 ≡ true → IsFoundAgain state.stored.inodes found

-- what is told of a row
abbrev pub IsRead : State → SessionId → Key × Inode → Result (Option Inode) Halt → Type 0
IsRead state s found (Ok row) = IsRow state s found row
IsRead state s found (Err halt.Changed) = IsHeldAgain state s found → ⊥
IsRead state s found (Err halt.NoMemory) = ⊤

-- what is told of rows
abbrev pub AreRead : State → SessionId → List (Key × Inode) → Result (Vec (Option Inode)) Halt → Type 0
AreRead state s found (Ok rows) = AllPairs (IsRow state s) found rows.items
AreRead state s found (Err halt.Changed) = AllByRecursion (IsHeldAgain state s) found → ⊥
AreRead state s found (Err halt.NoMemory) = ⊤

-- the number of the last row, or the lowest where no row is left above it
abbrev pub mark_of : ℕ → Bool → ℕ
mark_of last left = if left then last else min last 1

-- how long the book was just before the attempt's first read, which the root's row alone doesn't need
abbrev pub since_of : Place → ℕ → ℕ → ℕ
since_of place since long = if nat_le (length place.found.items) 1 && is_none place.missing then long else since

-- whether a row above the last is left
abbrev pub IsLeft : State → SessionId → Place → Bool → Type 0
IsLeft state s place left = (next : Option ℕ) × (left ≡ is_some next) × IsLastFree state.locks s place.found.items (length place.found.items - 1) next

-- all that was read of a place
pub record IsAgain (state : State) (s : SessionId) (place : Place) (since : ℕ) (again : Again) : Type 0 where
  pub rows : AllPairs (IsRow state s) place.found.items again.rows.items
  pub missing : IsMissing state.stored.inodes place.missing
  pub left : IsLeft state s place again.left
  pub marks : again.marks.items ≡ mark_of (length place.found.items - 1) again.left ∷ []
  pub began : again.since ≡ since_of place since (length state.stored.notes)

-- all that is locked of a place is as it was found
pub record IsUnchanged (state : State) (s : SessionId) (place : Place) : Type 0 where
  pub rows : AllByRecursion (IsHeldAgain state s) place.found.items
  pub missing : IsMissing state.stored.inodes place.missing

-- what is told of a place
abbrev pub IsLook : State → SessionId → Place → ℕ → Result Again Halt → Type 0
IsLook state s place since (Ok again) = IsAgain state s place since again
IsLook state s place since (Err halt.Changed) = IsUnchanged state s place → ⊥
IsLook state s place since (Err halt.NoMemory) = ⊤

-- so it is told of the session's one place
abbrev pub Looks : State → SessionId → Result Again Halt → Type 0
Looks state s told = (doing : Session) (place : Place) (keys : List (Key × Mode)) → IsRunning state s doing → IsOne doing.stage place keys → IsLook state s place doing.since told

-- ---- how the session goes on

-- a row that was read once more is put under its key
abbrev pub put : Key × Inode → Option Inode → Key × Inode
put found None = found
put found (Some now) = (found.0, now)

-- so it is with each row
abbrev pub refreshed : List (Key × Inode) → List (Option Inode) → List (Key × Inode)
refreshed [] rows = []
refreshed (row ∷ found) [] = row ∷ found
refreshed (row ∷ found) (now ∷ rows) = put row now ∷ refreshed found rows

-- so it is in a place
abbrev pub refreshed_place : Place → List (Option Inode) → Place
refreshed_place place rows = record place { found = record { items = refreshed place.found.items rows; room = length (refreshed place.found.items rows) } }

-- there is one place, and there are no more rows read than it has
abbrev pub AreRowsOf : List Place → List (Option Inode) → Type 0
AreRowsOf places rows = (place : Place) × (places ≡ place ∷ []) × (length rows ≤ length place.found.items)

-- so it is at the stage
abbrev pub AreRowsAt : Stage → List (Option Inode) → Type 0
AreRowsAt stage rows = (place : Place) × (keys : List (Key × Mode)) × IsOne stage place keys × (length rows ≤ length place.found.items)

-- what the session has then read
abbrev pub reads_of : Place → Again → Reads
reads_of place again = record { places = refreshed_place place again.rows.items ∷ []; marks = again.marks.items; quotas = [] }

-- the stage to which it comes
abbrev pub stage_of : Place → List (Key × Mode) → Again → Stage
stage_of place keys again = if again.left then Reread (reads_of place again) keys else Commit (reads_of place again) keys

-- so the session has gone on
pub record IsGone (old : Position) (again : Again) (new : Position) (told : answer.Locked) (place : Place) (keys : List (Key × Mode)) : Type 0 where
  pub position : new ≡ record old { since = again.since; stage = stage_of place keys again }
  pub answer : told ≡ AsFound

abbrev pub GoesTo : Position → Again → Position → answer.Locked → Type 0
GoesTo old again new told = (place : Place) (keys : List (Key × Mode)) → IsOne old.stage place keys → IsGone old again new told place keys
