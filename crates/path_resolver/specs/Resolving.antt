-- How a session finds the rows of its call's path, one by one. This project's own.
use Rattle.std.specs.Prelude.{◌≡◌, ◌≢◌, ◌⊎◌, ℕ, ◌+◌, ◌-◌, ◌≤◌, true, List, [], ◌∷◌, ◌++◌, length, slice_get, Option, Some, None, option_and_then, IfSome}
use Rattle.std.specs.FinMap as map
use Rattle.hops_base.specs.Devices.{counted_on}
use Rattle.hops_base.specs.declared.ids.Mode.{Mode}
use Rattle.hops_base.specs.declared.ids.SessionId.{SessionId}
use Rattle.hops_base.specs.declared.key.Key.{Key}
use Rattle.inode_table.specs.declared.inode.Inode.{Inode}
use Rattle.name_space.specs.Call.{paths_of}
use Rattle.name_space.specs.Namespace.{Path}
use Rattle.row_locks.specs.Plans.{IsPlan}
use Rattle.db_state.specs.declared.session.Session.{Session}
use Rattle.db_state.specs.declared.session.Stage.{Stage}
use Rattle.db_state.specs.declared.session.Stage.TheVariants.{Resolve, Lock}
use Rattle.db_state.specs.declared.view.Place.{Place}
use Rattle.db_state.specs.Current.{stops_at, is_unflagged}
use Rattle.db_state.specs.Moves.{hints_of, since_after}
use Rattle.db_state.specs.Plan.{last, plan}
use Rattle.db_state.specs.ReadSteps.{IsOfPath}
use Rattle.db_state.specs.State.{State}
use Rattle.db_state.specs.Steps.{moved_by, IsRunning}
use Rattle.db_state.specs.Stored.{Inodes, root_key, root_row}
use Rattle.path_resolver.specs.declared.resolve.Resolve as answer
use Rattle.path_resolver.specs.declared.resolve.Resolve.TheVariants.{More, Found, Flagged, NoMemory}

-- ---- one read

-- the rows found for a path so far: the root's, which needs no read, where none was found yet
abbrev pub begun : List (Key × Inode) → List (Key × Inode)
begun [] = (root_key, root_row) ∷ []
begun (row ∷ rows) = row ∷ rows

-- the key to be read below the last of these rows, that of the next name. None where the path ends there, and at a file
abbrev pub next_read : Path → List (Key × Inode) → Option Key
next_read path rows =
    option_and_then (λ (r : Key × Inode). option_and_then (stops_at r.1.kind r.1.id) (slice_get path (length rows - 1))) (last rows)

-- the rows of a path and its first missing key, once the row of this key was looked for below them
abbrev pub with_read : List (Key × Inode) → Key → Option Inode → List (Key × Inode) × Option Key
with_read rows at None = (rows, Some at)
with_read rows at (Some row) = (rows ++ (at, row) ∷ [], None)

-- they are the same where nothing is to be read
abbrev pub read_at : Inodes → List (Key × Inode) → Option Key → List (Key × Inode) × Option Key
read_at inodes rows None = (rows, None)
read_at inodes rows (Some at) = with_read rows at (map.get inodes at)

-- the rows found for a path and its first missing key, one read further
abbrev pub read_on : Inodes → Path → List (Key × Inode) → List (Key × Inode) × Option Key
read_on inodes path found = read_at inodes (begun found) (next_read path (begun found))

-- the path is resolved by them: a name is missing, or nothing is to be read below the last row
abbrev pub IsResolved : Path → List (Key × Inode) × Option Key → Type 0
IsResolved path got = (got.1 ≢ None) ⊎ (next_read path got.0 ≡ None)

-- the row that is read
abbrev pub row_read : Inodes → Path → List (Key × Inode) → Option Inode
row_read inodes path found = option_and_then (map.get inodes) (next_read path (begun found))

-- the count of reads after it: one more, up to the last number that there is; the path `/` needs none
abbrev pub counted_for : Path → ℕ → ℕ
counted_for [] reads = reads
counted_for (name ∷ names) reads = counted_on reads

-- ---- a session that resolves

-- a row is still to be read below the last of these, and it isn't the root's
pub record IsUnfinished (path : Path) (rows : List (Key × Inode)) : Type 0 where
  pub at : Key
  pub next : next_read path rows ≡ Some at
  pub other : at ≢ root_key

-- the session resolves the one path of its call, which isn't resolved yet: no row is found, or one is still to be read, and there is
-- room for all rows of the path and for its place
pub record IsUnresolved (doing : Session) (path : Path) (found : List (Key × Inode)) : Type 0 where
  pub of : IsOfPath doing.call
  pub one : paths_of doing.call ≡ path ∷ []
  pub room : ℕ
  pub place_room : ℕ
  pub stage : doing.stage ≡ Resolve (record { items = []; room = place_room }) (record { items = found; room = room })
  pub unfinished : (found ≡ []) ⊎ (IsUnfinished path found × (length path + 1 ≤ room) × (1 ≤ place_room))

-- it runs, and resolves so
abbrev pub CanResolve : State → SessionId → Type 0
CanResolve state s = (doing : Session) × (path : Path) × (found : List (Key × Inode)) × IsRunning state s doing × IsUnresolved doing path found

-- ---- what its step makes of it

-- without a note the session comes to this stage; the read is counted, and the book's length just before the attempt's first
-- read is kept
abbrev pub stepped : State → Session → Path → Stage → Session
stepped old doing path stage =
    record doing { since = since_after doing.stage doing.since (length old.stored.notes); reads = counted_for path doing.reads; stage = stage }

-- what is got by its next read: the rows found and the first missing key
abbrev pub got_by : State → Path → List (Key × Inode) → List (Key × Inode) × Option Key
got_by old path found = read_on old.stored.inodes path found

-- the row read bears no flag of another's operation
abbrev pub IsPlainRead : State → Path → List (Key × Inode) → Type 0
IsPlainRead old path found = IfSome (row_read old.stored.inodes path found) (λ row. is_unflagged None row.flag ≡ true)

-- it has read a row, below which more is to be read
pub record ReadsOne (old new : State) (s : SessionId) (doing : Session) (path : Path) (found : List (Key × Inode)) : Type 0 where
  pub after : Session
  pub room : ℕ
  pub place_room : ℕ
  pub unfinished : IsResolved path (got_by old path found) → ⊥
  pub plain : IsPlainRead old path found
  pub is : after ≡ stepped old doing path (Resolve (record { items = []; room = place_room }) (record { items = (got_by old path found).0; room = room }))
  pub unresolved : IsUnresolved after path (got_by old path found).0
  pub moved : new ≡ moved_by old s after

-- its path is resolved: it has the place, and a plan of the keys that its call locks, none of which it holds yet; and the trail
-- tells the rows of the place, but for the root's
pub record FindsAll (old new : State) (s : SessionId) (doing : Session) (path : Path) (found : List (Key × Inode)) : Type 0 where
  pub place : Place
  pub keys : List (Key × Mode)
  pub room : ℕ
  pub trail_room : ℕ
  pub done : IsResolved path (got_by old path found)
  pub plain : IsPlainRead old path found
  pub of : place.path ≡ path
  pub rows : place.found.items ≡ (got_by old path found).0
  pub missing : place.missing ≡ (got_by old path found).1
  pub planned : IsPlan (plan doing.client doing.call (place ∷ [])) keys
  pub moved : new ≡ moved_by old s (record (stepped old doing path (Lock (record { items = place ∷ []; room = room }) keys 0)) {
    trail = record { items = hints_of (place ∷ []); room = trail_room };
  })

-- so it is told
abbrev pub IsResolveStep : State → SessionId → Session → Path → List (Key × Inode) → answer.Resolve → State → Type 0
IsResolveStep old s doing path found More new = ReadsOne old new s doing path found
IsResolveStep old s doing path found Found new = FindsAll old new s doing path found
IsResolveStep old s doing path found (Flagged op) new = (row : Inode) × (row_read old.stored.inodes path found ≡ Some row) × (row.flag ≡ Some op) × (new ≡ old)
IsResolveStep old s doing path found NoMemory new = new ≡ old

-- of whichever session and path it is
abbrev pub Resolves : State → SessionId → answer.Resolve → State → Type 0
Resolves old s told new =
    (doing : Session) (path : Path) (found : List (Key × Inode)) → IsRunning old s doing → IsUnresolved doing path found → IsResolveStep old s doing path found told new
