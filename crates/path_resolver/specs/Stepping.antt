-- One step of a resolution, as its memory is taken before the session goes on. This crate's own.
use Rattle.std.specs.Prelude.{◌≡◌, ℕ, ◌+◌, ◌<◌, ◌≤◌, nat_le, if◌then◌else◌, false, List, [], ◌∷◌, ◌++◌, length, Option, Some, None, IfSome, option_map}
use Rattle.std.specs.FinMap as map
use Rattle.hops_base.specs.Roomy.{Roomy}
use Rattle.hops_base.specs.declared.ids.OpId.{OpId}
use Rattle.hops_base.specs.declared.key.Key.{Key}
use Rattle.inode_table.specs.declared.inode.Inode.{Inode}
use Rattle.name_space.specs.Namespace.{Path}
use Rattle.row_locks.specs.Plans.{IsPlan}
use Rattle.db_state.specs.declared.session.Position.{Position}
use Rattle.db_state.specs.declared.session.Session.{Session}
use Rattle.db_state.specs.declared.session.Stage.{Stage}
use Rattle.db_state.specs.declared.session.Stage.TheVariants.{Resolve, Lock}
use Rattle.db_state.specs.declared.view.Place.{Place}
use Rattle.db_state.specs.Moves.{hints_of}
use Rattle.db_state.specs.Plan.{plan}
use Rattle.db_state.specs.Steps.{no_items}
use Rattle.db_state.specs.Stored.{Inodes, Stored, root_key, root_row}
use Rattle.path_resolver.specs.declared.resolve.Resolve as answer
use Rattle.path_resolver.specs.declared.resolve.Resolve.TheVariants.{More, Found}
use Rattle.path_resolver.specs.declared.step.End.{End}
use Rattle.path_resolver.specs.declared.step.Lists.{Lists}
use Rattle.path_resolver.specs.declared.step.Look.{Look}
use Rattle.path_resolver.specs.declared.step.Step.{Step}
use Rattle.path_resolver.specs.Resolving.{begun, next_read, counted_for, IsResolved, IsUnresolved}

-- ---- one look

-- the row of a key, with it
abbrev pub row_at : Inodes → Option Key → Option (Key × Inode)
row_at inodes None = None
row_at inodes (Some at) = option_map (λ row. (at, row)) (map.get inodes at)

-- the key, where it has no row
abbrev pub gap_if : Key → Option Inode → Option Key
gap_if at None = Some at
gap_if at (Some row) = None

abbrev pub gap_at : Inodes → Option Key → Option Key
gap_at inodes None = None
gap_at inodes (Some at) = gap_if at (map.get inodes at)

-- one more row, if there is one
abbrev pub rows_after : List (Key × Inode) → Option (Key × Inode) → List (Key × Inode)
rows_after rows None = rows
rows_after rows (Some row) = rows ++ row ∷ []

-- what was looked for is told
pub record IsLook (inodes : Inodes) (next : Option Key) (look : Look) : Type 0 where
  pub row : look.row ≡ row_at inodes next
  pub missing : look.missing ≡ gap_at inodes next

-- ---- what a step is made of

-- the place of these rows
abbrev pub place_at : Path → List (Key × Inode) → Option Key → Place
place_at path rows missing = record { path = path; found = record { items = rows; room = 0 }; missing = missing; has_child = false }

-- the lists in which a path begins, with room for all rows of the path and for its place
pub record AreLists (path : Path) (lists : Lists) : Type 0 where
  pub places : lists.places.items ≡ []
  pub found : lists.found.items ≡ (root_key, root_row) ∷ []
  pub place_room : 1 ≤ lists.places.room
  pub room : length path + 1 ≤ lists.found.room

-- there are such lists exactly where no row was found yet
abbrev pub IsBegun : Path → List (Key × Inode) → Option Lists → Type 0
IsBegun path [] None = ⊥
IsBegun path [] (Some lists) = AreLists path lists
IsBegun path (row ∷ rows) lists = lists ≡ None

-- the path ends with these rows and this first missing key: with the plan and the trail of its place
pub record IsEndOf (doing : Session) (path : Path) (rows : List (Key × Inode)) (missing : Option Key) (end : End) : Type 0 where
  pub done : IsResolved path (rows, missing)
  pub of : end.path ≡ path
  pub planned : IsPlan (plan doing.client doing.call (place_at path rows missing ∷ [])) end.plan
  pub trail : end.trail.items ≡ hints_of (place_at path rows missing ∷ [])

-- it ends, or doesn't end yet
abbrev pub IsEnd : Session → Path → List (Key × Inode) → Option Key → Option End → Type 0
IsEnd doing path rows missing None = IsResolved path (rows, missing) → ⊥
IsEnd doing path rows missing (Some end) = IsEndOf doing path rows missing end

-- how long the book was just before the first read, once one more row is looked for: at this time, where no row but the root's was
-- found
abbrev pub since_by : Stored → Session → List (Key × Inode) → ℕ
since_by stored doing found = if nat_le (length found) 1 then length stored.notes else doing.since

-- a step of the session
pub record IsStepOf (stored : Stored) (doing : Session) (path : Path) (found : List (Key × Inode)) (step : Step) : Type 0 where
  pub since : step.since ≡ since_by stored doing found
  pub reads : step.reads ≡ counted_for path doing.reads
  pub lists : IsBegun path found step.begun
  pub look : IsLook stored.inodes (next_read path (begun found)) step.look
  pub end : IsEnd doing path (rows_after (begun found) step.look.row) step.look.missing step.end

-- so it is for whichever path the session resolves
abbrev pub IsStepBy : Stored → Session → Step → Type 0
IsStepBy stored doing step = (path : Path) (found : List (Key × Inode)) → IsUnresolved doing path found → IsStepOf stored doing path found step

-- ---- how it is taken

-- the lists to which the step adds
abbrev pub lists_for : Option Lists → Stage → Lists
lists_for (Some lists) stage = lists
lists_for None (Resolve places found) = record { places = places; found = found }
lists_for None other = record { places = no_items; found = no_items }

-- the list with the row that was read
abbrev pub list_after : Roomy (Key × Inode) → Option (Key × Inode) → Roomy (Key × Inode)
list_after found row = record found { items = rows_after found.items row }

-- the places with that of the path
abbrev pub placed : Roomy Place → Path → Roomy (Key × Inode) → Option Key → Roomy Place
placed places path found missing =
    record places { items = places.items ++ record { path = path; found = found; missing = missing; has_child = false } ∷ [] }

-- a session that has so far come, with these lists: it looks on, or its path has come to its end
abbrev pub come : Step → Position → Lists → Option End → Position
come step old lists None = record { since = step.since; reads = step.reads; trail = old.trail; stage = Resolve lists.places lists.found }
come step old lists (Some end) =
    record { since = step.since; reads = step.reads; trail = end.trail; stage = Lock (placed lists.places end.path lists.found step.look.missing) end.plan 0 }

-- the step is taken
abbrev pub taken : Step → Position → Position
taken step old =
    come step old (record { places = (lists_for step.begun old.stage).places; found = list_after (lists_for step.begun old.stage).found step.look.row }) step.end

-- the session resolves a path, and has room for the row and the place
pub record HasRoom (step : Step) (stage : Stage) : Type 0 where
  pub places : Roomy Place
  pub found : Roomy (Key × Inode)
  pub is : stage ≡ Resolve places found
  pub row : IfSome step.look.row (λ row. length (lists_for step.begun stage).found.items < (lists_for step.begun stage).found.room)
  pub place : IfSome step.end (λ end. length (lists_for step.begun stage).places.items < (lists_for step.begun stage).places.room)

-- the flag of the row that was read
abbrev pub flag_of : Option (Key × Inode) → Option OpId
flag_of None = None
flag_of (Some row) = row.1.flag

-- what a step tells that comes to this end
abbrev pub told_by : Option End → answer.Resolve
told_by None = More
told_by (Some end) = Found
