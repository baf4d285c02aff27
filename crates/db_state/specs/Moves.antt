-- How a session goes on with its call without a note, and what it may find changed. This project's own.
use Rattle.std.specs.Prelude.{⊤, ◌≡◌, ◌≢◌, ℕ, ◌+◌, ◌≤◌, ◌==◌, true, not, nat_lt, if◌then◌else◌, List, [], ◌∷◌, ◌++◌, length, drop, take, reverse, slice_get, Option, Some, None, IsSome, IfSome}
use Rattle.std.specs.FinMap as map
use Rattle.std.specs.List.{count_by, filter, filter_map, flat_map, AllByRecursion}
use Rattle.hops_base.specs.Devices.{counted_on}
use Rattle.hops_base.specs.Key.{same_key}
use Rattle.hops_base.specs.declared.hint.Hint.{Hint}
use Rattle.hops_base.specs.declared.ids.Mode.{Mode}
use Rattle.hops_base.specs.declared.key.Key.{Key}
use Rattle.hops_base.specs.declared.key.Key.TheVariants as key
use Rattle.inode_table.specs.declared.inode.Inode.{Inode}
use Rattle.db_state.specs.declared.session.Stage.{Stage}
use Rattle.db_state.specs.declared.session.Stage.TheVariants.{Resolve, Lock, Read, Reread, Commit}
use Rattle.db_state.specs.declared.view.Place.{Place}
use Rattle.db_state.specs.Stored.{Inodes, Stored, root_key, root_row}
use Rattle.db_state.specs.Stands.{quota_of}
use Rattle.db_state.specs.Current.{is_locked}
use Rattle.db_state.specs.PlaceOf.{IsFound}
use Rattle.db_state.specs.Reads.{Reads}
use Rattle.db_state.specs.ReadSteps.{AllPairs, IsPlaceRead, IsFoundAgain, IsAsRead, last_marks}
use Rattle.db_state.specs.Stages.{places_in, rows_in, missing_in}

-- ---- what is counted of reads

-- how many rows and missing names a session has come upon in its attempt, but for the root's row, which needs no read
abbrev pub read_in : Stage → ℕ
read_in stage = count_by (λ (r : Key × Inode). not (same_key r.0 root_key)) (rows_in stage) + length (missing_in stage)

-- how long the book was just before the attempt's first read, once the session has gone on from this stage
abbrev pub since_after : Stage → ℕ → ℕ → ℕ
since_after stage since long = if read_in stage == 0 then long else since

-- how many steps have read to resolve paths, once the session has come from one stage to another: one more where it has come upon
-- more
abbrev pub reads_after : Stage → Stage → ℕ → ℕ
reads_after old new reads = if nat_lt (read_in old) (read_in new) then counted_on reads else reads

-- ---- what is told of a resolution

-- that a row has this id is told by its key
abbrev pub hint_of : Key × Inode → Option Hint
hint_of (key.Inode parent name, row) = Some (record { parent = parent; name = name; id = row.id })
hint_of (other, row) = None

-- what was found for these places, but for the root's row
abbrev pub hints_of : List Place → List Hint
hints_of places = flat_map (λ (place : Place). filter_map hint_of (drop 1 place.found.items)) places

-- the trail is what was found for the first path, where a resolution has come to its end, and else stays
abbrev pub IsTrail : Stage → Stage → List Hint → List Hint → Type 0
IsTrail (Resolve places found) (Lock places' keys taken) old new = new ≡ hints_of (take 1 places'.items)
IsTrail before after old new = new ≡ old

-- ---- rows are found

-- the second list has the first at its front
abbrev pub IsFrontOf : {A : Type 0} → List A → List A → Type 0
IsFrontOf {A} front all = (rest : List A) × (all ≡ front ++ rest)

-- the row is one of these
abbrev pub IsOneOf : List (Key × Inode) → Key × Inode → Type 0
IsOneOf rows row = (i : ℕ) × (slice_get rows i ≡ Some row)

-- what the session has found it keeps, in its order; it looks for one row more at most, and finds it there or nothing; and where
-- that begins a path, before it come the root's row, or rows that it has found for another
pub record LooksFor (inodes : Inodes) (old new : Stage) : Type 0 where
  pub again : List (Key × Inode)
  pub found : List (Key × Inode)
  pub missed : List Key
  pub places : IsFrontOf (places_in old) (places_in new)
  pub rows : rows_in new ≡ rows_in old ++ again ++ found
  pub gaps : missing_in new ≡ missing_in old ++ missed
  pub before : AllByRecursion (IsOneOf ((root_key, root_row) ∷ rows_in old)) again
  pub there : AllByRecursion (IsFound inodes) found
  pub gone : AllByRecursion (λ (at : Key). map.get inodes at ≡ None) missed
  pub one : length found + length missed ≤ 1

-- ---- rows are read again

-- the rows of a place that are neither locked nor read again yet, from the deepest upwards; the root's isn't read again
abbrev pub left_of : List (Key × Mode) → ℕ → Place → List (Key × Inode)
left_of keys mark place = reverse (filter (λ (r : Key × Inode). not (is_locked keys r.0)) (drop 1 (take mark place.found.items)))

-- those of all places, one place after another
abbrev pub left_of_all : List (Key × Mode) → List ℕ → List Place → List (Key × Inode)
left_of_all keys [] places = []
left_of_all keys (mark ∷ marks) [] = []
left_of_all keys (mark ∷ marks) (place ∷ places) = left_of keys mark place ++ left_of_all keys marks places

-- those that a session has left
abbrev pub left_in : List (Key × Mode) → Reads → List (Key × Inode)
left_in keys reads = left_of_all keys reads.marks reads.places

-- no mark rises
abbrev pub AreLowered : List ℕ → List ℕ → Type 0
AreLowered old new = AllPairs (λ (mark mark' : ℕ). mark' ≤ mark) old new

-- the next row that is left is as it was found, and isn't left any more; the reads are the same
pub record RereadsOne (inodes : Inodes) (keys : List (Key × Mode)) (old new : Reads) : Type 0 where
  pub row : Key × Inode
  pub left : left_in keys old ≡ row ∷ left_in keys new
  pub found : IsFoundAgain inodes row
  pub places : new.places ≡ old.places
  pub quotas : new.quotas ≡ old.quotas
  pub marks : AreLowered old.marks new.marks

-- the rows of these places were read again where they are locked
abbrev pub AreReadAgain : Inodes → List (Key × Mode) → List Place → List Place → Type 0
AreReadAgain inodes keys old new = AllPairs (IsPlaceRead inodes keys None) old new

-- the reads are the same, but for what the places say of a child
pub record AreLookedUp (old new : Reads) : Type 0 where
  pub places : AllPairs IsAsRead old.places new.places
  pub marks : new.marks ≡ old.marks
  pub quotas : new.quotas ≡ old.quotas

-- ---- from stage to stage

-- a session finds its rows; has a plan once all places are whole, of which it holds nothing yet; reads the rows that it has locked;
-- reads those above them again, one by one; and comes to answer once none of them is left. As it answers it looks up who has a child
abbrev pub GoesOn : Inodes → Stage → Stage → Type 0
GoesOn inodes (Resolve places found) (Resolve places' found') = LooksFor inodes (Resolve places found) (Resolve places' found')
GoesOn inodes (Resolve places found) (Lock places' keys taken) = LooksFor inodes (Resolve places found) (Lock places' keys taken) × (taken ≡ 0)
GoesOn inodes (Read places keys) (Reread reads keys') =
    AreReadAgain inodes keys places.items reads.places × (reads.marks ≡ last_marks reads.places) × (left_in keys reads ≢ []) × (keys' ≡ keys)
GoesOn inodes (Read places keys) (Commit reads keys') =
    AreReadAgain inodes keys places.items reads.places × (left_of_all keys (last_marks reads.places) reads.places ≡ []) × (keys' ≡ keys)
GoesOn inodes (Reread reads keys) (Reread reads' keys') = RereadsOne inodes keys reads reads' × (left_in keys reads' ≢ []) × (keys' ≡ keys)
GoesOn inodes (Reread reads keys) (Commit reads' keys') = RereadsOne inodes keys reads reads' × (left_in keys reads' ≡ []) × (keys' ≡ keys)
GoesOn inodes (Commit reads keys) (Commit reads' keys') = AreLookedUp reads reads' × (keys' ≡ keys)
GoesOn inodes old new = ⊥

-- ---- what isn't as it was found

-- what a session reads next is as it was found: under its locks, each row that it has locked, the quota row of each that was found
-- with a quota, and nothing at each missing name; after that the next row that is left
abbrev pub IsReadAsFound : Stored → Stage → Type 0
IsReadAsFound stored (Read places keys) =
    AllByRecursion (λ (r : Key × Inode). is_locked keys r.0 ≡ true → IsFoundAgain stored.inodes r) (rows_in (Read places keys))
    × AllByRecursion (λ (r : Key × Inode). r.1.has_quota ≡ true → is_locked keys (key.Quota r.1.id) ≡ true → IsSome (quota_of stored.quotas r.1.id)) (rows_in (Read places keys))
    × AllByRecursion (λ (at : Key). map.get stored.inodes at ≡ None) (missing_in (Read places keys))
IsReadAsFound stored (Reread reads keys) = IfSome (slice_get (left_in keys reads) 0) (IsFoundAgain stored.inodes)
IsReadAsFound stored stage = ⊤
