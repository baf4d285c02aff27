-- What a session has read for its call, and what of it still stands in the rows. This project's own.
use Rattle.std.specs.Prelude.{⊤, ◌≡◌, ◌≢◌, ℕ, ◌<◌, ◌≤◌, true, List, [], ◌∷◌, map as list_map, length, drop, slice_get, Option, Some}
use Rattle.std.specs.FinMap as map
use Rattle.std.specs.List.{list_all, AllByRecursion}
use Rattle.hops_base.specs.declared.ids.ClientNo.{ClientNo}
use Rattle.hops_base.specs.declared.ids.InodeId.{InodeId}
use Rattle.hops_base.specs.declared.ids.Mode.{Mode}
use Rattle.hops_base.specs.declared.ids.OpId.{OpId}
use Rattle.hops_base.specs.declared.key.Key.{Key}
use Rattle.name_space.specs.declared.call.Call.{Call}
use Rattle.inode_table.specs.declared.inode.Inode.{Inode}
use Rattle.quota_table.specs.declared.quota.QuotaRow.{QuotaRow}
use Rattle.db_state.specs.declared.view.Place.{Place}
use Rattle.db_state.specs.Stored.{Inodes, Quotas, root_key, root_row}
use Rattle.db_state.specs.Plan.{plan}
use Rattle.db_state.specs.Current.{SpellsPlace, places_of, is_locked, is_unflagged, IsThere, IsMissing, SeesQuotas}

-- ---- what is asked, and what was read for it

-- a client's call as a session carries it out, with the session's own running operation, if it has one
pub record Asked : Type 0 where
  pub client : ClientNo
  pub call : Call
  pub own : Option OpId

-- what a session has read in its present attempt: a place for each path of its call; for each place its mark, the number of
-- the row from which on every row is locked or was read again; and the quota rows at the locked quota keys
pub record Reads : Type 0 where
  pub places : List Place
  pub marks : List ℕ
  pub quotas : List (InodeId × QuotaRow)

-- the keys that the call locks, by what was read for it
abbrev pub locked_by : Asked → Reads → List (Key × Mode)
locked_by asked reads = plan asked.client asked.call reads.places

-- every row of each place but the root's is locked or was read again
abbrev pub AllRead : List ℕ → Type 0
AllRead marks = AllByRecursion (λ (mark : ℕ). mark ≤ 1) marks

-- ---- the reads by themselves

-- there are rows, and the last of them is locked
abbrev pub EndsLocked : List (Key × Mode) → List (Key × Inode) → Type 0
EndsLocked locked [] = ⊥
EndsLocked locked (row ∷ []) = is_locked locked row.0 ≡ true
EndsLocked locked (row ∷ next ∷ rows) = EndsLocked locked (next ∷ rows)

-- what was read for one path: its rows lead along the path, from the root's row, which never changes, down to one that is
-- locked; and none of them bears the flag of an operation that isn't the session's own
pub record IsChain (locked : List (Key × Mode)) (own : Option OpId) (place : Place) : Type 0 where
  pub spells : SpellsPlace place
  pub root : slice_get place.found.items 0 ≡ Some (root_key, root_row)
  pub ends : EndsLocked locked place.found.items
  pub unflagged : list_all (λ (r : Key × Inode). is_unflagged own r.1.flag) place.found.items ≡ true

-- what was read for a call: a place for each of its paths, each read so under the keys that the call locks
pub record AreReads (asked : Asked) (reads : Reads) : Type 0 where
  pub places : list_map (λ (place : Place). place.path) reads.places ≡ places_of asked.call reads.places
  pub chains : AllByRecursion (IsChain (locked_by asked reads) asked.own) reads.places

-- ---- the reads against the rows

-- where the row that was found is locked, the table has it as it was found
abbrev pub IsHeldRow : Inodes → List (Key × Mode) → Key × Inode → Type 0
IsHeldRow inodes locked found = is_locked locked found.0 ≡ true → map.get inodes found.0 ≡ Some found.1

-- what was read for one path stands: there is a row at the mark, and from it on each row is there as it was found; each
-- locked row is there, wherever it stands; and nothing is at the first missing key
pub record ChainStands (inodes : Inodes) (locked : List (Key × Mode)) (mark : ℕ) (place : Place) : Type 0 where
  pub some : mark < length place.found.items
  pub part : AllByRecursion (IsThere inodes locked) (drop mark place.found.items)
  pub held : AllByRecursion (IsHeldRow inodes locked) place.found.items
  pub missing : IsMissing inodes place.missing

-- each place has a mark, and stands from it on
abbrev pub AllStand : Inodes → List (Key × Mode) → List ℕ → List Place → Type 0
AllStand inodes locked marks [] = ⊤
AllStand inodes locked [] (place ∷ places) = ⊥
AllStand inodes locked (mark ∷ marks) (place ∷ places) =
    ChainStands inodes locked mark place × AllStand inodes locked marks places

-- what was read for a call stands: its places do, and the quota rows are those at the locked quota keys
pub record ReadsStand (inodes : Inodes) (quota_rows : Quotas) (locked : List (Key × Mode)) (reads : Reads) : Type 0 where
  pub chains : AllStand inodes locked reads.marks reads.places
  pub quotas : SeesQuotas quota_rows locked reads.quotas

-- ---- rows that a commit moves

-- of these rows none but the last is the one that a commit moves
abbrev pub AreFixed : Option InodeId → List (Key × Inode) → Type 0
AreFixed moves [] = ⊤
AreFixed moves (row ∷ []) = ⊤
AreFixed moves (row ∷ next ∷ rows) = (moves ≢ Some row.1.id) × AreFixed moves (next ∷ rows)

-- nor is one of those of each place from its mark on
abbrev pub AllFixed : Option InodeId → List ℕ → List Place → Type 0
AllFixed moves marks [] = ⊤
AllFixed moves [] (place ∷ places) = ⊤
AllFixed moves (mark ∷ marks) (place ∷ places) = AreFixed moves (drop mark place.found.items) × AllFixed moves marks places
