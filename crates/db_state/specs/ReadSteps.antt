-- How a session comes by what it has read: the rows of a path one by one, the locked rows once more, then those above them,
-- and in its commit the view. This project's own.
use Rattle.std.specs.Prelude.{⊤, ◌≡◌, ℕ, ◌-◌, true, false, List, [], ◌∷◌, map as list_map, length, Option, Some}
use Rattle.std.specs.FinMap as map
use Rattle.std.specs.List.{list_all, AllByRecursion}
use Rattle.hops_base.specs.declared.ids.Mode.{Mode}
use Rattle.hops_base.specs.declared.ids.OpId.{OpId}
use Rattle.hops_base.specs.declared.key.Key.{Key}
use Rattle.hops_base.specs.declared.key.Key.TheVariants as key
use Rattle.name_space.specs.declared.call.Call.{Call}
use Rattle.name_space.specs.declared.call.Call.TheVariants as call
use Rattle.inode_table.specs.declared.inode.Inode.{Inode}
use Rattle.inode_table.specs.declared.inode.Kind.TheVariants.{Dir}
use Rattle.db_state.specs.declared.view.Place.{Place}
use Rattle.db_state.specs.declared.view.View.{View}
use Rattle.db_state.specs.Stored.{Inodes}
use Rattle.db_state.specs.Plan.{is_whole, last_found}
use Rattle.db_state.specs.Current.{is_locked, is_unflagged, IsMissing, SpellsPlace, KnowsChild, children_told}
use Rattle.db_state.specs.Reads.{Reads}

-- the lists are as long as each other, and what stands at the same place is related
abbrev pub AllPairs : {A B : Type 0} → (A → B → Type 0) → List A → List B → Type 0
AllPairs R [] [] = ⊤
AllPairs R [] (y ∷ ys) = ⊥
AllPairs R (x ∷ xs) [] = ⊥
AllPairs R (x ∷ xs) (y ∷ ys) = R x y × AllPairs R xs ys

-- ---- rows are found one by one

-- from this row the names lead through these rows to the last of them; what is below that by the rest of the names isn't read
-- yet
abbrev pub LeadsTo : Inode → List (List ℕ) → List (Key × Inode) → Inode → List (List ℕ) → Type 0
LeadsTo row names [] last rest = (row ≡ last) × (names ≡ rest)
LeadsTo row [] (next ∷ rows) last rest = ⊥
LeadsTo row (name ∷ names) (next ∷ rows) last rest =
    (row.kind ≡ Dir) × (next.0 ≡ key.Inode row.id name) × LeadsTo next.1 names rows last rest

-- the call has one path: it is any but a rename
abbrev pub IsOfPath : Call → Type 0
IsOfPath (call.Mkdirs path) = ⊤
IsOfPath (call.Create path overwrite) = ⊤
IsOfPath (call.Append path) = ⊤
IsOfPath (call.Grow path bytes) = ⊤
IsOfPath (call.Close path) = ⊤
IsOfPath (call.Stat path) = ⊤
IsOfPath (call.List path) = ⊤
IsOfPath (call.Delete path recursive) = ⊤
IsOfPath (call.Rename source destination) = ⊥
IsOfPath (call.Chmod path mode) = ⊤
IsOfPath (call.SetQuota path names bytes) = ⊤
IsOfPath (call.Usage path) = ⊤

-- the place of a rename inside its destination: its rows lead along its path, and where that isn't found whole, the last of
-- them is the destination's last
abbrev pub IsInside : Place → Place → Type 0
IsInside destination place = SpellsPlace place × (is_whole place ≡ false → last_found place ≡ last_found destination)

-- ---- they are read again

-- of a row that is read again what is compared is as it was found
pub record SameRow (found now : Inode) : Type 0 where
  pub id : now.id ≡ found.id
  pub kind : now.kind ≡ found.kind
  pub writer : now.writer ≡ found.writer
  pub has_quota : now.has_quota ≡ found.has_quota

-- the table has at this key a row as it was found
pub record IsFoundAgain (inodes : Inodes) (found : Key × Inode) : Type 0 where
  pub now : Inode
  pub there : map.get inodes found.0 ≡ Some now
  pub same : SameRow found.1 now

-- what becomes of one row as all locked rows are read again: a locked one is then the table's, and as it was found; any other
-- stays
pub record IsReadAgain (inodes : Inodes) (locked : List (Key × Mode)) (old new : Key × Inode) : Type 0 where
  pub key : new.0 ≡ old.0
  pub same : SameRow old.1 new.1
  pub held : is_locked locked old.0 ≡ true → map.get inodes old.0 ≡ Some new.1
  pub other : is_locked locked old.0 ≡ false → new.1 ≡ old.1

-- what becomes of a place: its rows are read again, none bears the flag of an operation that isn't the session's own, and
-- nothing is at its first missing key
pub record IsPlaceRead (inodes : Inodes) (locked : List (Key × Mode)) (own : Option OpId) (old new : Place) : Type 0 where
  pub path : new.path ≡ old.path
  pub same_missing : new.missing ≡ old.missing
  pub rows : AllPairs (IsReadAgain inodes locked) old.found.items new.found.items
  pub missing : IsMissing inodes old.missing
  pub unflagged : list_all (λ (r : Key × Inode). is_unflagged own r.1.flag) new.found.items ≡ true

-- the marks once all locked rows were read again: the number of the last row of each place
abbrev pub last_marks : List Place → List ℕ
last_marks places = list_map (λ (place : Place). length place.found.items - 1) places

-- ---- a commit makes a view of them

-- the place is as it was read, whatever it says of a child
pub record IsAsRead (old new : Place) : Type 0 where
  pub path : new.path ≡ old.path
  pub found : new.found ≡ old.found
  pub missing : new.missing ≡ old.missing

-- the view has the places and the quota rows as they were read; whether a last row has a child, the children that are told
-- and the next free id are looked up in the commit
pub record IsViewOfReads (inodes : Inodes) (next : ℕ) (call : Call) (reads : Reads) (view : View) : Type 0 where
  pub places : AllPairs IsAsRead reads.places view.places.items
  pub child : AllByRecursion (KnowsChild inodes) view.places.items
  pub quotas : view.quotas.items ≡ reads.quotas
  pub children : view.children.items ≡ children_told inodes call view.places.items
  pub next_id : view.next.0 ≡ next
