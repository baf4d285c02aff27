-- When what a session has read is still so. This project's own.
use Rattle.std.specs.Prelude.{◌≡◌, ℕ, ◌<◌, Bool, true, false, ◌==◌, nat_lt, if◌then◌else◌, List, [], ◌∷◌, ◌++◌, map, Option, Some, None, IfSome, option_map}
use Rattle.std.specs.FinMap as map
use Rattle.std.specs.List.{list_any, list_all, find, AllByRecursion, IsDistinct, filter_map, flat_map}
use Rattle.hops_base.specs.declared.ids.ClientNo.{ClientNo}
use Rattle.hops_base.specs.declared.ids.InodeId.{InodeId}
use Rattle.hops_base.specs.declared.ids.OpId.{OpId}
use Rattle.hops_base.specs.declared.ids.Mode.{Mode}
use Rattle.hops_base.specs.declared.key.Key.{Key}
use Rattle.hops_base.specs.declared.key.Key.TheVariants as key
use Rattle.hops_base.specs.Key.{same_key}
use Rattle.name_space.specs.declared.call.Call.{Call}
use Rattle.name_space.specs.declared.call.Call.TheVariants as call
use Rattle.name_space.specs.Call.{paths_of}
use Rattle.name_space.specs.Namespace.{Path}
use Rattle.name_space.specs.Plain.{last_name}
use Rattle.inode_table.specs.declared.inode.Inode.{Inode}
use Rattle.inode_table.specs.declared.inode.Kind.{Kind}
use Rattle.inode_table.specs.declared.inode.Kind.TheVariants.{Dir, File}
use Rattle.quota_table.specs.declared.quota.QuotaRow.{QuotaRow}
use Rattle.name_space.specs.declared.entry.FileStatus.{FileStatus}
use Rattle.name_space.specs.declared.entry.FileStatus.TheVariants as status
use Rattle.name_space.specs.declared.entry.Listed.{Listed}
use Rattle.row_store.specs.Children.{child_count, child_names}
use Rattle.db_state.specs.declared.view.Place.{Place}
use Rattle.db_state.specs.declared.view.View.{View}
use Rattle.db_state.specs.Stored.{root_key}
use Rattle.db_state.specs.Spelled.{Inodes}
use Rattle.db_state.specs.Stands.{Quotas, quota_of}
use Rattle.db_state.specs.Plan.{last, own_dir, plan}

-- ---- what a place spells by itself

-- where the names go no further: at a directory the next name is missing, and at a file none is
abbrev pub stops_at : Kind → InodeId → List ℕ → Option Key
stops_at Dir id name = Some (key.Inode id name)
stops_at File id name = None

-- from this row the names lead through these rows, each the child of the one before, to this first missing key
abbrev pub Leads : Inode → List (List ℕ) → List (Key × Inode) → Option Key → Type 0
Leads row [] rows missing = (rows ≡ []) × (missing ≡ None)
Leads row (name ∷ names) [] missing = missing ≡ stops_at row.kind row.id name
Leads row (name ∷ names) (next ∷ rows) missing = (row.kind ≡ Dir) × (next.0 ≡ key.Inode row.id name) × Leads next.1 names rows missing

-- the rows of a place lead from the root along its path
abbrev pub Spells : Path → List (Key × Inode) → Option Key → Type 0
Spells path [] missing = ⊥
Spells path (root ∷ rows) missing = (root.0 ≡ root_key) × Leads root.1 path rows missing

-- the rows of this place lead along its own path
abbrev pub SpellsPlace : Place → Type 0
SpellsPlace place = Spells place.path place.found.items place.missing

-- the path of a rename's source inside its destination, where that is a directory
abbrev pub inside : Path → Path → List Place → List Path
inside [] destination places = []
inside (name ∷ names) destination [] = []
inside (name ∷ names) destination (source ∷ []) = []
inside (name ∷ names) destination (source ∷ there ∷ places) =
    map (λ (row : Inode). destination ++ last_name (name ∷ names) ∷ []) (own_dir there)

-- the paths that a call's places have: its own, and for a rename that inside the destination
abbrev pub places_of : Call → List Place → List Path
places_of (call.Rename source destination) places = source ∷ destination ∷ inside source destination places
places_of asked places = paths_of asked

-- ---- against the rows

-- the key is locked
abbrev pub is_locked : List (Key × Mode) → Key → Bool
is_locked locked at = list_any (λ (k : Key × Mode). same_key at k.0) locked

-- the row is there as it was found: with its id and kind, and with no quota that it hadn't; a locked one as a whole
pub record IsThere (inodes : Inodes) (locked : List (Key × Mode)) (found : Key × Inode) : Type 0 where
  pub row : Inode
  pub there : map.get inodes found.0 ≡ Some row
  pub id : row.id ≡ found.1.id
  pub kind : row.kind ≡ found.1.kind
  pub quota : row.has_quota ≡ true → found.1.has_quota ≡ true
  pub whole : is_locked locked found.0 ≡ true → row ≡ found.1

-- nothing stands at the first missing key
abbrev pub IsMissing : Inodes → Option Key → Type 0
IsMissing inodes missing = IfSome missing (λ at. map.get inodes at ≡ None)

-- the bit says whether the last of these rows has a child
abbrev pub IsLastsChild : Inodes → List (Key × Inode) → Bool → Type 0
IsLastsChild inodes found has_child = IfSome (last found) (λ (r : Key × Inode). has_child ≡ nat_lt 0 (child_count inodes r.1.id))

-- the place's bit says so of the last row found
abbrev pub KnowsChild : Inodes → Place → Type 0
KnowsChild inodes place = IsLastsChild inodes place.found.items place.has_child

-- the row bears no flag, or that of the session's own operation
abbrev pub is_unflagged : Option OpId → Option OpId → Bool
is_unflagged own None = true
is_unflagged None (Some op) = false
is_unflagged (Some mine) (Some op) = mine.0 == op.0

-- what was read for a path is still so
pub record IsCurrentPlace (inodes : Inodes) (locked : List (Key × Mode)) (own : Option OpId) (place : Place) : Type 0 where
  pub spells : SpellsPlace place
  pub there : AllByRecursion (IsThere inodes locked) place.found.items
  pub missing : IsMissing inodes place.missing
  pub child : KnowsChild inodes place
  pub unflagged : list_all (λ (r : Key × Inode). is_unflagged own r.1.flag) place.found.items ≡ true

-- the quotas that were read are exactly the rows at the locked quota keys
pub record SeesQuotas (quotas : Quotas) (locked : List (Key × Mode)) (seen : List (InodeId × QuotaRow)) : Type 0 where
  pub once : IsDistinct (λ (a b : InodeId × QuotaRow). a.0.0 == b.0.0) seen
  pub rows : (id : InodeId) → option_map (λ (q : InodeId × QuotaRow). q.1) (find (λ (q : InodeId × QuotaRow). q.0.0 == id.0) seen)
      ≡ (if is_locked locked (key.Quota id) then quota_of quotas id else None)

-- what is told of a row of this kind
abbrev pub status_of_kind : Kind → Inode → FileStatus
status_of_kind Dir row = status.Dir row.mode row.owner
status_of_kind File row = status.File row.len row.mode row.owner

-- what is told of a row under its name
abbrev pub listed_row : List ℕ → Inode → Listed
listed_row name row = record { name = name; status = status_of_kind row.kind row }

-- the rows under a row, as they are listed: in the order of their names
abbrev pub listed_under : Inodes → InodeId → List Listed
listed_under inodes id =
    filter_map (λ (name : List ℕ). option_map (listed_row name) (map.get inodes (key.Inode id name))) (child_names inodes id)

-- the children that a call tells: those of the directory that a `list` names
abbrev pub children_told : Inodes → Call → List Place → List Listed
children_told inodes (call.List path) places =
    flat_map (λ (place : Place). flat_map (λ (row : Inode). listed_under inodes row.id) (own_dir place)) places
children_told inodes asked places = []

-- every inode has an id below this one
abbrev pub AreIdsBelow : Inodes → ℕ → Type 0
AreIdsBelow inodes next = (at : Key) (row : Inode) → map.get inodes at ≡ Some row → row.id.0 < next

-- the view of a client's call is current
pub record IsCurrent (inodes : Inodes) (quota_rows : Quotas) (own : Option OpId) (client : ClientNo) (call : Call) (view : View) : Type 0 where
  pub places : map (λ (place : Place). place.path) view.places.items ≡ places_of call view.places.items
  pub current : AllByRecursion (IsCurrentPlace inodes (plan client call view.places.items) own) view.places.items
  pub quotas : SeesQuotas quota_rows (plan client call view.places.items) view.quotas.items
  pub children : view.children.items ≡ children_told inodes call view.places.items
  pub next : AreIdsBelow inodes view.next.0
