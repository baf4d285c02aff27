-- Samples: a directory /d with a file x, and what was read for calls on /d/x. Nothing but the worked examples rests on them.
use Rattle.std.specs.Prelude.{ℕ, true, false, List, [], ◌∷◌, codes, Some, None}
use Rattle.std.specs.FinMap as map
use Rattle.hops_base.specs.Ids.{session, operation, client}
use Rattle.hops_base.specs.declared.ids.InodeId.{InodeId}
use Rattle.hops_base.specs.declared.ids.Mode.{Mode}
use Rattle.hops_base.specs.declared.ids.Mode.TheVariants.{Shared, Exclusive}
use Rattle.hops_base.specs.declared.key.Key.{Key}
use Rattle.hops_base.specs.declared.key.Key.TheVariants as key
use Rattle.name_space.specs.declared.call.Call.{Call}
use Rattle.name_space.specs.declared.call.Call.TheVariants as call
use Rattle.inode_table.specs.declared.inode.Inode.{Inode}
use Rattle.inode_table.specs.declared.inode.Kind.TheVariants.{File}
use Rattle.quota_table.specs.declared.quota.QuotaRow.{QuotaRow}
use Rattle.commit_log.specs.Parts.{Taking}
pub use Rattle.commit_log.specs.Samples.{d_x, d_key, inode}
use Rattle.commit_log.specs.Samples.{ann}
use Rattle.db_state.specs.declared.view.Place.{Place}
use Rattle.db_state.specs.Stored.{Inodes, Quotas, root_key, root_row, dir_row}
use Rattle.db_state.specs.Reads.{Asked, Reads, locked_by, ReadsStand}

-- ---- rows

-- the row of /d, of id 2
abbrev pub d_row : Inode
d_row = dir_row 2 ann

-- the key of /d/x
abbrev pub x_key : Key
x_key = inode 2 (codes "x")

-- the row of /d/x, of id 3, which nobody writes
abbrev pub x_row : Inode
x_row =
    record { id = record { 0 = 3 }; kind = File; len = 5; writer = None; mode = 420; owner = ann; has_quota = false; flag = None }

-- the row with another id
abbrev pub with_id : ℕ → Inode → Inode
with_id n row = record row { id = record { 0 = n } }

-- the row as that of a file
abbrev pub as_file : Inode → Inode
as_file row = record row { kind = File }

-- the row with a writer
abbrev pub written_by : ℕ → Inode → Inode
written_by n row = record row { writer = Some (client n) }

-- the row with another mode
abbrev pub with_mode : ℕ → Inode → Inode
with_mode mode row = record row { mode = mode }

-- the row of a directory with a quota
abbrev pub with_quota : Inode → Inode
with_quota row = record row { has_quota = true }

-- the row with the flag of an operation
abbrev pub flagged_by : ℕ → Inode → Inode
flagged_by n row = record row { flag = Some (operation n) }

-- the table where /d and /d/x have these rows
abbrev pub rows : Inode → Inode → Inodes
rows d x = map.from_entries ((root_key, root_row) ∷ (d_key, d) ∷ (x_key, x) ∷ [])

-- the table where /d has this row, and no child
abbrev pub rows_to : Inode → Inodes
rows_to d = map.from_entries ((root_key, root_row) ∷ (d_key, d) ∷ [])

-- the table without a row for /d
abbrev pub rows_without_d : Inode → Inodes
rows_without_d x = map.from_entries ((root_key, root_row) ∷ (x_key, x) ∷ [])

-- the quota row with which /d may have so many names
abbrev pub names_for_d : ℕ → InodeId × QuotaRow
names_for_d names = (record { 0 = 2 }, record { max_names = Some names; max_bytes = None; used_names = 1; used_bytes = 0 })

-- the quota table with this row alone
abbrev pub only : InodeId × QuotaRow → Quotas
only quota = map.from_entries ((key.Quota quota.0, quota.1) ∷ [])

-- ---- what was read

-- the place of /d/x, where these rows were found from the root's on
abbrev pub whole_from : Inode → Inode → Inode → Place
whole_from root d x = record {
  path = d_x;
  found = record { items = (root_key, root) ∷ (d_key, d) ∷ (x_key, x) ∷ []; room = 3 };
  missing = None;
  has_child = false;
}

-- the same where the root's is as ever
abbrev pub whole : Inode → Inode → Place
whole d x = whole_from root_row d x

-- the place of /d/x, where this row was found for /d, and nothing in it
abbrev pub gap : Inode → Place
gap d = record {
  path = d_x;
  found = record { items = (root_key, root_row) ∷ (d_key, d) ∷ []; room = 2 };
  missing = Some x_key;
  has_child = false;
}

-- this place was read, its rows from that of a number on, and these quota rows
abbrev pub reads_with : List (InodeId × QuotaRow) → Place → ℕ → Reads
reads_with quotas place mark = record { places = place ∷ []; marks = mark ∷ []; quotas = quotas }

-- the same with no quota row
abbrev pub reads : Place → ℕ → Reads
reads place mark = reads_with [] place mark

-- ---- calls

-- the client of number 0 makes this call, by no operation
abbrev pub asks : Call → Asked
asks call = record { client = client 0; call = call; own = None }

-- it makes /d/x, which locks the keys of /d and of /d/x, and the quota of /d
abbrev pub makes_x : Asked
makes_x = asks (call.Create d_x false)

-- it changes the mode of /d/x, which locks that key alone
abbrev pub changes_x : Asked
changes_x = asks (call.Chmod d_x 448)

-- it removes /d/x, which locks that key and the one above it
abbrev pub removes_x : Asked
removes_x = asks (call.Delete d_x false)

-- what was read for the call stands, where these are the inode rows and there is no quota row
abbrev pub StandsFor : Asked → Place → ℕ → Inodes → Type 0
StandsFor asked place mark inodes = ReadsStand inodes map.empty (locked_by asked (reads place mark)) (reads place mark)

-- ---- locks

-- the key is locked Exclusive
abbrev pub alone : Key → List (Key × Mode)
alone at = (at, Exclusive) ∷ []

-- it is locked Shared
abbrev pub shared : Key → List (Key × Mode)
shared at = (at, Shared) ∷ []

-- the session of this number holds the keys so
abbrev pub held_by : ℕ → List (Key × Mode) → List Taking
held_by s [] = []
held_by s (k ∷ keys) = record { session = session s; key = k.0; mode = k.1 } ∷ held_by s keys
