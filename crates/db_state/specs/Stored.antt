-- The tables and the book as plain maps and lists.
use Rattle.std.specs.Prelude.{ℕ, List, [], None, false, codes}
use Rattle.std.specs.FinMap as map
use Rattle.hops_base.specs.declared.key.Key.{Key}
use Rattle.hops_base.specs.declared.key.Key.TheVariants as key
use Rattle.hops_base.specs.Key.{key_cmp}
use Rattle.name_space.specs.Namespace.{dir_mode, root_owner}
use Rattle.inode_table.specs.declared.inode.Inode.{Inode}
use Rattle.inode_table.specs.declared.inode.Kind.TheVariants.{Dir}
use Rattle.quota_table.specs.declared.quota.QuotaRow.{QuotaRow}
use Rattle.commit_log.specs.declared.note.Note.{Note}
use Rattle.db_state.specs.Settings.{Settings}

-- the inode rows by their keys
abbrev pub Inodes : Type 0
Inodes = map.FinMap key_cmp Inode

-- the quota rows by their keys
abbrev pub Quotas : Type 0
Quotas = map.FinMap key_cmp QuotaRow

-- the rows of all tables
pub record Tables : Type 0 where
  pub inodes : Inodes
  pub quotas : Quotas

-- the rows of all tables, what the run is set up with, the notes of the book, and the next free inode id
pub record Stored : Type 0 where
  pub inodes : Inodes
  pub quotas : Quotas
  pub settings : Settings
  pub notes : List Note
  pub next : ℕ

-- the key of the root's row
abbrev pub root_key : Key
root_key = key.Inode (record { 0 = 0 }) (codes "root")

-- a new directory of this id and owner
abbrev pub dir_row : ℕ → List ℕ → Inode
dir_row id owner =
    record { id = record { 0 = id }; kind = Dir; len = 0; writer = None; mode = dir_mode; owner = owner; has_quota = false; flag = None }

-- the root's row
abbrev pub root_row : Inode
root_row = dir_row 1 root_owner

-- the rows before anything happened: the root's alone
abbrev pub opening_rows : Inodes
opening_rows = map.insert map.empty root_key root_row

-- all of it before anything happened, with these settings
abbrev pub opening_stored : Settings → Stored
opening_stored settings = record { inodes = opening_rows; quotas = map.empty; settings = settings; notes = []; next = 2 }
