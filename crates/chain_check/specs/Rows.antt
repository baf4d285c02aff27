-- What is told of a row that is read again. This crate's own.
use Rattle.std.specs.Prelude.{◌≡◌, Result, Ok, Err, Some, None}
use Rattle.hops_base.specs.declared.ids.OpId.{OpId}
use Rattle.hops_base.specs.declared.key.Key.{Key}
use Rattle.inode_table.specs.declared.inode.Inode.{Inode}
use Rattle.db_state.specs.Stored.{Inodes}
use Rattle.db_state.specs.ReadSteps.{IsFoundAgain}
use Rattle.chain_check.specs.declared.row.Halt.{Halt}
use Rattle.chain_check.specs.declared.row.Halt.TheVariants.{Changed, Flagged}

-- the row is there as it was found, and bears this flag
pub record IsFlagged (inodes : Inodes) (found : Key × Inode) (op : OpId) : Type 0 where
  pub again : IsFoundAgain inodes found
  pub flag : again.now.flag ≡ Some op

-- the row is there as it was found, and bears no flag
pub record IsPlain (inodes : Inodes) (found : Key × Inode) : Type 0 where
  pub again : IsFoundAgain inodes found
  pub none : again.now.flag ≡ None

-- the row is as it was found; or it isn't; or it is and bears a flag
abbrev pub IsReadAgain : Inodes → Key × Inode → Result (Unit {0}) Halt → Type 0
IsReadAgain inodes found (Ok done) = IsPlain inodes found
IsReadAgain inodes found (Err Changed) = IsFoundAgain inodes found → ⊥
IsReadAgain inodes found (Err (Flagged op)) = IsFlagged inodes found op
