-- What `chmod` writes.
use Rattle.std.specs.Prelude.{◌≡◌, ℕ, true, [], ◌∷◌, Option, Some, None}
use Rattle.hops_base.specs.declared.key.Key.{Key}
use Rattle.inode_table.specs.declared.inode.Inode.{Inode}
use Rattle.name_space.specs.declared.reply.Reply.TheVariants.{Truth}
use Rattle.db_state.specs.declared.outcome.Outcome.{Outcome}
use Rattle.db_state.specs.declared.outcome.Outcome.TheVariants.{Answer, Subtree}
use Rattle.db_state.specs.declared.writes.Row.TheVariants as row

-- the row with this mode
abbrev pub row_with_mode : ℕ → Inode → Inode
row_with_mode bits inode = record inode { mode = bits }

-- the outcome writes the row found with this mode, and nothing else
abbrev pub IsModeSet : Option (Key × Inode) → ℕ → Outcome → Type 0
IsModeSet None bits outcome = ⊥
IsModeSet (Some found) bits (Answer reply writes) =
    (reply ≡ Truth true) × (writes.items ≡ (found.0, Some (row.Inode (row_with_mode bits found.1))) ∷ [])
IsModeSet (Some found) bits (Subtree kind) = ⊥
