-- What `delete` does, by the rows that its view has.
use Rattle.std.specs.Prelude.{◌≡◌, ◌-◌, Bool, true, false, not, ◌||◌, List, [], ◌∷◌, length, take, Option, None, IfSome}
use Rattle.hops_base.specs.declared.ids.InodeId.{InodeId}
use Rattle.hops_base.specs.declared.key.Key.{Key}
use Rattle.hops_base.specs.declared.key.Key.TheVariants as key
use Rattle.inode_table.specs.declared.inode.Inode.{Inode}
use Rattle.inode_table.specs.Inode.{counted_bytes}
use Rattle.quota_table.specs.declared.quota.QuotaRow.{QuotaRow}
use Rattle.name_space.specs.declared.reply.Reply.TheVariants.{Truth}
use Rattle.name_space.specs.declared.reply.Exception.TheVariants.{PathIsNotEmptyDirectory}
use Rattle.name_space.specs.Plain.{is_root}
use Rattle.db_state.specs.declared.view.Place.{Place}
use Rattle.db_state.specs.declared.outcome.Outcome.{Outcome}
use Rattle.db_state.specs.declared.outcome.Outcome.TheVariants.{Answer, Subtree}
use Rattle.db_state.specs.declared.writes.Row.{Row}
use Rattle.db_state.specs.Plan.{where_so, last_found, is_whole}
use Rattle.db_state.specs.QuotaWrites.{lowered}
use Rattle.inode_ops.specs.QuotaSteps.{GoesOnCounted}
use Rattle.inode_ops.specs.Steps.{IsTold, IsRefused}

-- ---- the row that goes

-- a row goes, with its quota row if it has one
abbrev pub removals : Key × Inode → List (Key × Option Row)
removals found = (found.0, None) ∷ where_so found.1.has_quota ((key.Quota found.1.id, None) ∷ [])

-- the last row found goes, and the quota rows of the directories above it count it no more
abbrev pub RemovesLast : Place → List (InodeId × QuotaRow) → List (Key × Option Row) → Type 0
RemovesLast place seen writes =
    IfSome (last_found place) (λ (last : Key × Inode). GoesOnCounted (removals last) (take (length place.found.items - 1) place.found.items)
    seen (lowered 1 (counted_bytes last.1.kind last.1)) writes)

-- ---- the outcome

-- the outcome removes the row of the path
abbrev pub IsRemoved : Place → List (InodeId × QuotaRow) → Outcome → Type 0
IsRemoved place seen (Answer reply writes) = (reply ≡ Truth true) × RemovesLast place seen writes.items
IsRemoved place seen (Subtree kind) = ⊥

-- what `delete` answers where nothing may go, or something, and the place has a child, or none
abbrev pub DeleteOf : Bool → Bool → Place → List (InodeId × QuotaRow) → Outcome → Type 0
DeleteOf true child place seen outcome = IsTold (Truth false) outcome
DeleteOf false true place seen outcome = IsRefused PathIsNotEmptyDirectory outcome
DeleteOf false false place seen outcome = IsRemoved place seen outcome

-- what `delete` answers
abbrev pub AnswersDelete : Place → List (InodeId × QuotaRow) → Outcome → Type 0
AnswersDelete place seen outcome = DeleteOf (is_root place.path || not (is_whole place)) place.has_child place seen outcome
