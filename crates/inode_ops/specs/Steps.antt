-- What the calls on inodes do, by the rows that their view has.
use Rattle.std.specs.Prelude.{◌≡◌, ℕ, ◌-◌, Bool, true, false, List, [], length, drop, Option, Some, None, IfSome}
use Rattle.hops_base.specs.declared.ids.InodeId.{InodeId}
use Rattle.inode_table.specs.declared.inode.Inode.{Inode}
use Rattle.inode_table.specs.declared.inode.Kind.{Kind}
use Rattle.inode_table.specs.declared.inode.Kind.TheVariants.{Dir, File}
use Rattle.quota_table.specs.declared.quota.QuotaRow.{QuotaRow}
use Rattle.name_space.specs.declared.entry.FileStatus.{FileStatus}
use Rattle.name_space.specs.declared.reply.Reply.{Reply}
use Rattle.name_space.specs.declared.reply.Reply.TheVariants.{Truth, Status, Refused}
use Rattle.name_space.specs.declared.reply.Exception.{Exception}
use Rattle.name_space.specs.declared.reply.Exception.TheVariants.{FileNotFound, FileAlreadyExists, ParentNotDirectory}
pub use Rattle.db_state.specs.Current.{status_of_kind}
use Rattle.db_state.specs.declared.view.Place.{Place}
use Rattle.db_state.specs.declared.outcome.Outcome.{Outcome}
use Rattle.db_state.specs.declared.outcome.Outcome.TheVariants.{Answer, Subtree}
use Rattle.db_state.specs.NewDirs.{new_dirs}
use Rattle.db_state.specs.Plan.{deepest, is_whole}
use Rattle.db_state.specs.QuotaWrites.{raised}
use Rattle.inode_ops.specs.QuotaSteps.{first_full, GoesOnCounted}

-- what is told of a row
abbrev pub row_status : Inode → FileStatus
row_status inode = status_of_kind inode.kind inode

-- the outcome writes nothing, and tells this
abbrev pub IsTold : Reply → Outcome → Type 0
IsTold told (Answer reply writes) = (reply ≡ told) × (writes.items ≡ [])
IsTold told (Subtree kind) = ⊥

-- the outcome writes nothing, and refuses with this
abbrev pub IsRefused : Exception → Outcome → Type 0
IsRefused exception outcome = IsTold (Refused exception) outcome

-- the outcome makes directories of these names below the last row found, and raises the quota rows above them
abbrev pub IsMade : Inode → Place → List (InodeId × QuotaRow) → ℕ → List ℕ → List (List ℕ) → Outcome → Type 0
IsMade last place quotas next owner names (Answer reply writes) =
    (reply ≡ Truth true) × GoesOnCounted (new_dirs last.id.0 next owner names) place.found.items quotas (raised (length names) 0) writes.items
IsMade last place quotas next owner names (Subtree kind) = ⊥

-- the outcome makes them, unless a quota row refuses
abbrev pub IsMadeUnless : Option Exception → Inode → Place → List (InodeId × QuotaRow) → ℕ → List ℕ → List (List ℕ) → Outcome → Type 0
IsMadeUnless None last place quotas next owner names outcome = IsMade last place quotas next owner names outcome
IsMadeUnless (Some exception) last place quotas next owner names outcome = IsRefused exception outcome

-- the names of a place's path that were not found
abbrev pub missing_names : Place → List (List ℕ)
missing_names place = drop (length place.found.items - 1) place.path

-- the outcome makes the directories of the missing names, or the first full quota row refuses
abbrev pub MakesMissing : Inode → Place → List (InodeId × QuotaRow) → ℕ → List ℕ → Outcome → Type 0
MakesMissing last place quotas next owner outcome =
    IsMadeUnless (first_full place.path place.found.items quotas (length (missing_names place))) last place quotas next owner
    (missing_names place) outcome

-- what `mkdirs` answers where this row is the last found, of this kind, and the path is whole or not
abbrev pub MkdirsOf : Kind → Bool → Inode → Place → List (InodeId × QuotaRow) → ℕ → List ℕ → Outcome → Type 0
MkdirsOf Dir true last place quotas next owner outcome = IsTold (Truth true) outcome
MkdirsOf Dir false last place quotas next owner outcome = MakesMissing last place quotas next owner outcome
MkdirsOf File true last place quotas next owner outcome = IsRefused FileAlreadyExists outcome
MkdirsOf File false last place quotas next owner outcome = IsRefused ParentNotDirectory outcome

-- what `mkdirs` answers
abbrev pub AnswersMkdirs : Place → List (InodeId × QuotaRow) → ℕ → List ℕ → Outcome → Type 0
AnswersMkdirs place quotas next owner outcome =
    IfSome (deepest place) (λ last. MkdirsOf last.kind (is_whole place) last place quotas next owner outcome)

-- what `stat` answers where this row is the last found, and the path is whole or not
abbrev pub StatOf : Bool → Inode → Outcome → Type 0
StatOf true last outcome = IsTold (Status (row_status last)) outcome
StatOf false last outcome = IsRefused FileNotFound outcome

-- what `stat` answers
abbrev pub AnswersStat : Place → Outcome → Type 0
AnswersStat place outcome = IfSome (deepest place) (λ last. StatOf (is_whole place) last outcome)
