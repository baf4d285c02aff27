-- What `create` does, by the rows that its view has.
use Rattle.std.specs.Prelude.{◌≡◌, ℕ, Bool, true, false, List, [], ◌∷◌, ◌++◌, length, Option, Some, None, IfSome}
use Rattle.hops_base.specs.declared.ids.ClientNo.{ClientNo}
use Rattle.hops_base.specs.declared.key.Key.{Key}
use Rattle.inode_table.specs.declared.inode.Inode.{Inode}
use Rattle.inode_table.specs.declared.inode.Kind.{Kind}
use Rattle.inode_table.specs.declared.inode.Kind.TheVariants.{Dir, File}
use Rattle.name_space.specs.declared.reply.Reply.TheVariants.{Truth}
use Rattle.name_space.specs.declared.reply.Exception.{Exception}
use Rattle.name_space.specs.declared.reply.Exception.TheVariants.{FileAlreadyExists, ParentNotDirectory}
use Rattle.db_state.specs.declared.view.Place.{Place}
use Rattle.db_state.specs.declared.view.View.{View}
use Rattle.db_state.specs.declared.outcome.Outcome.{Outcome}
use Rattle.db_state.specs.declared.outcome.Outcome.TheVariants.{Answer, Subtree}
use Rattle.db_state.specs.declared.writes.Row.TheVariants as row
use Rattle.name_space.specs.Plain.{file_mode}
use Rattle.inode_ops.specs.NewFile.{new_file_rows}
use Rattle.db_state.specs.Plan.{last_found, deepest, is_whole}
use Rattle.db_state.specs.QuotaWrites.{raised, lowered}
use Rattle.inode_ops.specs.QuotaSteps.{first_full, GoesOnCounted}
use Rattle.inode_ops.specs.Steps.{missing_names, IsRefused}

-- the file without bytes, written by this client and owned by this user
abbrev pub overwritten : ClientNo → List ℕ → Inode → Inode
overwritten client owner file = record file { len = 0; writer = Some client; mode = file_mode; owner = owner }

-- the outcome makes a file of the last of these names, with directories of the others below the last row found, and raises
-- the quota rows above by all of them
abbrev pub IsFiled : Inode → Place → View → ClientNo → List ℕ → List (List ℕ) → Outcome → Type 0
IsFiled last place view client owner names (Answer reply writes) =
    (reply ≡ Truth true) × (ups : List (List ℕ)) × (name : List ℕ) × (names ≡ ups ++ name ∷ [])
    × GoesOnCounted (new_file_rows last.id.0 view.next.0 owner ups name client) place.found.items view.quotas.items
    (raised (length names) 0) writes.items
IsFiled last place view client owner names (Subtree kind) = ⊥

-- the outcome makes it, unless a quota row refuses
abbrev pub IsFiledUnless : Option Exception → Inode → Place → View → ClientNo → List ℕ → List (List ℕ) → Outcome → Type 0
IsFiledUnless None last place view client owner names outcome = IsFiled last place view client owner names outcome
IsFiledUnless (Some exception) last place view client owner names outcome = IsRefused exception outcome

-- the outcome makes the file of the missing names, or the first full quota row refuses
abbrev pub MakesFile : Inode → Place → View → ClientNo → List ℕ → Outcome → Type 0
MakesFile last place view client owner outcome =
    IsFiledUnless (first_full place.path place.found.items view.quotas.items (length (missing_names place))) last place view client
    owner (missing_names place) outcome

-- the outcome overwrites this file, and lowers the quota rows above by its bytes
abbrev pub IsOverwritten : Key × Inode → Place → View → ClientNo → List ℕ → Outcome → Type 0
IsOverwritten found place view client owner (Answer reply writes) =
    (reply ≡ Truth true) × GoesOnCounted ((found.0, Some (row.Inode (overwritten client owner found.1))) ∷ []) place.found.items
    view.quotas.items (lowered 0 found.1.len) writes.items
IsOverwritten found place view client owner (Subtree kind) = ⊥

-- the outcome overwrites the file found last
abbrev pub Overwrites : Place → View → ClientNo → List ℕ → Outcome → Type 0
Overwrites place view client owner outcome =
    IfSome (last_found place) (λ (found : Key × Inode). IsOverwritten found place view client owner outcome)

-- what `create` answers where a file is there, and may be overwritten or not
abbrev pub AtFile : Bool → Place → View → ClientNo → List ℕ → Outcome → Type 0
AtFile true place view client owner outcome = Overwrites place view client owner outcome
AtFile false place view client owner outcome = IsRefused FileAlreadyExists outcome

-- what `create` answers where this row is the last found, of this kind, and the path is whole or not
abbrev pub CreateOf : Kind → Bool → Inode → Place → View → ClientNo → List ℕ → Bool → Outcome → Type 0
CreateOf Dir true last place view client owner overwrite outcome = IsRefused FileAlreadyExists outcome
CreateOf Dir false last place view client owner overwrite outcome = MakesFile last place view client owner outcome
CreateOf File true last place view client owner overwrite outcome = AtFile overwrite place view client owner outcome
CreateOf File false last place view client owner overwrite outcome = IsRefused ParentNotDirectory outcome

-- what `create` answers
abbrev pub AnswersCreate : Place → View → ClientNo → List ℕ → Bool → Outcome → Type 0
AnswersCreate place view client owner overwrite outcome =
    IfSome (deepest place) (λ last. CreateOf last.kind (is_whole place) last place view client owner overwrite outcome)
