-- The promise of an outcome: given consistent tables and a current view, it replies as the plain call does, and after its
-- writes the rows represent the call's namespace. This project's own.
use Rattle.std.specs.Prelude.{◌≡◌, ◌≤◌, ◌+◌, ℕ, false, List, [], length, Option, is_some}
use Rattle.std.specs.List.{sum_by}
use Rattle.hops_base.specs.declared.ids.ClientNo.{ClientNo}
use Rattle.hops_base.specs.declared.ids.SessionId.{SessionId}
use Rattle.hops_base.specs.declared.ids.OpId.{OpId}
use Rattle.hops_base.specs.declared.key.Key.{Key}
use Rattle.name_space.specs.declared.call.Call.{Call}
use Rattle.name_space.specs.Call.{paths_of, changes}
use Rattle.name_space.specs.declared.reply.Exception.{Exception}
use Rattle.name_space.specs.declared.reply.Reply.{Reply}
use Rattle.name_space.specs.declared.reply.Reply.TheVariants.{Refused}
use Rattle.name_space.specs.Namespace.{Namespace, Path, IsNamespace, exists}
use Rattle.name_space.specs.Plain.{Answered}
use Rattle.name_space.specs.Calls.{plain, as_read}
use Rattle.commit_log.specs.declared.note.Note.TheVariants.{Did}
use Rattle.commit_log.specs.Ids.{Numbering, id_at, numbering_after}
use Rattle.db_state.specs.Stored.{Inodes, Tables}
use Rattle.db_state.specs.Spelled.{IsTree, AreGiven}
use Rattle.db_state.specs.Stands.{Stands}
use Rattle.db_state.specs.Consistent.{FlagsStay}
use Rattle.db_state.specs.Counts.{Counts}
use Rattle.db_state.specs.Current.{IsCurrent}
use Rattle.db_state.specs.Written.{written, next_after}
use Rattle.db_state.specs.declared.view.View.{View}
use Rattle.db_state.specs.declared.writes.Row.{Row}
use Rattle.db_state.specs.declared.outcome.Outcome.{Outcome}
use Rattle.db_state.specs.declared.outcome.Outcome.TheVariants.{Answer, Subtree}

-- before the call: the rows spell a tree and stand for a namespace, which the quota rows count, and the view is current with
-- them
pub record IsBefore (tables : Tables) (bound : ℕ) (space : Namespace) (own : Option OpId) (client : ClientNo) (call : Call) (view : View) : Type 0 where
  pub tree : IsTree tables.inodes bound
  pub names : IsNamespace space
  pub stands : Stands tables.inodes tables.quotas [] space
  pub counts : Counts tables.inodes tables.quotas space
  pub current : IsCurrent tables.inodes tables.quotas own client call view

-- after it: the rows spell a tree, with this next free id, and stand for this namespace, which the quota rows count
pub record IsOf (tables : Tables) (next : ℕ) (space : Namespace) : Type 0 where
  pub tree : IsTree tables.inodes next
  pub stands : Stands tables.inodes tables.quotas [] space
  pub counts : Counts tables.inodes tables.quotas space

-- the numbering gives an id to each path of the namespace and to no other; the rows have these ids, and the next is its own
pub record IsNumberedBy (numbering : Numbering) (inodes : Inodes) (next : ℕ) (space : Namespace) : Type 0 where
  pub all : (path : Path) → is_some (id_at numbering path) ≡ exists space path
  pub given : AreGiven inodes numbering
  pub least : next ≡ numbering.next

-- rows that have the ids of a numbering have those of the numbering after the call
abbrev pub AreIds : Tables → ℕ → Tables → ℕ → Namespace → ClientNo → Call → Answered → Type 0
AreIds old next new next' space client call answered =
    (numbering : Numbering) (s : SessionId) (number reads : ℕ) (reply : Reply) → IsNumberedBy numbering old.inodes next space
    → IsNumberedBy (numbering_after numbering space answered.space (Did s client number call reads reply)) new.inodes next' answered.space

-- the reply is the plain call's; a refusal and a call that only looks write nothing; after the writes the rows stand for the
-- namespace after the call, bear the flags that they bore, and have the ids that the history gives, of which it takes no more
-- than the call's paths have names
pub record IsAnswer (tables : Tables) (space : Namespace) (client : ClientNo) (user : List ℕ) (call : Call) (view : View)
    (reply : Reply) (writes : List (Key × Option Row)) : Type 0 where
  pub told : as_read reply ≡ (plain space client user call).reply
  pub quiet : (exception : Exception) → reply ≡ Refused exception → writes ≡ []
  pub looks : changes call ≡ false → writes ≡ []
  pub rows : IsOf (written tables writes) (next_after view.next.0 writes) (plain space client user call).space
  pub flags : FlagsStay tables.inodes (written tables writes).inodes
  pub few : next_after view.next.0 writes ≤ view.next.0 + sum_by length (paths_of call)
  pub ids : AreIds tables view.next.0 (written tables writes) (next_after view.next.0 writes) space client call (plain space client user call)

-- given consistent tables and a current view, the outcome replies as the plain call does; after its writes the rows represent
-- the call's namespace
abbrev pub IsCallsTable : View → ClientNo → List ℕ → Call → Outcome → Type 0
IsCallsTable view client user call (Answer reply writes) =
    (tables : Tables) (bound : ℕ) (space : Namespace) (own : Option OpId) → IsBefore tables bound space own client call view
    → IsAnswer tables space client user call view reply writes.items
IsCallsTable view client user call (Subtree kind) = ⊥
