-- What a session has read stands on beside the notes and the answers of others.
use Rattle.std.proofs.Common.{◌≡◌, ◌≢◌, ℕ, List, [], ◌∷◌, ◌++◌, Option, None, subst}
use Rattle.std.specs.List.{AllByRecursion}
use Rattle.hops_base.specs.Roomy.{Roomy}
use Rattle.hops_base.specs.declared.ids.SessionId.{SessionId}
use Rattle.hops_base.specs.declared.ids.Mode.{Mode}
use Rattle.hops_base.specs.declared.key.Key.{Key}
use Rattle.name_space.specs.declared.reply.Reply.{Reply}
use Rattle.commit_log.specs.declared.note.Note.{Note}
use Rattle.commit_log.specs.Locks.{held, Sound}
use Rattle.db_state.specs.declared.outcome.Outcome.TheVariants.{Answer}
use Rattle.db_state.specs.declared.view.View.{View}
use Rattle.db_state.specs.declared.writes.Row.{Row}
use Rattle.db_state.specs.Stored.{Inodes, Quotas, Stored}
use Rattle.db_state.specs.Consistent.{IsConsistent}
use Rattle.db_state.specs.Written.{tables_of, committed}
use Rattle.db_state.specs.Plan.{plan}
use Rattle.db_state.specs.Current.{IsCurrent}
use Rattle.db_state.specs.Locked.{MayWrite, WritesOwn}
use Rattle.db_state.specs.Effects.{KeepsRows, KeepsOthers}
use Rattle.db_state.specs.Reads.{Asked, Reads, locked_by, AllRead}
use Rattle.db_state.specs.ReadSteps.{IsViewOfReads}
use Rattle.db_state.specs.Holding.{Leaves, SessionStands, StandsIn}
use Rattle.db_state.proofs.ReadsHoldLaws.{holds_still}
use Rattle.db_state.proofs.ReadsKeptLaws.{all_fixed}
use Rattle.db_state.proofs.ReadsViewLaws.{plan_of_view, view_current}
use Rattle.db_state.proofs.ReadsWriteLaws.{session_stays}

-- beside a note that leaves the session its locks
pub stands_beside : (inodes : Inodes) (quotas : Quotas) (notes : List Note) (s : SessionId) (asked : Asked) (reads : Reads) (note : Note) → Leaves notes s note → SessionStands inodes quotas (held notes) s asked reads
    → SessionStands inodes quotas (held (notes ++ note ∷ [])) s asked reads
stands_beside inodes quotas notes s asked reads note leaves stands = record { reads = stands.reads; holds = holds_still notes s (locked_by asked reads) note leaves stands.holds; stand = stands.stand }

-- ---- a session that answers

module _ (state : Stored) (consistent : IsConsistent state) (sound : Sound state.notes) (t : SessionId) (other : Asked) (theirs : Reads) (view : View)
    (stands : StandsIn state t other theirs) (done : AllRead theirs.marks) (is : IsViewOfReads state.inodes state.next other.call theirs view) where
  current : IsCurrent state.inodes state.quotas other.own other.client other.call view
  current = view_current state.inodes state.next state.quotas consistent.tree other theirs view stands.reads stands.stand done is

  plans : plan other.client other.call view.places.items ≡ locked_by other theirs
  plans = plan_of_view state.inodes state.next other theirs view is

  module _ (reply : Reply) (writes : Roomy (Key × Option Row)) (own : WritesOwn view other.client other.call (Answer reply writes)) (keeps : KeepsOthers view other.client other.call (Answer reply writes)) where
    may : AllByRecursion (MayWrite (locked_by other theirs) state.next) writes.items
    may = subst (λ (n : ℕ). AllByRecursion (MayWrite (locked_by other theirs) n) writes.items) is.next_id
        (subst (λ (l : List (Key × Mode)). AllByRecursion (MayWrite l view.next.0) writes.items) plans (own state.inodes state.quotas other.own current))

    module _ (note : Note) (after : IsConsistent (committed state writes.items (note ∷ []))) where
      kept : KeepsRows (locked_by other theirs) state.next None state.inodes (committed state writes.items (note ∷ [])).inodes
      kept = subst (λ (n : ℕ). KeepsRows (locked_by other theirs) n None state.inodes (committed state writes.items (note ∷ [])).inodes) is.next_id
          (subst (λ (l : List (Key × Mode)). KeepsRows l view.next.0 None state.inodes (committed state writes.items (note ∷ [])).inodes) plans (keeps (tables_of state) other.own current))

      -- beside its commit
      pub stands_on : (s : SessionId) (asked : Asked) (reads : Reads) → s.0 ≢ t.0 → Leaves state.notes s note → StandsIn state s asked reads → StandsIn (committed state writes.items (note ∷ [])) s asked reads
      stands_on s asked reads differ leaves here =
          session_stays state writes.items (note ∷ []) consistent after sound s t differ asked reads here (locked_by other theirs) stands.holds may None kept (all_fixed reads.marks reads.places)
          (holds_still state.notes s (locked_by asked reads) note leaves here.holds)
