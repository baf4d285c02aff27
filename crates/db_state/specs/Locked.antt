-- The keys that a call may write. This project's own.
use Rattle.std.specs.Prelude.{◌≡◌, ⊤, ℕ, Bool, true, false, ◌&&◌, ◌||◌, nat_le, List, Option}
use Rattle.std.specs.List.{list_any, AllByRecursion}
use Rattle.hops_base.specs.declared.ids.ClientNo.{ClientNo}
use Rattle.hops_base.specs.declared.ids.OpId.{OpId}
use Rattle.hops_base.specs.declared.ids.Mode.{Mode}
use Rattle.hops_base.specs.declared.ids.Mode.TheVariants.{Shared, Exclusive}
use Rattle.hops_base.specs.declared.key.Key.{Key}
use Rattle.hops_base.specs.declared.key.Key.TheVariants as key
use Rattle.hops_base.specs.Key.{same_key}
use Rattle.name_space.specs.declared.call.Call.{Call}
use Rattle.db_state.specs.declared.view.View.{View}
use Rattle.db_state.specs.declared.outcome.Outcome.{Outcome}
use Rattle.db_state.specs.declared.outcome.Outcome.TheVariants.{Answer, Subtree}
use Rattle.db_state.specs.declared.writes.Row.{Row}
use Rattle.db_state.specs.Spelled.{Inodes}
use Rattle.db_state.specs.Stands.{Quotas}
use Rattle.db_state.specs.Plan.{plan}
use Rattle.db_state.specs.Current.{IsCurrent}

-- a lock in this mode lets no other session hold the key
abbrev pub is_exclusive : Mode → Bool
is_exclusive Shared = false
is_exclusive Exclusive = true

-- the key is locked so
abbrev pub is_own : List (Key × Mode) → Key → Bool
is_own locked at = list_any (λ (k : Key × Mode). is_exclusive k.1 && same_key at k.0) locked

-- the key is of a name in a directory whose id isn't given yet
abbrev pub is_in_new : ℕ → Key → Bool
is_in_new next (key.Inode parent name) = nat_le next parent.0
is_in_new next other = false

-- no other session can hold the key of this write
abbrev pub MayWrite : List (Key × Mode) → ℕ → Key × Option Row → Type 0
MayWrite locked next write = (is_own locked write.0 || is_in_new next write.0) ≡ true

-- whenever the view is current, the outcome writes no key but those that the call locks Exclusive, and those in directories
-- that it makes
abbrev pub WritesOwn : View → ClientNo → Call → Outcome → Type 0
WritesOwn view client call (Answer reply writes) =
    (inodes : Inodes) (quotas : Quotas) (own : Option OpId) → IsCurrent inodes quotas own client call view
    → AllByRecursion (MayWrite (plan client call view.places.items) view.next.0) writes.items
WritesOwn view client call (Subtree kind) = ⊤
