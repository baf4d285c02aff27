-- Laws of the views that calls need.
use Rattle.std.specs.Prelude.{◌≡◌, ℕ, ◌+◌, ◌^◌, ◌<◌, ◌≤◌, List, [], ◌∷◌, length, slice_get, Option, Some, None, IfSome}
use Rattle.std.proofs.Common.{◌-◌, arith, length-drop, sym, ap, subst}
use Rattle.hops_base.specs.declared.ids.InodeId.{InodeId}
use Rattle.hops_base.specs.declared.key.Key.{Key}
use Rattle.name_space.specs.declared.call.Call.{Call}
use Rattle.inode_table.specs.declared.inode.Inode.{Inode}
use Rattle.quota_table.specs.declared.quota.QuotaRow.{QuotaRow}
use Rattle.db_state.specs.declared.view.Place.{Place}
use Rattle.db_state.specs.declared.view.View.{View}
use Rattle.db_state.specs.Current.{SpellsPlace}
use Rattle.db_state.specs.Plan.{deepest}
use Rattle.inode_ops.specs.Steps.{missing_names}
use Rattle.inode_ops.specs.Outcomes.{CanRaise, HasRoomUnlessFull, CanMake, path_of, Suits, IsViewOf}

-- where so many names can be counted, fewer can
pub raise_fewer : (few names : ℕ) (quotas : List (InodeId × QuotaRow)) → few ≤ names → CanRaise names quotas → CanRaise few quotas
raise_fewer few names [] less can = tt
raise_fewer few names (q ∷ quotas) less can = (let here = can.0 in omega arith, raise_fewer few names quotas less can.1)

-- rows can be made for the missing names where there is room for all names of the path
pub can_make : (place : Place) (quotas : List (InodeId × QuotaRow)) (next : ℕ) → IfSome (deepest place) (λ (above : Inode). above.id.0 < next) → next + length place.path < 2 ^ 64 → CanRaise (length place.path) quotas
    → CanMake place quotas next
can_make place quotas next below ids raise = at_missing place.missing
  where
    fewer : length (missing_names place) ≤ length place.path
    fewer = let cut = length-drop (length place.found.items - 1) place.path in omega arith

    room : (o : Option Inode) → IfSome o (λ (above : Inode). above.id.0 < next) → IfSome o (λ (above : Inode). HasRoomUnlessFull above place quotas next)
    room None low = tt
    room (Some above) low = λ fits. let few = fewer in record { below = low; ids = omega arith; raise = raise_fewer (length (missing_names place)) (length place.path) quotas few raise }

    at_missing : (o : Option Key) → IfSome o (λ (at : Key). IfSome (deepest place) (λ (above : Inode). HasRoomUnlessFull above place quotas next))
    at_missing None = tt
    at_missing (Some at) = room (deepest place) below

-- a view of one place that leads along its path, and where rows can be made, is one for every call of its path
pub view_of_one : (asked : Call) (place : Place) (view : View) → view.places.items ≡ place ∷ [] → path_of asked ≡ Some place.path → SpellsPlace place → CanMake place view.quotas.items view.next.0 → IsViewOf view asked
view_of_one asked place view one named spells can = record {
  only = ap length one;
  place = subst (λ (places : List Place). IfSome (slice_get places 0) (λ (p : Place). (path_of asked ≡ Some p.path) × Suits asked p view.quotas.items view.next.0)) (sym one) (named, record { spells = spells; room = λ makes. can });
}
