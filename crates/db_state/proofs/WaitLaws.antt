-- No sessions wait for each other in a circle.
use Rattle.std.proofs.Common.{◌≡◌, List, [], ◌∷◌, ◌++◌, Option, Some, None, IsSome, refl}
use Rattle.std.specs.declared.cmp.Ordering.TheVariants.{Less}
use Rattle.hops_base.specs.declared.ids.SessionId.{SessionId}
use Rattle.hops_base.specs.declared.ids.Mode.{Mode}
use Rattle.hops_base.specs.declared.key.Key.{Key}
use Rattle.hops_base.specs.Key.{key_cmp, key_cmp_total}
use Rattle.row_locks.specs.Locks.{mode_of}
use Rattle.db_state.specs.State.{State}
use Rattle.db_state.specs.Core.{IsCore}
use Rattle.db_state.specs.Waits.{Waits, WaitInTurn}
use Rattle.db_state.proofs.TookLaws.{below_itself}
use Rattle.db_state.proofs.TakeLaws.{next_is_above}

module _ (state : State) (core : IsCore state) where
  held_below : (s t : SessionId) (w : Waits state s t) (key : Key) → IsSome (mode_of state.locks s key) → key_cmp key w.next.0 ≡ Less
  held_below s t w key held = go (mode_of state.locks s key) refl held
    where
      go : (o : Option Mode) → mode_of state.locks s key ≡ o → IsSome o → key_cmp key w.next.0 ≡ Less
      go None e some = let bad = some in cc
      go (Some mode) e some = next_is_above state s w.doing w.next core w.there w.asks key mode e

  -- along the sessions that wait in turn the keys rise
  climbs : (t : SessionId) (others : List SessionId) (s : SessionId) (k : Key) → IsSome (mode_of state.locks t k) → WaitInTurn state (t ∷ (others ++ s ∷ []))
      → (top : Key) × (key_cmp k top ≡ Less) × IsSome (mode_of state.locks s top)
  climbs t [] s k held waits = (waits.0.next.0, held_below t s waits.0 k held, waits.0.holds)
  climbs t (u ∷ others) s k held waits =
      let rest = climbs u others s waits.0.next.0 waits.0.holds waits.1 in
      (rest.0, key_cmp_total.trans k waits.0.next.0 rest.0 (held_below t u waits.0 k held) rest.1, rest.2)

  pub no_circle : (s : SessionId) (others : List SessionId) → WaitInTurn state (s ∷ (others ++ s ∷ [])) → ⊥
  no_circle s [] waits = below_itself waits.0.next.0 (held_below s s waits.0 waits.0.next.0 waits.0.holds)
  no_circle s (u ∷ others) waits =
      let top = climbs u others s waits.0.next.0 waits.0.holds waits.1 in
      below_itself top.0 (key_cmp_total.trans top.0 waits.0.next.0 top.0 (held_below s u waits.0 top.0 top.2) top.1)
