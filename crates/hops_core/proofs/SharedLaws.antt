-- Which calls may be begun, and which sessions are open.
use Rattle.std.proofs.Common.{◌≡◌, ◌<◌, true, false, length, Option, Some, None, IfSome, slice_get, unwrap_or, refl, sym, ap, subst, ◌∙◌, arith}
use Rattle.std.specs.FinMap as map
use Rattle.hops_base.specs.declared.ids.ClientNo.{ClientNo}
use Rattle.hops_base.specs.declared.ids.SessionId.{SessionId}
use Rattle.db_state.specs.declared.session.Seat.{Seat}
use Rattle.db_state.specs.declared.session.Session.{Session}
use Rattle.db_state.specs.Core.{IsCore}
use Rattle.db_state.specs.Stages.{is_over}
use Rattle.db_state.specs.State.{State, empty_seat}
use Rattle.db_state.specs.Steps.{seat_of, HasNoOpen}
use Rattle.chain_check.proofs.LeftLaws.{some_at}
use Rattle.hops_core.specs.Shared.{HasOpen}

-- a client has a seat
pub has_seat : (state : State) (client : ClientNo) → IsCore state → client.0 < length state.stored.settings.users → slice_get state.seats client.0 ≡ None → ⊥
has_seat state client core low none =
    let each : length state.seats ≡ length state.stored.settings.users = core.seats.each in
    let some = some_at state.seats client.0 (omega arith) in
    let bad = sym some.1 ∙ none in cc

module _ (state : State) (client : ClientNo) (seat : Seat) (there : slice_get state.seats client.0 ≡ Some seat) where
  pub seat_is : seat_of state.seats client ≡ seat
  seat_is = ap (λ (o : Option Seat). unwrap_or o empty_seat) there

  over_or : (s : SessionId) → seat.last ≡ Some s → (HasOpen state seat → ⊥) → (o : Option Session) → map.get state.sessions s.0 ≡ o → IfSome o (λ last. is_over last.stage ≡ true)
  over_or s last shut None is = tt
  over_or s last shut (Some doing) is = (elim (is_over doing.stage) as (λ b. is_over doing.stage ≡ b → b ≡ true) [
    | true ↦ λ e. refl
    | false ↦ λ e. absurd (shut (s, last, (doing, record { there = is; running = e })))
  ]) refl

  idle_for : (HasOpen state seat → ⊥) → (last : Option SessionId) → seat.last ≡ last → IfSome last (λ s. IfSome (map.get state.sessions s.0) (λ doing. is_over doing.stage ≡ true))
  idle_for shut None is = tt
  idle_for shut (Some s) is = over_or s is shut (map.get state.sessions s.0) refl

  -- where the client's last session isn't open, it has no open one
  pub idle : (HasOpen state seat → ⊥) → HasNoOpen state client
  idle shut = subst (λ (x : Seat). IfSome x.last (λ s. IfSome (map.get state.sessions s.0) (λ doing. is_over doing.stage ≡ true))) (sym seat_is) (idle_for shut seat.last refl)

  -- and where it is, it has
  pub busy : HasOpen state seat → HasNoOpen state client → ⊥
  busy shown none =
      let at : IfSome seat.last (λ s. IfSome (map.get state.sessions s.0) (λ doing. is_over doing.stage ≡ true)) =
      subst (λ (x : Seat). IfSome x.last (λ s. IfSome (map.get state.sessions s.0) (λ doing. is_over doing.stage ≡ true))) seat_is none in
      let over : IfSome (map.get state.sessions shown.0.0) (λ doing. is_over doing.stage ≡ true) = subst (λ (o : Option SessionId). IfSome o (λ s. IfSome (map.get state.sessions s.0) (λ doing. is_over doing.stage ≡ true))) shown.1 at in
      let so : is_over shown.2.0.stage ≡ true = subst (λ (o : Option Session). IfSome o (λ doing. is_over doing.stage ≡ true)) shown.2.1.there over in
      let bad = sym shown.2.1.running ∙ so in cc
