-- What holds of every session after one is put, and after one goes.
use Rattle.std.proofs.Common.{◌≡◌, ℕ, Bool, true, false, ◌==◌, cond, Some, None, refl, sym, ap, subst, ◌∙◌, eqb-true}
use Rattle.std.specs.FinMap as map
use Rattle.std.specs.Cmp.{nat_cmp_total, unsigned_tied}
use Rattle.hops_base.specs.declared.ids.SessionId.{SessionId}
use Rattle.db_state.specs.declared.session.Session.{Session}
use Rattle.db_state.specs.State.{Sessions}
use Rattle.db_state.specs.Steps.{with_session}

-- the session of a number once one is put
pub get-with : (sessions : Sessions) (s t : SessionId) (session : Session) → map.get (with_session sessions s session) t.0 ≡ cond (t.0 == s.0) (Some session) (map.get sessions t.0)
get-with sessions s t session = map.get-insert nat_cmp_total sessions s.0 session t.0 ∙ ap (λ (b : Bool). cond b (Some session) (map.get sessions t.0)) (unsigned_tied t.0 s.0)

-- the session of a number once one goes
pub get-without : (sessions : Sessions) (s t : SessionId) → map.get (map.remove sessions s.0) t.0 ≡ cond (t.0 == s.0) None (map.get sessions t.0)
get-without sessions s t = map.get-remove nat_cmp_total sessions s.0 t.0 ∙ ap (λ (b : Bool). cond b None (map.get sessions t.0)) (unsigned_tied t.0 s.0)

-- what holds of the one that is put and of the others holds of all
pub with_all : (P : SessionId → Session → Type 0) (sessions : Sessions) (s : SessionId) (session : Session) → P s session
    → ((t : SessionId) (other : Session) → (t.0 == s.0) ≡ false → map.get sessions t.0 ≡ Some other → P t other)
    → (t : SessionId) (other : Session) → map.get (with_session sessions s session) t.0 ≡ Some other → P t other
with_all P sessions s session here others t other e =
    elim (t.0 == s.0) as (λ b. (t.0 == s.0) ≡ b → cond b (Some session) (map.get sessions t.0) ≡ Some other → P t other) [
      | true ↦ λ is f.
          let same : session ≡ other = cc in
          subst (λ (n : ℕ). P (record { 0 = n }) other) (sym (eqb-true t.0 s.0 is)) (subst (P s) same here)
      | false ↦ λ is f. others t other is f
    ] refl (sym (get-with sessions s t session) ∙ e)

-- what holds of all holds of those that are left
pub without_all : (P : SessionId → Session → Type 0) (sessions : Sessions) (s : SessionId) → ((t : SessionId) (other : Session) → map.get sessions t.0 ≡ Some other → P t other)
    → (t : SessionId) (other : Session) → map.get (map.remove sessions s.0) t.0 ≡ Some other → P t other
without_all P sessions s all t other e =
    elim (t.0 == s.0) as (λ b. cond b None (map.get sessions t.0) ≡ Some other → P t other) [
      | true ↦ λ f. absurd (let bad = f in cc)
      | false ↦ λ f. all t other f
    ] (sym (get-without sessions s t) ∙ e)
