-- How many of the clients' last sessions hold keys, once one of them is changed.
use Rattle.std.proofs.Common.{◌≡◌, ◌≢◌, ℕ, ◌+◌, zero, suc, Bool, cond, List, [], ◌∷◌, slice_get, slice_set, Option, Some, None, arith, refl, sym, ap, ◌∙◌, eq-eqb}
use Rattle.std.proofs.lemmas.Bool.{ne_eqb}
use Rattle.std.proofs.lemmas.List.Sums.{sum_by-cons}
use Rattle.std.specs.List.{sum_by}
use Rattle.std.specs.FinMap as map
use Rattle.hops_base.specs.declared.ids.SessionId.{SessionId}
use Rattle.db_state.specs.declared.session.Seat.{Seat}
use Rattle.db_state.specs.declared.session.Session.{Session}
use Rattle.db_state.specs.Inside.{has_any, one_if, one_if_holding, named_session, holders}
use Rattle.db_state.specs.Stages.{keys_in}
use Rattle.db_state.specs.State.{Sessions}
use Rattle.db_state.specs.Steps.{with_session}
use Rattle.db_state.proofs.SessionMapLaws.{get-with}

module _ {X : Type 0} where
  -- nothing changes that is summed
  sum_still : (f g : X → ℕ) (xs : List X) → ((j : ℕ) (z : X) → slice_get xs j ≡ Some z → g z ≡ f z) → sum_by g xs ≡ sum_by f xs
  sum_still f g [] all = refl
  sum_still f g (z ∷ xs) all =
      let here : g z ≡ f z = all zero z refl in
      let rest = sum_still f g xs (λ j z' e'. all (suc j) z' e') in
      let a = sum_by-cons g z xs in
      let b = sum_by-cons f z xs in
      omega arith

  -- one of the items is another, and of the others nothing changes that is summed
  pub sum_moved : (f g : X → ℕ) (xs : List X) (i : ℕ) (x y : X) → slice_get xs i ≡ Some x → ((j : ℕ) (z : X) → j ≢ i → slice_get xs j ≡ Some z → g z ≡ f z)
      → sum_by g (slice_set xs i y) + f x ≡ sum_by f xs + g y
  sum_moved f g [] i x y e others = absurd (let bad = e in cc)
  sum_moved f g (z ∷ xs) zero x y e others =
      let same : z ≡ x = cc in
      let here : f z ≡ f x = ap f same in
      let rest : sum_by g xs ≡ sum_by f xs = sum_still f g xs (λ j z' e'. others (suc j) z' (λ bad. let worse = bad in cc) e') in
      let a = sum_by-cons g y xs in
      let b = sum_by-cons f z xs in
      omega arith
  sum_moved f g (z ∷ xs) (suc i) x y e others =
      let here : g z ≡ f z = others zero z (λ bad. let worse = bad in cc) refl in
      let rest = sum_moved f g xs i x y e (λ j z' apart e'. others (suc j) z' (λ same. apart (pred_of j i same)) e') in
      let a = sum_by-cons g z (slice_set xs i y) in
      let b = sum_by-cons f z xs in
      omega arith
    where
      pred_of : (j i : ℕ) → suc j ≡ suc i → j ≡ i
      pred_of j i same = omega arith

  -- an item that is set to itself
  pub set_itself : (xs : List X) (i : ℕ) (x : X) → slice_get xs i ≡ Some x → slice_set xs i x ≡ xs
  set_itself [] i x e = refl
  set_itself (z ∷ xs) zero x e = let same : z ≡ x = cc in ap (λ (w : X). w ∷ xs) (sym same)
  set_itself (z ∷ xs) (suc i) x e = ap (λ (ws : List X). z ∷ ws) (set_itself xs i x e)

-- a session that isn't the one that is put is what it was
named_still : (sessions : Sessions) (s : SessionId) (new : Session) (last : Option SessionId) → last ≢ Some s → named_session (with_session sessions s new) last ≡ named_session sessions last
named_still sessions s new None apart = refl
named_still sessions s new (Some t) apart =
    get-with sessions s t new ∙ ap (λ (b : Bool). cond b (Some new) (map.get sessions t.0)) (ne_eqb t.0 s.0 (λ same. apart (ap (λ (n : ℕ). Some (record { 0 = n })) same)))

-- a session is put in its client's seat, in which nobody else's last session is
pub holders_moved : (seats : List Seat) (sessions : Sessions) (i : ℕ) (x y : Seat) (s : SessionId) (new : Session)
    → slice_get seats i ≡ Some x → x.last ≡ Some s → y.last ≡ Some s
    → ((j : ℕ) (z : Seat) → j ≢ i → slice_get seats j ≡ Some z → z.last ≢ Some s)
    → holders (slice_set seats i y) (with_session sessions s new) + one_if_holding (map.get sessions s.0) ≡ holders seats sessions + one_if (has_any (keys_in new.stage))
holders_moved seats sessions i x y s new there last last' others =
    let f : Seat → ℕ = λ seat. one_if_holding (named_session sessions seat.last) in
    let g : Seat → ℕ = λ seat. one_if_holding (named_session (with_session sessions s new) seat.last) in
    let moved = sum_moved f g seats i x y there (λ j z apart e. ap one_if_holding (named_still sessions s new z.last (others j z apart e))) in
    let before : f x ≡ one_if_holding (map.get sessions s.0) = ap (λ (o : Option SessionId). one_if_holding (named_session sessions o)) last in
    let after : g y ≡ one_if (has_any (keys_in new.stage)) =
    ap (λ (o : Option SessionId). one_if_holding (named_session (with_session sessions s new) o)) last' ∙ ap one_if_holding (get-with sessions s s new ∙ ap (λ (b : Bool). cond b (Some new) (map.get sessions s.0)) (eq-eqb s.0 s.0 refl)) in
    sym (ap (λ (n : ℕ). holders (slice_set seats i y) (with_session sessions s new) + n) before) ∙ moved ∙ ap (λ (n : ℕ). holders seats sessions + n) after

-- an item that is set twice is what it was set to last
pub set_twice : {X : Type 0} (xs : List X) (i : ℕ) (x y : X) → slice_set (slice_set xs i x) i y ≡ slice_set xs i y
set_twice [] i x y = refl
set_twice (z ∷ xs) zero x y = refl
set_twice (z ∷ xs) (suc i) x y = ap (λ ws. z ∷ ws) (set_twice xs i x y)
