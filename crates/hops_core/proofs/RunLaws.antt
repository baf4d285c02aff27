-- Events one after another.
use Rattle.std.proofs.Common.{◌≡◌, ℕ, ◌+◌, ◌<◌, zero, suc, List, [], ◌∷◌, ◌++◌, length, take, get_or, refl, sym, ap, subst, ◌∙◌, arith}
use Rattle.db_state.specs.Core.{IsCore}
use Rattle.db_state.specs.State.{State}
use Rattle.hops_core.specs.declared.event.Event.{Event}
use Rattle.hops_core.specs.declared.event.EventAnswer.{EventAnswer}
use Rattle.hops_core.specs.Events.{Happens, Runs}

-- one event more
pub runs_push : (old mid new : State) (events : List Event) (answers : List EventAnswer) (event : Event) (answer : EventAnswer) → Runs old events answers mid → Happens mid event answer new → IsCore new
    → Runs old (events ++ event ∷ []) (answers ++ answer ∷ []) new
runs_push old mid new [] [] event answer runs happens core = (new, subst (λ (x : State). Happens x event answer new) runs happens, core, refl)
runs_push old mid new [] (a ∷ answers) event answer runs happens core = absurd runs
runs_push old mid new (e ∷ events) [] event answer runs happens core = absurd runs
runs_push old mid new (e ∷ events) (a ∷ answers) event answer runs happens core = (runs.0, runs.1, runs.2, runs_push runs.0 mid new events answers event answer runs.3 happens core)

take_next : {A : Type 0} (xs : List A) (i : ℕ) (x : A) → i < length xs → x ≡ get_or xs i x → take (suc i) xs ≡ take i xs ++ x ∷ []
take_next [] i x low is = absurd (omega arith)
take_next (y ∷ ys) zero x low is = ap (λ z. z ∷ []) (sym is)
take_next (y ∷ ys) (suc i) x low is = ap (λ zs. y ∷ zs) (take_next ys i x (omega arith) is)

pub runs_next : (old mid new : State) (events : List Event) (i : ℕ) (answers : List EventAnswer) (event : Event) (answer : EventAnswer) → i < length events → event ≡ get_or events i event
    → Runs old (take i events) answers mid → Happens mid event answer new → IsCore new → Runs old (take (i + 1) events) (answers ++ answer ∷ []) new
runs_next old mid new events i answers event answer low is runs happens core =
    let one : suc i ≡ i + 1 = omega arith in
    subst (λ (es : List Event). Runs old es (answers ++ answer ∷ []) new) (sym (take_next events i event low is) ∙ ap (λ (n : ℕ). take n events) one) (runs_push old mid new (take i events) answers event answer runs happens core)
