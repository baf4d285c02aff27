-- What is told of a step that isn't the last, and where a session is that has left a phase.
use Rattle.std.proofs.Common.{◌≡◌, ℕ, ◌+◌, ◌≤◌, ◌<◌, true, false, ◌==◌, refl, ap, sym, ◌∙◌, arith, eqb-true}
use denote.Enum.Bare.{tag_one}
use denote.Enum.Declared.{tag_of}
use Rattle.std.proofs.lemmas.Bool.{eq-eqb}
use Rattle.hops_base.specs.declared.ids.SessionId.{SessionId}
use Rattle.db_state.specs.contracts.session.Phase.{the_type}
use Rattle.db_state.specs.declared.session.Phase.{Phase}
use Rattle.db_state.specs.declared.session.Phase.TheVariants as phase
use Rattle.db_state.specs.declared.session.Stage.{Stage}
use Rattle.db_state.specs.Core.{IsCore}
use Rattle.db_state.specs.Stages.{phase_of}
use Rattle.db_state.specs.State.{State}
use Rattle.hops_core.specs.declared.progress.Progress.{Progress}
use Rattle.hops_core.specs.declared.progress.Progress.TheVariants.{More, Met, Done, Fenced, NoMemory}
use Rattle.hops_core.specs.Events.{IsAdvance}
use Rattle.hops_cli.specs.Turning.{rank, Start, IsUnderway}
use Rattle.hops_cli.proofs.WayLemmas.{never_meets}

-- the places of phases are their numbers
rank_tag : (at : Phase) → rank at ≡ tag_of the_type at
rank_tag phase.Resolve = refl
rank_tag phase.Lock = refl
rank_tag phase.Read = refl
rank_tag phase.Reread = refl
rank_tag phase.Commit = refl
rank_tag phase.GateLock = refl
rank_tag phase.Flag = refl
rank_tag phase.Quiesce = refl
rank_tag phase.Batch = refl
rank_tag phase.Reclaim = refl
rank_tag phase.Answered = refl

-- a phase that isn't before another, and isn't the other, is behind it
pub behind : (at now : Phase) → rank at ≤ rank now → (now ≡ at → ⊥) → rank at + 1 ≤ rank now
behind at now low apart =
    (elim (rank now == rank at) as (λ b. (rank now == rank at) ≡ b → rank at + 1 ≤ rank now) [
      | true ↦ λ is. absurd (apart (tag_one the_type tt now at (sym (rank_tag now) ∙ eqb-true (rank now) (rank at) is ∙ rank_tag at)))
      | false ↦ λ is. (let other : rank now ≡ rank at → ⊥ = λ same. (let yes = eq-eqb (rank now) (rank at) same in let bad : true ≡ false = sym yes ∙ is in absurd (let no = bad in cc)) in omega arith)
    ]) refl

-- before a session comes to answer, its step tells that there is more, or that memory ran out
pub only_more : (start : Start) (s : SessionId) (r : ℕ) (old new : State) (u : IsUnderway start s r old) → IsCore old → rank (phase_of u.doing.stage) < 4 → (told : Progress)
    → IsAdvance old s u.doing told new → (told ≡ More → ⊥) → (told ≡ NoMemory → ⊥) → ⊥
only_more start s r old new u core early More g no_more no_memory = no_more refl
only_more start s r old new u core early (Met i) g no_more no_memory = never_meets start s r old new i u core u.doing.stage g
only_more start s r old new u core early (Done i reply) g no_more no_memory =
    let last : rank (phase_of u.doing.stage) ≡ 4 = ap (λ (at : Stage). rank (phase_of at)) g.can.stage in
    omega arith
only_more start s r old new u core early (Fenced i) g no_more no_memory = g
only_more start s r old new u core early NoMemory g no_more no_memory = no_memory refl
