-- The step of a session that answers its call.
use Rattle.std.proofs.Common.{◌≡◌, ℕ, Bool, true, false, cond, ◌==◌, List, length, Result, Ok, Err, IfOk, Option, Some, refl, sym, ap, subst, ◌∙◌, eqb-true}
use Rattle.std.specs.Cmp.{nat_cmp_total}
use Rattle.std.specs.FinMap as map
use Rattle.hops_base.specs.Roomy.{Roomy}
use Rattle.hops_base.specs.declared.ids.ClientNo.{ClientNo}
use Rattle.hops_base.specs.declared.ids.Mode.{Mode}
use Rattle.hops_base.specs.declared.ids.SessionId.{SessionId}
use Rattle.hops_base.specs.declared.key.Key.{Key}
use Rattle.hops_base.specs.declared.memory.NoMemory.{NoMemory}
use Rattle.name_space.specs.declared.call.Call.{Call}
use Rattle.name_space.specs.declared.call.OpKind.{OpKind}
use Rattle.name_space.specs.declared.reply.Reply.{Reply}
use Rattle.name_space.specs.Laws.{PlainKeepsANamespace}
use Rattle.db_state.specs.declared.outcome.Outcome.{Outcome}
use Rattle.db_state.specs.declared.outcome.Outcome.TheVariants.{Answer, Subtree}
use Rattle.db_state.specs.declared.session.Phase.TheVariants as phase
use Rattle.db_state.specs.declared.session.Position.{Position}
use Rattle.db_state.specs.declared.session.Session.{Session}
use Rattle.db_state.specs.declared.session.Stage.TheVariants.{Commit}
use Rattle.db_state.specs.declared.writes.Row.{Row}
use Rattle.db_state.specs.Callers.{IsAnswer}
use Rattle.db_state.specs.CallsTable.{IsCallsTable}
use Rattle.db_state.specs.Core.{IsCore}
use Rattle.db_state.specs.Effects.{KeepsOthers}
use Rattle.db_state.specs.Locked.{WritesOwn}
use Rattle.db_state.specs.Reads.{Reads}
use Rattle.db_state.specs.Stages.{position_of, with_position}
use Rattle.db_state.specs.State.{Sessions, State}
use Rattle.db_state.specs.Steps.{moved_by, with_session, Completes, IsRunning}
use Rattle.db_state.proofs.SessionMapLaws.{get-with}
use Rattle.hops_core.specs.declared.progress.Progress.TheVariants.{Done}
use Rattle.hops_core.specs.declared.view.Asked.{Asked}
use Rattle.hops_core.specs.Commits.{Answers, Commits}
use Rattle.hops_core.specs.Steps.{IsAt}
use Rattle.hops_core.specs.Views.{CanOutcome, IsAskedIn, IsCommitting, IsOutcome, IsOutcomeAt, IsOutcomeIn, IsOutcomeOf}
use Rattle.hops_core.proofs.CommitLemmas.{answers, can, committing, enough, place, viewed}
use Rattle.hops_core.proofs.StageLaws.{at_commit, same_session}

-- a session that is put where it is changes nothing
put_itself : (sessions : Sessions) (s : SessionId) (doing : Session) → map.get sessions s.0 ≡ Some doing → with_session sessions s doing ≡ sessions
put_itself sessions s doing is = map.same_map nat_cmp_total map.nat_cmp-IsAntisymmetric _ _ (λ q. get-with sessions s (record { 0 = q }) doing ∙ by_test q (q == s.0) refl)
  where
    by_test : (q : ℕ) (b : Bool) → (q == s.0) ≡ b → cond b (Some doing) (map.get sessions q) ≡ map.get sessions q
    by_test q true e = sym (ap (map.get sessions) (eqb-true q s.0 e) ∙ is)
    by_test q false e = refl

module _ (state : State) (s : SessionId) (at : IsAt state s phase.Commit) (core : IsCore state) where
  there : (reads : Reads) × (keys : List (Key × Mode)) × (at.doing.stage ≡ Commit reads keys)
  there = at_commit at.doing.stage at.here

  pub is_committing : IsCommitting state s
  is_committing = committing state s at.doing there.0 there.1 core at.steady at.runs there.2

  -- ---- it looks at what it has read

  module _ (asked : Asked) (for : IsAskedIn state s asked) where
    -- it has read enough
    pub may_look : (doing : Session) → IsRunning state s doing → CanOutcome doing.stage asked
    may_look doing runs =
        let one = place state s at.doing there.0 there.1 core at.steady at.runs there.2 in
        subst (λ (d : Session). CanOutcome d.stage asked) (same_session state s at.doing doing at.runs runs)
        (there.0, there.1, there.2, λ view made. enough state s at.doing there.0 there.1 core at.steady at.runs there.2 asked (for at.doing there.0 there.1 one.0 at.runs there.2 one.1) view made)

    -- the outcome by these reads is that of its call
    outcome_in : (doing : Session) (reads : Reads) (keys : List (Key × Mode)) → IsRunning state s doing → doing.stage ≡ Commit reads keys → (outcome : Outcome) → IsOutcomeOf reads asked outcome → IsOutcomeIn state doing reads outcome
    outcome_in doing reads keys runs stage outcome of =
        let one = place state s doing reads keys core at.steady runs stage in
        let is = for doing reads keys one.0 runs stage one.1 in
        record {
          view = of.view;
          user = asked.user;
          acts = is.user;
          viewed = viewed state s doing reads keys core at.steady runs stage asked is of.view of.made;
          table = subst (λ (c : ClientNo). IsCallsTable of.view c asked.user doing.call outcome) is.client (subst (λ (a : Call). IsCallsTable of.view asked.client asked.user a outcome) is.call of.table);
          own = subst (λ (c : ClientNo). WritesOwn of.view c doing.call outcome) is.client (subst (λ (a : Call). WritesOwn of.view asked.client a outcome) is.call of.own);
          keeps = subst (λ (c : ClientNo). KeepsOthers of.view c doing.call outcome) is.client (subst (λ (a : Call). KeepsOthers of.view asked.client a outcome) is.call of.keeps);
        }

    pub looks : (told : Result Outcome NoMemory) → IfOk told (IsOutcomeAt at.doing.stage asked) → IfOk told (IsOutcome state s)
    looks (Ok outcome) of = λ doing reads keys runs stage.
        outcome_in doing reads keys runs stage outcome (of reads keys (ap (λ (d : Session). d.stage) (same_session state s at.doing doing at.runs runs) ∙ stage))
    looks (Err why) of = tt

  -- and stays as it is
  pub stays : (new : Position) → new ≡ position_of at.doing → moved_by state s (with_position at.doing new) ≡ state
  stays new is =
      ap (λ (p : Position). moved_by state s (with_position at.doing p)) is
      ∙ ap (λ (sessions : Sessions). record state { sessions = sessions }) (put_itself state.sessions s at.doing at.runs.there)

  -- ---- it answers

  module _ (outcome : Outcome) (of : IsOutcome state s outcome) (keeps : PlainKeepsANamespace) where
    -- no operation is needed
    pub no_operation : (kind : OpKind) → outcome ≡ Subtree kind → ⊥
    no_operation kind is =
        let out = of at.doing there.0 there.1 at.runs there.2 in
        subst (IsCallsTable out.view at.doing.client out.user at.doing.call) is out.table

    module _ (reply : Reply) (writes : Roomy (Key × Option Row)) (is : outcome ≡ Answer reply writes) where
      pub may_answer : IsAnswer state s writes.items reply
      may_answer = (
        at.doing,
        there.0,
        there.1,
        can state s at.doing there.0 there.1 core at.steady at.runs there.2 outcome (of at.doing there.0 there.1 at.runs there.2) reply writes is keeps,
      )

      pub has_answered : (new : State) (count : ℕ) (told : Reply) → ((doing : Session) → map.get state.sessions s.0 ≡ Some doing → Completes state new s doing writes.items reply)
          → count ≡ length state.stored.notes → told ≡ reply → Commits state s (Done count told) new
      has_answered new count told completes counted copied = λ doing runs.
          subst (λ (d : Session). Answers state new s d count told) (same_session state s at.doing doing at.runs runs)
          (answers state s at.doing there.0 there.1 core at.steady at.runs there.2 outcome (of at.doing there.0 there.1 at.runs there.2) reply writes is keeps new count told
          (completes at.doing at.runs.there) counted copied)
