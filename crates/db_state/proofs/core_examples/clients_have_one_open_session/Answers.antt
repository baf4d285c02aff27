use Rattle.std.proofs.Common.{◌≡◌, true, false, Option, IfSome, refl, sym, subst, ◌∙◌}
use Rattle.std.specs.FinMap as map
use Rattle.hops_base.specs.Ids.{session, client, node}
use Rattle.commit_log.specs.Samples.{look}
use Rattle.db_state.specs.declared.session.Session.{Session}
use Rattle.db_state.specs.declared.session.Stage.TheVariants.{Answered}
use Rattle.db_state.specs.Stages.{is_over}
use Rattle.db_state.specs.Steps.{new_session}
use Rattle.db_state.specs.CoreSamples.{first_at, alone_in, holder}
use Rattle.db_state.proofs.SessionMapLaws.{get-with, get-without}
use Rattle.db_state.proofs.CoreSampleLemmas.{first_there}
use Rattle.db_state.proofs.core_examples.clients_have_one_open_session.Goals as goal

pub returns-clause-over : goal.returns-clause-over
returns-clause-over c = subst (λ (o : Option Session). IfSome o (λ last. is_over last.stage ≡ true)) (sym (first_there (first_at Answered))) refl

pub returns-clause-running : goal.returns-clause-running
returns-clause-running c idle = let bad : false ≡ true = subst (λ (o : Option Session). IfSome o (λ last. is_over last.stage ≡ true)) (first_there holder) idle in cc

pub returns-clause-sessions : goal.returns-clause-sessions
returns-clause-sessions c = (
  get-with (map.remove (alone_in (first_at Answered)) 1) (session 2) (session 1) (new_session (client 0) 2 look (node 0) 2) ∙ get-without (alone_in (first_at Answered)) (session 1) (session 1),
  get-with (map.remove (alone_in (first_at Answered)) 1) (session 2) (session 2) (new_session (client 0) 2 look (node 0) 2),
)
