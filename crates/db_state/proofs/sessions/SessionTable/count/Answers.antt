use Rattle.std.proofs.Common.{◌≡◌, Option, Some, IsSome, IfSome, ap, sym, subst, ◌∙◌}
use Rattle.std.specs.FinMap as map
use Rattle.db_state.specs.declared.session.Session.{Session}
use Rattle.db_state.specs.Stages.{next_key}
use Rattle.db_state.specs.Steps.{one_more}
use Rattle.db_state.proofs.SessionTableLemmas.{get_seen, changed_seen}
use Rattle.db_state.proofs.sessions.SessionTable.count.Goals as goal

pub count_in-requires-clause-there : goal.count_in-requires-clause-there
count_in-requires-clause-there c = subst IsSome (sym (ap (λ sessions. map.get sessions c.args.s.0) c.self.view_is) ∙ get_seen c.self.inside.sessions c.args.s.0) c.requires.there

pub count_in-requires-clause-asks : goal.count_in-requires-clause-asks
count_in-requires-clause-asks c = subst (λ (o : Option Session). IfSome o (λ doing. IsSome (next_key doing.stage))) (sym (ap (λ sessions. map.get sessions c.args.s.0) c.self.view_is) ∙ get_seen c.self.inside.sessions c.args.s.0) c.requires.asks

pub returns : goal.returns
returns c = λ doing there.
    let seen : map.get (map.from_entries c.self.inside.sessions.entries) c.args.s.0 ≡ Some doing = ap (λ sessions. map.get sessions c.args.s.0) c.self.view_is ∙ there in
    changed_seen c.self.inside.sessions c.count_in.new.sessions c.args.s.0 doing (λ (doing : Session). record doing { stage = one_more doing.stage }) seen c.count_in.ensures.sessions
    ∙ ap (λ sessions. map.insert sessions c.args.s.0 (record doing { stage = one_more doing.stage })) c.self.view_is
