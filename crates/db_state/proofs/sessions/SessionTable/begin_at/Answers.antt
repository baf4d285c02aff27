use Rattle.std.proofs.Common.{◌≡◌, false, Some, IsSome, ap, sym, subst, ◌∙◌}
use Rattle.std.specs.FinMap as map
use Rattle.db_state.specs.declared.session.Session.{Session}
use Rattle.db_state.proofs.SessionTableLemmas.{get_seen, changed_seen}
use Rattle.db_state.proofs.sessions.SessionTable.begin_at.Goals as goal

pub begin_in-requires-clause-there : goal.begin_in-requires-clause-there
begin_in-requires-clause-there c = subst IsSome (sym (ap (λ sessions. map.get sessions c.args.s.0) c.self.view_is) ∙ get_seen c.self.inside.sessions c.args.s.0) c.requires

pub returns : goal.returns
returns c = λ doing there.
    let seen : map.get (map.from_entries c.self.inside.sessions.entries) c.args.s.0 ≡ Some doing = ap (λ sessions. map.get sessions c.args.s.0) c.self.view_is ∙ there in
    changed_seen c.self.inside.sessions c.begin_in.new.sessions c.args.s.0 doing (λ (doing : Session). record doing { is_first = false; used_hints = false; since = c.args.since; stage = c.args.stage }) seen c.begin_in.ensures.sessions
    ∙ ap (λ sessions. map.insert sessions c.args.s.0 (record doing { is_first = false; used_hints = false; since = c.args.since; stage = c.args.stage })) c.self.view_is
