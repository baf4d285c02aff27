use Rattle.std.proofs.Common.{IsSome, ap, sym, subst, ◌∙◌}
use Rattle.std.specs.FinMap as map
use Rattle.db_state.specs.Stages.{with_position}
use Rattle.db_state.proofs.SessionTableLemmas.{get_seen, put_seen}
use Rattle.db_state.proofs.sessions.SessionTable.change.Goals as goal

pub change_in-requires-clause-there : goal.change_in-requires-clause-there
change_in-requires-clause-there g c = subst IsSome (sym (ap (λ sessions. map.get sessions c.args.s.0) c.self.view_is) ∙ get_seen c.self.inside.sessions c.args.s.0) c.requires.there

pub change_in-requires-clause-may : goal.change_in-requires-clause-may
change_in-requires-clause-may g c = λ doing there. c.requires.may doing (sym (ap (λ sessions. map.get sessions c.args.s.0) c.self.view_is) ∙ get_seen c.self.inside.sessions c.args.s.0 ∙ there)

pub returns : goal.returns
returns g c = λ doing there.
    let changed = c.change_in.ensures.changed doing (sym (get_seen c.self.inside.sessions c.args.s.0) ∙ ap (λ sessions. map.get sessions c.args.s.0) c.self.view_is ∙ there) in
    (changed.0, changed.1, put_seen c.self.inside.sessions c.change_in.new.sessions c.args.s.0 (with_position doing changed.0) changed.2 ∙ ap (λ sessions. map.insert sessions c.args.s.0 (with_position doing changed.0)) c.self.view_is)
