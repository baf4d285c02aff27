use Rattle.std.proofs.Common.{ap, ◌∙◌}
use Rattle.std.specs.FinMap as map
use Rattle.db_state.proofs.SessionTableLemmas.{put_seen}
use Rattle.db_state.proofs.sessions.SessionTable.put.Goals as goal

pub returns-clause-ok : goal.returns-clause-ok
returns-clause-ok c = put_seen c.self.inside.sessions c.insert.new.self c.args.s.0 c.args.session (λ q. c.in-Ok.ensures.updates.0 q) ∙ ap (λ sessions. map.insert sessions c.args.s.0 c.args.session) c.self.view_is
