use Rattle.std.proofs.Common.{ap, ◌∙◌}
use Rattle.std.specs.FinMap as map
use Rattle.db_state.proofs.SessionTableLemmas.{gone_seen}
use Rattle.db_state.proofs.sessions.SessionTable.remove.Goals as goal

pub returns : goal.returns
returns c = gone_seen c.self.inside.sessions c.remove.new.self c.args.s.0 c.remove.ensures.updates.0 ∙ ap (λ sessions. map.remove sessions c.args.s.0) c.self.view_is
