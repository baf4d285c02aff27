use Rattle.std.proofs.Common.{ap, sym, ◌∙◌}
use Rattle.std.specs.FinMap as map
use Rattle.db_state.proofs.SessionTableLemmas.{get_seen}
use Rattle.db_state.proofs.sessions.SessionTable.get.Goals as goal

pub returns : goal.returns
returns c = c.get.ensures.value ∙ sym (get_seen c.self.inside.sessions c.args.s.0) ∙ ap (λ sessions. map.get sessions c.args.s.0) c.self.view_is
