use Rattle.db_state.proofs.LimitLaws.{stands_requoted, counts_requoted}
use Rattle.db_state.proofs.row_laws.a_row_gets_another_quota.Goals as goal

pub returns : goal.returns
returns c = record { stands = stands_requoted; counts = counts_requoted }
