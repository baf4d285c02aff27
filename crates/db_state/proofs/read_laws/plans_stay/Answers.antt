use Rattle.db_state.proofs.ReadsAgainLaws.{plan_read}
use Rattle.db_state.proofs.ReadsViewLaws.{plan_of_view}
use Rattle.db_state.proofs.read_laws.plans_stay.Goals as goal

pub returns : goal.returns
returns c = record { read = plan_read; view = plan_of_view }
