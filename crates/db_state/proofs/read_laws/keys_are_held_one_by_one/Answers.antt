use Rattle.db_state.proofs.ReadsHoldLaws.{holds_still, holds_none, holds_took, holds_plan}
use Rattle.db_state.proofs.read_laws.keys_are_held_one_by_one.Goals as goal

pub returns : goal.returns
returns c = record { held = holds_still; none = holds_none; took = holds_took; plan = holds_plan }
