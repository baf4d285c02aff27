use Rattle.db_state.proofs.ReadsHoldLaws.{leaves_by, leaves_others, leaves_taker}
use Rattle.db_state.proofs.read_laws.notes_leave_locks.Goals as goal

pub returns : goal.returns
returns c = record { all = leaves_by; others = leaves_others; took = leaves_taker }
