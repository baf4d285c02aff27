use Rattle.std.proofs.Common.{◌≡◌, drop}
use Rattle.db_state.specs.Written.{next_after}
use Rattle.db_state.proofs.rows.next_id.Given as goal

abbrev pub invariant-loop-row : goal.invariant-loop-row
invariant-loop-row l = next_after l.next (drop l.row-index l.writes) ≡ next_after l.initial.next l.writes
