use Rattle.db_state.proofs.PlaceLemmas.{ready_first}
use Rattle.db_state.proofs.tables.Tables.opening.Goals as goal

pub insert-requires : goal.insert-requires
insert-requires c = ready_first c.in_ok-tables.tables.inodes c.reserve.new.self c.in_ok-key.key c.in_ok-tables.ensures.inodes (rw (← c.from_ref.ensures.value) c.in_ok-reserve.ensures.ok)
