use Rattle.db_state.proofs.PlaceLemmas.{same_places_set, same_places_insert}
use Rattle.db_state.proofs.tables.put_inode.Goals as goal

pub returns-then-is_some-clause-places : goal.returns-then-is_some-clause-places
returns-then-is_some-clause-places c = same_places_set _ _ _ _ c.set.ensures.rows c.set.ensures.ready

pub returns-else-is_some-clause-places : goal.returns-else-is_some-clause-places
returns-else-is_some-clause-places c = same_places_insert _ _ _ _ c.insert.ensures.rows c.insert.ensures.ready
