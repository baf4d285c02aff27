use Rattle.db_state.proofs.PlaceLemmas.{same_places_remove}
use Rattle.db_state.proofs.tables.remove.Goals as goal

pub returns-clause-places : goal.returns-clause-places
returns-clause-places c = (
  same_places_remove c.args.tables.now.inodes c.remove.new.self c.args.key c.remove.ensures.rows c.remove.ensures.ready,
  same_places_remove c.args.tables.now.quotas c.remove-2.new.self c.args.key c.remove-2.ensures.rows c.remove-2.ensures.ready,
)
