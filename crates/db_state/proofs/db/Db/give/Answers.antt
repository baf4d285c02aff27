use Rattle.db_state.proofs.db.Db.give.Goals as goal

pub give_back-requires-clause-open : goal.give_back-requires-clause-open
give_back-requires-clause-open c = (c.requires.0, c.requires.1.runs)
