use Rattle.row_store.proofs.TableLemmas.{get_rows}
use Rattle.row_store.proofs.rows.Rows.get.Goals as goal

pub returns : goal.returns
returns g c = rw (← c.self.view_is, get_rows c.self.inside.slots.items c.self.invariant c.args.key.now, ← c.deref.ensures.value) c.row_of.ensures
