use Rattle.row_store.proofs.SlotLemmas.{searched}
use Rattle.row_store.proofs.slots.index_of.Goals as goal

pub returns : goal.returns
returns g c = searched _ _ _ c.position_of.ensures
