use Rattle.std.proofs.Common.{◌≡◌, None, sym}
use Rattle.std.specs.Map.{lookup}
use Rattle.hops_base.specs.Key.{same_key}
use Rattle.row_store.proofs.SlotLemmas.{remove_entry-none}
use Rattle.row_store.proofs.slots.clear.Goals as goal

pub returns-in-None-clause-slots : goal.returns-in-None-clause-slots
returns-in-None-clause-slots g c =
    let none : lookup (same_key c.args.key.now) c.args.slots.now.items ≡ None = rw (← c.deref.ensures.value) c.in-None.ensures in
    sym (remove_entry-none c.args.key.now c.args.slots.now.items none)
