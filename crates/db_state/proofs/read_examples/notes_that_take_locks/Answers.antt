use Rattle.std.proofs.Common.{◌≡◌, true, false, refl}
use Rattle.hops_base.specs.Ids.{session}
use Rattle.hops_base.specs.declared.ids.Mode.TheVariants.{Exclusive}
use Rattle.db_state.specs.ReadSamples.{d_key}
use Rattle.db_state.proofs.read_examples.notes_that_take_locks.Goals as goal

pub returns-clause-gave : goal.returns-clause-gave
returns-clause-gave c leaves = let bad : true ≡ false = leaves (record { session = session 1; key = d_key; mode = Exclusive }) refl in cc

pub returns-clause-did : goal.returns-clause-did
returns-clause-did c leaves = let bad : true ≡ false = leaves (record { session = session 1; key = d_key; mode = Exclusive }) refl in cc

pub returns-clause-gone : goal.returns-clause-gone
returns-clause-gone c leaves = let bad : true ≡ false = leaves (record { session = session 1; key = d_key; mode = Exclusive }) refl in cc
