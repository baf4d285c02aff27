use Rattle.std.proofs.Common.{◌≡◌, Some, None, sym, ◌∙◌}
use Rattle.db_state.specs.ReadSamples.{d_row, x_row}
use Rattle.db_state.proofs.ReadSampleLemmas.{x_is}
use Rattle.db_state.proofs.read_examples.places_are_read_again.Goals as goal

pub returns-clause-there : goal.returns-clause-there
returns-clause-there c read = let bad : Some x_row ≡ None = sym (x_is d_row x_row) ∙ read.missing in cc
