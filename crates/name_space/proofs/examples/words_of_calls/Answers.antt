use Rattle.std.proofs.Common.{refl}
use Rattle.name_space.proofs.examples.words_of_calls.Goals as goal

pub returns : goal.returns
returns c = refl
