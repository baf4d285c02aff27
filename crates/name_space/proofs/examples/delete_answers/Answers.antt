use Rattle.std.proofs.Common.{refl}
use Rattle.name_space.proofs.examples.delete_answers.Goals as goal

pub returns : goal.returns
returns c = refl
