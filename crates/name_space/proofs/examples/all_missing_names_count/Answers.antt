use Rattle.std.proofs.Common.{refl}
use Rattle.name_space.proofs.examples.all_missing_names_count.Goals as goal

pub returns : goal.returns
returns c = refl
