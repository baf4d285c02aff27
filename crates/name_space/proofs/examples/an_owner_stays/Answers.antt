use Rattle.std.proofs.Common.{refl}
use Rattle.name_space.proofs.examples.an_owner_stays.Goals as goal

pub returns : goal.returns
returns c = refl
