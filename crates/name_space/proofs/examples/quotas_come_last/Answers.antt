use Rattle.std.proofs.Common.{refl}
use Rattle.name_space.proofs.examples.quotas_come_last.Goals as goal

pub returns : goal.returns
returns c = refl
