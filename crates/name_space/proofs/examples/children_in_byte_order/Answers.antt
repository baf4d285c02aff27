use Rattle.std.proofs.Common.{refl}
use Rattle.name_space.proofs.examples.children_in_byte_order.Goals as goal

pub returns : goal.returns
returns c = refl
