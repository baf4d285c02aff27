use Rattle.std.proofs.Common.{refl}
use Rattle.name_space.proofs.examples.who_calls.Goals as goal

pub returns : goal.returns
returns c = record { clients = refl; users = refl; calls = refl; no_calls = refl }
