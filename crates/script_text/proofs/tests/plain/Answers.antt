use Rattle.std.proofs.Common.{refl, arith}
use Rattle.std.specs.List.{IsDistinct}
use Rattle.script_text.proofs.tests.plain.Goals as goal

pub new-requires-2 : goal.new-requires-2
unfolding IsDistinct
new-requires-2 c =
    record {
      namenodes = (omega arith, omega arith);
      clients = (c.requires.number, c.requires.clients);
      stops = rw c.new.ensures (refl, tt);
      tries = refl;
      grace = refl;
    }
