use Rattle.std.proofs.Common.{refl, arith}
use Rattle.std.specs.List.{IsDistinct}
use Rattle.script_text.proofs.tests.all_said.Goals as goal

pub new-script-requires : goal.new-script-requires
unfolding IsDistinct
new-script-requires c =
    record {
      namenodes = (omega arith, omega arith);
      clients = rw c.new.ensures (omega arith, refl);
      stops = rw (c.push-2.ensures, c.push.ensures, c.in_ok-reserve.ensures.ok, c.new-stops.ensures) (refl, ((refl, tt), (tt, tt)));
      tries = refl;
      grace = refl;
    }
