use Rattle.std.proofs.Common.{refl, arith}
use Rattle.std.specs.List.{IsDistinct}
use Rattle.report_text.proofs.tests.empty_report.Goals as goal

pub new-script-requires : goal.new-script-requires
unfolding IsDistinct
new-script-requires g c =
    record {
      namenodes = (omega arith, omega arith);
      clients = rw c.new-clients.ensures (omega arith, refl);
      stops = rw c.new.ensures (refl, tt);
      tries = refl;
      grace = refl;
    }
