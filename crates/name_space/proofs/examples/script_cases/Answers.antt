use Rattle.std.proofs.Common.{refl, sym, rules, arith}
use Rattle.std.specs.List.{IsDistinct}
use Rattle.std.specs.Str.{is_utf8, chars}
use Rattle.std.proofs.lemmas.Bool.{true≢false}
use Rattle.name_space.proofs.examples.script_cases.Goals as goal

pub returns : goal.returns
unfolding IsDistinct is_utf8 chars lib.Utf8.encode
returns c = record {
  two = record { namenodes = (omega arith, omega arith); clients = (omega arith, refl); stops = (refl, search rules); tries = refl; grace = refl };
  smallest = record { namenodes = (omega arith, omega arith); clients = (omega arith, refl); stops = (refl, search rules); tries = refl; grace = refl };
  largest = record { namenodes = (omega arith, omega arith); clients = (omega arith, refl); stops = (refl, search rules); tries = refl; grace = refl };
  no_namenode = λ is. let few = is.namenodes.0 in absurd (omega arith);
  more_namenodes = λ is. let few = is.namenodes.1 in absurd (omega arith);
  more_clients = λ is. let few = is.clients.0 in absurd (omega arith);
  no_client = λ is. true≢false (sym is.clients.1);
  no_stop = λ is. true≢false (sym is.stops.0);
  two_stops = λ is. true≢false (is.stops.1.0.0);
  no_tries = λ is. true≢false (sym is.tries);
  no_grace = λ is. true≢false (sym is.grace);
}
