use Rattle.std.proofs.Common.{refl, arith}
use Rattle.std.specs.List.{IsDistinct}
use Rattle.script_text.proofs.Literals.{on_literals}
use Rattle.report_text.proofs.examples.first_report_consists_of_names.Goals as goal

pub returns-clause-names : goal.returns-clause-names
unfolding on_literals IsDistinct
returns-clause-names c = record {
  script = record { namenodes = (omega arith, omega arith); clients = (omega arith, refl); stops = (refl, tt); tries = refl; grace = refl };
  notes = refl;
  answers = refl;
  tree = refl;
}

pub returns-clause-numbers : goal.returns-clause-numbers
returns-clause-numbers c = refl
