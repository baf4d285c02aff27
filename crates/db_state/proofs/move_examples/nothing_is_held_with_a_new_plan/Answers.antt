use Rattle.std.proofs.Common.{[], refl, arith}
use Rattle.db_state.proofs.move_examples.nothing_is_held_with_a_new_plan.Goals as goal

pub returns-clause-a_plan : goal.returns-clause-a_plan
returns-clause-a_plan c = (record { again = []; found = []; missed = []; places = ([], refl); rows = refl; gaps = refl; before = tt; there = tt; gone = tt; one = omega arith }, refl)
