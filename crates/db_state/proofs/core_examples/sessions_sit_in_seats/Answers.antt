use Rattle.std.proofs.Common.{◌<◌, Some, refl, arith}
use Rattle.hops_base.specs.Ids.{session}
use Rattle.db_state.specs.CoreSamples.{seat_with}
use Rattle.db_state.proofs.core_examples.sessions_sit_in_seats.Goals as goal

pub returns-clause-running : goal.returns-clause-running
returns-clause-running c = record { seat = seat_with 1 0 (Some (session 1)); there = refl; last = refl; number = λ runs. refl; low = λ runs. (let less : 0 < 1 = omega arith in less) }

pub returns-clause-over : goal.returns-clause-over
returns-clause-over c = record { seat = seat_with 2 1 (Some (session 1)); there = refl; last = refl; number = λ runs. absurd (let bad = runs in cc); low = λ runs. absurd (let bad = runs in cc) }
