use Rattle.std.proofs.Common.{◌≡◌, List, ℕ, take, map}
use Rattle.db_state.specs.State.{empty_seat}
use Rattle.db_state.proofs.db.empty_seats.Given as goal

abbrev pub invariant-loop : goal.invariant-loop
invariant-loop l = l.seats.items ≡ map (λ (user : List ℕ). empty_seat) (take l.index l.users)
