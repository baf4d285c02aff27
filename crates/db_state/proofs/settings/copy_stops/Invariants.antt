use Rattle.std.proofs.Common.{◌≡◌, take}
use Rattle.db_state.proofs.settings.copy_stops.Given as goal

abbrev pub invariant-loop-stop : goal.invariant-loop-stop
invariant-loop-stop l = l.copy ≡ record { items = take l.stop-index l.stop-items; room = l.stops.room }
