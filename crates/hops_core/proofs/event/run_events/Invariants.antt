use Rattle.std.proofs.Common.{◌≡◌, ◌≤◌, length, take}
use Rattle.hops_core.specs.Events.{Runs}
use Rattle.hops_core.proofs.event.run_events.Given as goal

abbrev pub invariant-loop-event : goal.invariant-loop-event
invariant-loop-event l = record { runs : Runs l.initial.core (take l.event-index l.events) l.told.items l.core; told : length l.told.items ≡ l.event-index; room : length l.events ≤ l.told.room }
