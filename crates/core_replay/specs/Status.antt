-- The exit statuses. This project's own.
use Rattle.std.specs.Prelude.{ℕ}
use Rattle.core_replay.specs.declared.status.Status.{Status}
use Rattle.core_replay.specs.declared.status.Status.TheVariants.{Done, Usage, BadInput, ReadFault, WriteFault, TooLarge, NoMemory, NotBuilt}

-- the exit status
abbrev pub status_number : Status → ℕ
status_number Done = 0
status_number (Usage place) = 2
status_number (BadInput fault) = 3
status_number ReadFault = 4
status_number WriteFault = 5
status_number TooLarge = 6
status_number NoMemory = 7
status_number (NotBuilt what) = 8
