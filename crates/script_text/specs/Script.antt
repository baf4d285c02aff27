-- What a script is to its readers. This project's own.
use Rattle.name_space.specs.Script.{Script}
use Rattle.script_text.specs.declared.script.Script.TheInside.{Inside}

-- the script of these fields
abbrev pub script_of : Inside → Script
script_of s = record { namenodes = s.namenodes; clients = s.clients.items; stops = s.stops.items; tries = s.tries; grace = s.grace; persist = s.persist }
