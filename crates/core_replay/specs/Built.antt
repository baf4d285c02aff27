-- Which inputs need nothing but what is built. This project's own.
use Rattle.std.specs.Prelude.{Bool, true, false, not, ◌==◌, if◌then◌else◌, List, length, Option, Some, option_map}
use Rattle.std.specs.List.{position_from}
use Rattle.std.specs.Option.{option_map_or}
use Rattle.name_space.specs.Script.{Script, call_of}
use Rattle.hops_core.specs.Built.{is_built}
use Rattle.core_replay.specs.declared.listed.Listed.{Listed}
use Rattle.core_replay.specs.declared.listed.Listed.TheVariants.{Begin, Advance, Quit, Stop, Beat, Sweep}
use Rattle.core_replay.specs.declared.unbuilt.Unbuilt.{Unbuilt}
use Rattle.core_replay.specs.declared.unbuilt.Unbuilt.TheVariants as unbuilt

-- the event needs nothing that isn't built: it is a step, the end of a session, or the begin of a call of a kind that is built, or
-- of no call
abbrev pub is_built_event : Script → Listed → Bool
is_built_event script (Begin client number node) = option_map_or is_built (call_of script client number) true
is_built_event script (Advance session hints) = true
is_built_event script (Quit session) = true
is_built_event script (Stop node) = false
is_built_event script (Beat node) = false
is_built_event script Sweep = false

-- what the script and the events need first that isn't built: the script's stops, and else an event
abbrev pub first_unbuilt : Script → List Listed → Option Unbuilt
first_unbuilt script events =
    if length script.stops == 0 then option_map unbuilt.Event (position_from (λ (event : Listed). not (is_built_event script event)) 0 events) else Some unbuilt.Script
