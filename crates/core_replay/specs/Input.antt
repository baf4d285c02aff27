-- Which bytes are which script and events, and what is wrong with the others. This project's own.
use Rattle.std.specs.Prelude.{◌≡◌, ℕ, Bool, not, ◌&&◌, ◌==◌, if◌then◌else◌, List, [], ◌∷◌, length, Option, Some, None, is_some, option_map, Result, Ok, Err, ⊤}
use Rattle.std.specs.List.{AllZip, position_from}
use Rattle.std.specs.Option.{option_map_or}
use Rattle.hops_base.specs.First.{first_some}
use Rattle.name_space.specs.Script.{Script}
use Rattle.serde_json.specs.Data.{Data, object, Members}
use Rattle.serde_json.specs.Find.{as_object}
use Rattle.script_text.specs.Json.{row, keys_of, at_key}
use Rattle.script_text.specs.Faults.{value_of, data_fault, has, is_short_array, values_at}
use Rattle.script_text.specs.Reading.{SaysScript}
use Rattle.core_replay.specs.declared.fault.InputError.{InputError}
use Rattle.core_replay.specs.declared.fault.InputError.TheVariants.{Bad, NoMemory}
use Rattle.core_replay.specs.declared.fault.InputFault.{InputFault}
use Rattle.core_replay.specs.declared.fault.InputFault.TheVariants.{Form, OfScript, Events, Event}
use Rattle.core_replay.specs.declared.input.Input.{Input}
use Rattle.core_replay.specs.declared.listed.Listed.{Listed}
use Rattle.core_replay.specs.Events.{as_listed, event_of}

-- the most events of an input
abbrev pub most_events : ℕ
most_events = 1000000

-- the fault, where the rule doesn't hold
abbrev pub wrong_unless : Bool → InputFault → Option InputFault
wrong_unless holds told = if holds then None else Some told

-- there are a script and events, and nothing else
abbrev pub has_both_keys : Members → Bool
has_both_keys ms = is_some (at_key "script" ms) && is_some (at_key "events" ms) && length (keys_of ms) == 2

-- what is wrong with the script; with none at its key, it's the form
abbrev pub script_fault_in : Members → Option InputFault
script_fault_in ms = option_map_or (λ value. option_map OfScript (data_fault value)) (at_key "script" ms) (Some Form)

-- the place of the first value that is no event
abbrev pub bad_event : List Data → Option ℕ
bad_event values = position_from (λ value. not (is_some (event_of value))) 0 values

-- what is wrong with the events: their array, and then the first bad event
abbrev pub events_fault_in : Members → Option InputFault
events_fault_in ms = first_some (wrong_unless (has "events" (is_short_array most_events) ms) Events ∷ option_map Event (bad_event (values_at "events" ms)) ∷ [])

-- what is wrong with the members: their keys, then the script, and then the events
abbrev pub members_fault : Members → Option InputFault
members_fault ms = first_some (wrong_unless (has_both_keys ms) Form ∷ script_fault_in ms ∷ events_fault_in ms ∷ [])

-- what is wrong with a value; it is of another form also where it is no object
abbrev pub value_fault : Data → Option InputFault
value_fault value = option_map_or members_fault (as_object value) (Some Form)

-- what is wrong with bytes as an input
abbrev pub input_fault : List ℕ → Option InputFault
input_fault bytes = option_map_or value_fault (value_of bytes) (Some Form)

-- the value says the event
abbrev pub SaysEvent : Data → Listed → Type 0
SaysEvent value event = event_of value ≡ Some (as_listed event)

-- the members say the script
abbrev pub HasScript : Members → Script → Type 0
HasScript ms script = (value : Data) × (at_key "script" ms ≡ Some value) × SaysScript value script

-- the members say these events
abbrev pub HasEvents : Members → List Listed → Type 0
HasEvents ms events = (values : List Data) × (at_key "events" ms ≡ Some (row values)) × AllZip SaysEvent values events

-- the members say the input
abbrev pub HasInput : Members → Input → Type 0
HasInput ms input = HasScript ms input.script × HasEvents ms input.events.items

-- the value says the input
abbrev pub SaysInput : Data → Input → Type 0
SaysInput value input = (ms : Members) × (value ≡ object ms) × HasInput ms input

-- what a reader of a part answers: something that the part says, where it has no fault, or its fault; want of memory is free
abbrev pub IsReadAs : {T : Type 0} → Option InputFault → (T → Type 0) → Result T InputError → Type 0
IsReadAs fault Is (Ok read) = (fault ≡ None) × Is read
IsReadAs fault Is (Err (Bad told)) = fault ≡ Some told
IsReadAs fault Is (Err NoMemory) = ⊤

-- what a reader answers: the input that the bytes say, or why they are none; want of memory is free
abbrev pub IsInputRead : List ℕ → Result Input InputError → Type 0
IsInputRead bytes = IsReadAs (input_fault bytes) (λ input. (value : Data) × (value_of bytes ≡ Some value) × SaysInput value input)
