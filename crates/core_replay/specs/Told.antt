-- What is told of events. This project's own.
use Rattle.std.specs.Prelude.{ℕ, Bool, true, false, List, [], ◌∷◌}
use Rattle.serde_json.specs.Data.{Data}
use Rattle.script_text.specs.Json.{whole, word, row}
use Rattle.report_text.specs.Replies.{reply_data}
use Rattle.hops_core.specs.declared.begin_fault.BeginFault.TheVariants as fault
use Rattle.hops_core.specs.declared.event.EventAnswer.{EventAnswer}
use Rattle.hops_core.specs.declared.event.EventAnswer.TheVariants.{Skipped, Opened, Refused, Advanced, Ended}
use Rattle.hops_core.specs.declared.progress.Progress.{Progress}
use Rattle.hops_core.specs.declared.progress.Progress.TheVariants.{More, Met, Done, Fenced, NoMemory}

-- the answer isn't that memory ran out
abbrev pub has_memory : EventAnswer → Bool
has_memory (Refused fault.NoMemory) = false
has_memory (Advanced NoMemory) = false
has_memory told = true

-- what a step came to: a word, and what belongs to it. Want of memory isn't told so
abbrev pub progress_values : Progress → List Data
progress_values More = word "more" ∷ []
progress_values (Met i) = word "met" ∷ whole i ∷ []
progress_values (Done i reply) = word "done" ∷ whole i ∷ reply_data reply ∷ []
progress_values (Fenced i) = word "fenced" ∷ whole i ∷ []
progress_values NoMemory = []

-- what came of an event: a word, and what belongs to it. Want of memory isn't told so
abbrev pub told_values : EventAnswer → List Data
told_values Skipped = word "skipped" ∷ []
told_values (Opened s) = word "session" ∷ whole s.0 ∷ []
told_values (Refused (fault.NodeGone i)) = word "nodegone" ∷ whole i ∷ []
told_values (Refused fault.NoMemory) = []
told_values (Advanced progress) = progress_values progress
told_values Ended = word "ok" ∷ []

-- the line of the event at this place
abbrev pub event_data : ℕ → EventAnswer → Data
event_data place told = row (word "event" ∷ whole place ∷ row (told_values told) ∷ [])
