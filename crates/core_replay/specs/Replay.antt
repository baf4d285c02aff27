-- What a list of events makes of a core, and the text that tells it. This project's own.
use Rattle.std.specs.Prelude.{◌≡◌, ℕ, ◌+◌, true, List, [], ◌∷◌, ◌++◌, length, map, flat_map, MatchOption}
use Rattle.name_space.specs.Namespace.{Namespace}
use Rattle.name_space.specs.Script.{Script, users_of, call_of}
use Rattle.name_space.specs.declared.call.Call.{Call}
use Rattle.commit_log.specs.Legal.{space}
use Rattle.commit_log.specs.declared.note.Note.{Note}
use Rattle.db_state.specs.Core.{IsCore}
use Rattle.db_state.specs.Settings.{Settings}
use Rattle.db_state.specs.State.{State, opening_state}
use Rattle.hops_core.specs.Events.{Happens}
use Rattle.hops_core.specs.declared.event.Event.TheVariants as event
use Rattle.hops_core.specs.declared.event.EventAnswer.{EventAnswer}
use Rattle.hops_core.specs.declared.event.EventAnswer.TheVariants as answer
use Rattle.serde_json.specs.Data.{Data}
use Rattle.report_text.specs.Entries.{place_data}
use Rattle.report_text.specs.Report.{counts_data, line_of, notes_data}
use Rattle.core_replay.specs.declared.listed.Listed.{Listed}
use Rattle.core_replay.specs.declared.listed.Listed.TheVariants.{Begin, Advance, Quit, Stop, Beat, Sweep}
use Rattle.core_replay.specs.Told.{has_memory, event_data}

-- what the core knows of a script
abbrev pub settings_of : Script → Settings
settings_of script = record { namenodes = script.namenodes; users = users_of script; grace = script.grace; stops = script.stops }

-- what comes of a listed event and is told of it: it is the core's event, with the script's call where it begins one; where there
-- is no such call, it is skipped. A stop, a beat and a sweep can't come yet
abbrev pub Comes : Script → State → Listed → EventAnswer → State → Type 0
Comes script old (Begin client number node) told new =
    MatchOption (call_of script client number) ((told ≡ answer.Skipped) × (new ≡ old)) (λ (call : Call). Happens old (event.Begin client number call node) told new)
Comes script old (Advance session hints) told new = Happens old (event.Advance session hints) told new
Comes script old (Quit session) told new = Happens old (event.Quit session) told new
Comes script old (Stop node) told new = ⊥
Comes script old (Beat node) told new = ⊥
Comes script old Sweep told new = ⊥

-- what one event made: the notes that it wrote, and its answer
pub record Made : Type 0 where
  pub notes : List Note
  pub answer : EventAnswer

-- the event makes this: it comes to this answer, for which there was memory; its notes are those that the book gets; and all is
-- as it always is
pub record Makes (script : Script) (old : State) (listed : Listed) (made : Made) (new : State) : Type 0 where
  pub comes : Comes script old listed made.answer new
  pub notes : new.stored.notes ≡ old.stored.notes ++ made.notes
  pub memory : has_memory made.answer ≡ true
  pub core : IsCore new

-- the events make this, one after another
abbrev pub MakesAll : Script → State → List Listed → List Made → State → Type 0
MakesAll script old [] [] new = new ≡ old
MakesAll script old [] (made ∷ others) new = ⊥
MakesAll script old (listed ∷ events) [] new = ⊥
MakesAll script old (listed ∷ events) (made ∷ others) new = (next : State) × Makes script old listed made next × MakesAll script next events others new

-- the lines of what events made, from the event at this place and the note of this number on: of each, its notes and then its answer
abbrev pub made_data : ℕ → ℕ → List Made → List Data
made_data place first [] = []
made_data place first (made ∷ others) = notes_data first made.notes ++ event_data place made.answer ∷ made_data (place + 1) (first + length made.notes) others

-- the lines of a replay: those of its events, the paths of the namespace that is left, and the counts of notes, events and paths
abbrev pub replay_data : List Note → List Made → Namespace → List Data
replay_data notes made tree = made_data 0 0 made ++ (map place_data tree ++ counts_data (length notes) (length made) (length tree) ∷ [])

-- the text tells what these events make of the script's opening core
pub record IsReplayOf (script : Script) (events : List Listed) (text : List ℕ) : Type 0 where
  pub made : List Made
  pub last : State
  pub makes : MakesAll script (opening_state (settings_of script)) events made last
  pub core : IsCore last
  pub text_is : text ≡ flat_map line_of (replay_data last.stored.notes made (space last.stored.settings.users last.stored.notes))
