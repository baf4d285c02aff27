-- What the parts of a replay add to its text. This project's own.
use Rattle.std.specs.Prelude.{◌≡◌, ℕ, List, ◌∷◌, [], ◌++◌, length, flat_map}
use Rattle.name_space.specs.Script.{Script}
use Rattle.db_state.specs.State.{State}
use Rattle.report_text.specs.Report.{line_of, notes_data}
use Rattle.core_replay.specs.declared.listed.Listed.{Listed}
use Rattle.core_replay.specs.Replay.{Made, Makes, MakesAll, made_data}
use Rattle.core_replay.specs.Told.{event_data}

-- the event at this place makes something, of which these lines are added
pub record IsTold (script : Script) (old : State) (place : ℕ) (listed : Listed) (new : State) (before after : List ℕ) : Type 0 where
  pub made : Made
  pub makes : Makes script old listed made new
  pub lines : after ≡ before ++ flat_map line_of (notes_data (length old.stored.notes) made.notes ++ event_data place made.answer ∷ [])

-- the events make something, of which these are the lines
pub record AreTold (script : Script) (old : State) (events : List Listed) (new : State) (text : List ℕ) : Type 0 where
  pub made : List Made
  pub makes : MakesAll script old events made new
  pub lines : text ≡ flat_map line_of (made_data 0 0 made)
