-- The view that a session's call is answered from.
use Rattle.std.proofs.Common.{Result, Ok, Err, IfOk}
use Rattle.hops_base.specs.declared.memory.NoMemory.{NoMemory}
use Rattle.db_state.specs.declared.outcome.Outcome.{Outcome}
use Rattle.db_state.specs.declared.view.View.{View}
use Rattle.db_state.specs.CallsTable.{IsCallsTable}
use Rattle.db_state.specs.Effects.{KeepsOthers}
use Rattle.db_state.specs.Locked.{WritesOwn}
use Rattle.db_state.specs.Reads.{Reads}
use Rattle.hops_core.specs.declared.view.Asked.{Asked}
use Rattle.hops_core.specs.Views.{IsMadeOf, IsOutcomeOf}

-- the outcome of a call by such a view
pub outcome_by : (reads : Reads) (asked : Asked) (view : View) (told : Result Outcome NoMemory) → IsMadeOf reads asked view → IfOk told (IsCallsTable view asked.client asked.user asked.call)
    → IfOk told (WritesOwn view asked.client asked.call) → IfOk told (KeepsOthers view asked.client asked.call) → IfOk told (IsOutcomeOf reads asked)
outcome_by reads asked view (Ok outcome) made table own keeps = record { view = view; made = made; table = table; own = own; keeps = keeps }
outcome_by reads asked view (Err why) made table own keeps = tt
