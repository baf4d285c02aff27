use Rattle.std.proofs.Common.{map, ap, ◌∙◌}
use Rattle.serde_json.specs.View.{view}
use Rattle.script_text.specs.Json.{row}
use Rattle.script_text.proofs.Reading.{read_so, value_is, stops_fault_is}
use Rattle.script_text.proofs.read_stops.read_stops.Goals as goal

pub returns-in-Some : goal.returns-in-Some
returns-in-Some c =
    let is = value_is (view c.args.value.now) (map view c.in-Some.values.now) c.in-Some.ensures in
    read_so _ _ _ _ c.stops_of.result (stops_fault_is c.args.namenodes (view c.args.value.now) (map view c.in-Some.values.now) is) (λ stops said. is ∙ ap row said) c.stops_of.ensures
